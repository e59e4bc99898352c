use Rattle.std.proofs.Common.{◌≡◌, take}
use Rattle.grid_base.specs.Padded.{pad}
use Rattle.grid_base.proofs.inline_text.padded.Given as goal

abbrev pub invariant-loop-i : goal.invariant-loop-i
invariant-loop-i l = l.held ≡ pad 64 (take l.i l.bytes)
