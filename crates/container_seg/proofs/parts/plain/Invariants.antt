use Rattle.std.proofs.Common.{◌≡◌, map}
use Rattle.container_seg.specs.Scans.{plain_entry}
use Rattle.container_seg.proofs.parts.plain.Given as goal

-- the entries so far
abbrev pub invariant-loop-entry : goal.invariant-loop-entry
invariant-loop-entry l = l.entries.list ≡ map plain_entry l.yielded
