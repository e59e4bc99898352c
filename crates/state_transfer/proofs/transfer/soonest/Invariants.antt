use Rattle.std.proofs.Common.{◌≡◌, ℕ, take}
use Rattle.container_seg.specs.Lifespans.{outlasts}
use Rattle.state_transfer.specs.Calls.{are_lasting}
use Rattle.state_transfer.proofs.transfer.soonest.Given as goal

-- the soonest deadline of the entries so far
abbrev pub invariant-loop-entry : goal.invariant-loop-entry
invariant-loop-entry l = (clock : ℕ) → outlasts clock l.soonest ≡ are_lasting clock (take l.entry-index l.entries)
