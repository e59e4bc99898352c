use Rattle.std.proofs.Common.{◌≡◌, take}
use Rattle.cluster_calls.specs.Takings.{taken_in}
use Rattle.cluster_calls.proofs.taken.taken_from.Given as goal

abbrev pub invariant-loop-entry : goal.invariant-loop-entry
invariant-loop-entry l = l.taken.list ≡ taken_in l.segment (take l.entry-index l.entries)
