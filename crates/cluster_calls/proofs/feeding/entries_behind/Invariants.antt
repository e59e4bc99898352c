use Rattle.std.proofs.Common.{◌≡◌, ◌++◌, take}
use Rattle.cluster_calls.specs.Takings.{entries_in}
use Rattle.cluster_calls.proofs.feeding.entries_behind.Given as goal

abbrev pub invariant-loop-one : goal.invariant-loop-one
invariant-loop-one l = l.all.list ≡ entries_in (take l.one-index l.taken)

abbrev pub invariant-loop-entry : goal.invariant-loop-entry
invariant-loop-entry l = l.all.list ≡ entries_in l.taken ++ take l.entry-index l.entries
