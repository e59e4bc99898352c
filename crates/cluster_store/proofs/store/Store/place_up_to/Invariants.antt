-- No chunk may be sent before the place so far.
use Rattle.std.proofs.Common.{◌≤◌}
use Rattle.cluster_store.specs.Hints.{IsPassed}
use Rattle.cluster_store.proofs.store.Store.place_up_to.Given as goal

abbrev pub invariant-loop-number : goal.invariant-loop-number
invariant-loop-number l = (l.number ≤ l.number-end) × IsPassed l.self l.number l.start
