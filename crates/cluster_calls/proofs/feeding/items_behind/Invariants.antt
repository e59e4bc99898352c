use Rattle.std.proofs.Common.{◌≡◌}
use Rattle.cluster_calls.proofs.feeding.items_behind.Given as goal

abbrev pub invariant-loop-item : goal.invariant-loop-item
invariant-loop-item l = l.left.list ≡ l.yielded
