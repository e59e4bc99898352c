use Rattle.std.proofs.Common.{◌≡◌, replicate, None}
use Rattle.reduce_cluster.proofs.shares.vacant.Given as goal

abbrev pub invariant-loop : goal.invariant-loop
invariant-loop g l = l.shares.items ≡ replicate l.counter None
