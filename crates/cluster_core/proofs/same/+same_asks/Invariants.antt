-- The lists get shorter.
use Rattle.std.proofs.Common.{length}
use Rattle.cluster_core.proofs.same.+same_asks.Given as goal

abbrev pub decreases-same_asks : goal.decreases-same_asks
decreases-same_asks l = length l.a.now
