-- A settled topology has the hash that a rebalance leads to.
use Rattle.cluster_laws.proofs.Settling.{always_settled}
use Rattle.cluster_laws.proofs.laws.settled_is_aimed.Goals as goal

pub returns : goal.returns
returns c = always_settled
