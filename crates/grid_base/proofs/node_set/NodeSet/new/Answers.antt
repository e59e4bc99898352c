use Rattle.std.proofs.Common.{refl}
use Rattle.grid_base.specs.Nodes.{flagged}
use Rattle.grid_base.proofs.node_set.NodeSet.new.Goals as goal

pub returns : goal.returns
unfolding flagged
returns c = refl
