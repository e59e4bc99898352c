use Rattle.std.proofs.Common.{◌∙◌, ap, sym}
use Rattle.std.specs.FinSet as sets
use Rattle.grid_base.proofs.NodesLemmas.{len-flagged}
use Rattle.grid_base.proofs.node_set.NodeSet.count.Goals as goal

pub returns : goal.returns
returns c = c.count_up.ensures ∙ sym (len-flagged 0 c.self.inside.flags) ∙ ap sets.len c.self.view_is
