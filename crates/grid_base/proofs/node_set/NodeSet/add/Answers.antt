use Rattle.std.proofs.Common.{◌∙◌, arith}
use Rattle.std.specs.FinSet as sets
use Rattle.grid_base.proofs.NodesLemmas.{flagged-set_true}
use Rattle.grid_base.proofs.node_set.NodeSet.add.Goals as goal

pub returns : goal.returns
returns c =
    flagged-set_true c.self.inside.flags c.number.result (omega (arith, c.self.invariant))
    ∙ (λ i. sets.insert (c.self.view_is i) (c.number.ensures i))
