use Rattle.std.proofs.Common.{◌∙◌, sym, arith}
use Rattle.std.specs.FinSet as sets
use Rattle.grid_base.proofs.NodesLemmas.{flagged-set_false, flagged-beyond}
use Rattle.grid_base.proofs.node_set.NodeSet.remove.Goals as goal

pub returns-then-place-lt16 : goal.returns-then-place-lt16
returns-then-place-lt16 c =
    flagged-set_false c.self.inside.flags c.number-place.result
    ∙ (λ i. sets.remove (c.self.view_is i) (c.number-place.ensures i))

pub returns-else-place-lt16 : goal.returns-else-place-lt16
returns-else-place-lt16 c =
    sym c.self.view_is
    ∙ flagged-beyond c.self.inside.flags c.number-place.result (omega (arith, c.self.invariant))
    ∙ (λ i. sets.remove (c.self.view_is i) (c.number-place.ensures i))
