use Rattle.std.proofs.Common.{◌≡◌, ◌∙◌, false, nat_lt, sym, arith}
use Rattle.std.proofs.Math.ListN.{get_or-eq_default}
use Rattle.std.proofs.lemmas.Bool.Decides.{nat_tests}
use Rattle.std.specs.FinSet as sets
use Rattle.grid_base.specs.Nodes.{contains-flagged}
use Rattle.grid_base.proofs.node_set.NodeSet.has.Goals as goal

pub returns-then-place-lt16 : goal.returns-then-place-lt16
returns-then-place-lt16 c =
    sym (contains-flagged c.self.inside.flags c.number-place.result)
    ∙ (λ i. sets.contains (c.self.view_is i) (c.number-place.ensures i))

pub returns-else-place-lt16 : goal.returns-else-place-lt16
returns-else-place-lt16 c =
    let beyond : nat_lt c.number-place.result 16 ≡ false = grind (arith, nat_tests) in
    beyond
    ∙ sym (get_or-eq_default c.self.inside.flags false (omega (arith, c.self.invariant)))
    ∙ sym (contains-flagged c.self.inside.flags c.number-place.result)
    ∙ (λ i. sets.contains (c.self.view_is i) (c.number-place.ensures i))
