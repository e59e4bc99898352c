use Rattle.std.proofs.Common.{◌∙◌, refl, sym, ap, inl, inr, arith}
use Rattle.std.proofs.lemmas.Bool.{cases_lt, true≢false}
use Rattle.std.specs.FinSet as sets
use Rattle.std.specs.Ordering.{nat_cmp}
use Rattle.grid_base.specs.Nodes.{contains-flagged}
use Rattle.grid_base.proofs.NodesLemmas.{flagged-empty}
use Rattle.grid_base.proofs.node_set.NodeSet.least.Goals as goal

pub returns-then-self-place-clause-member : goal.returns-then-self-place-clause-member
returns-then-self-place-clause-member c =
    (λ i. sets.contains (sym c.self.view_is i) (c.new.ensures i))
    ∙ contains-flagged c.self.inside.flags c.loop-place.place
    ∙ c.if-self-place.true

pub returns-then-self-place-clause-empty : goal.returns-then-self-place-clause-empty
returns-then-self-place-clause-empty c = (
  λ e. absurd (true≢false e),
  λ e. sym (returns-then-self-place-clause-member c)
      ∙ ap (λ nodes. sets.contains nodes c.new.result) e
      ∙ sets.contains-empty nat_cmp c.new.result,
)

pub returns-then-self-place-clause-least : goal.returns-then-self-place-clause-least
returns-then-self-place-clause-least c q h =
    elim (cases_lt q c.loop-place.place) [
      | inl below ↦ absurd (true≢false (
          sym h
          ∙ ap (λ nodes. sets.contains nodes q) (sym c.self.view_is)
          ∙ contains-flagged c.self.inside.flags q
          ∙ c.loop-place.invariant q below))
      | inr above ↦ omega arith
    ]

pub returns-clause-empty : goal.returns-clause-empty
returns-clause-empty c = (
  λ _. sym c.self.view_is
      ∙ flagged-empty c.self.inside.flags c.loop-place.place (omega (arith, c.self.invariant)) c.loop-place.invariant,
  λ _. refl,
)
