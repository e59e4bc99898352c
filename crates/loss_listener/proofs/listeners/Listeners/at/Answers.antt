use Rattle.std.proofs.Common.{ap, sym, refl, ◌∙◌, ◌≡◌, ℕ, length, true≢false}
use Rattle.loss_listener.specs.declared.place.Place.{Place}
use Rattle.loss_listener.specs.Index.{set_has}
use Rattle.loss_listener.specs.Registered.{is_registered}
use Rattle.loss_listener.proofs.RegisteredLaws.{is_registered-listed, has_none, has_some}
use Rattle.loss_listener.proofs.listeners.Listeners.at.Goals as goal

pub returns-in_default-clause-none : goal.returns-in_default-clause-none
returns-in_default-clause-none c =
    let place : Place = record { node = c.args.node; segment = c.args.segment } in
    let indexed = λ (u : ℕ).
    c.self.invariant place u ∙ sym (is_registered-listed c.self.inside.units.entries c.args.node c.args.segment u) ∙ ap (λ r. is_registered r c.args.node c.args.segment u) c.self.view_is in
    (λ _ u. sym (indexed u) ∙ ap (λ o. set_has o u) (sym c.in_default.ensures.value), λ _. refl)

pub returns-then-is_empty-clause-none : goal.returns-then-is_empty-clause-none
returns-then-is_empty-clause-none c =
    let place : Place = record { node = c.args.node; segment = c.args.segment } in
    let indexed = λ (u : ℕ).
    c.self.invariant place u ∙ sym (is_registered-listed c.self.inside.units.entries c.args.node c.args.segment u) ∙ ap (λ r. is_registered r c.args.node c.args.segment u) c.self.view_is in
    let empty : length c.in-Some.units.now.keys ≡ 0 = c.is_empty.ensures.0 c.if-is_empty.true in
    (λ _ u. sym (indexed u) ∙ ap (λ o. set_has o u) (sym c.in-Some.ensures.value) ∙ has_none c.in-Some.units.now.keys empty u, λ _. refl)

pub returns-clause-none : goal.returns-clause-none
returns-clause-none c =
    let place : Place = record { node = c.args.node; segment = c.args.segment } in
    let indexed = λ (u : ℕ).
    c.self.invariant place u ∙ sym (is_registered-listed c.self.inside.units.entries c.args.node c.args.segment u) ∙ ap (λ r. is_registered r c.args.node c.args.segment u) c.self.view_is in (
      λ e. absurd (true≢false e),
      λ none. has_some c.in-Some.units.now.keys (λ z. true≢false (sym (c.is_empty.ensures.1 z) ∙ c.if-is_empty.false)) (λ q. ap (λ o. set_has o q) c.in-Some.ensures.value ∙ indexed q ∙ none q),
    )

pub returns-clause-units : goal.returns-clause-units
returns-clause-units c = λ u.
    let place : Place = record { node = c.args.node; segment = c.args.segment } in
    ap (λ o. set_has o u) c.in-Some.ensures.value
    ∙ c.self.invariant place u
    ∙ sym (is_registered-listed c.self.inside.units.entries c.args.node c.args.segment u)
    ∙ ap (λ r. is_registered r c.args.node c.args.segment u) c.self.view_is
