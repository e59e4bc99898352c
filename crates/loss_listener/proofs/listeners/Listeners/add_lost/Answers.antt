use Rattle.std.proofs.Common.{◌≡◌, ℕ, ap, sym, ◌∙◌, ◌||◌, ◌&&◌, nat_cmp}
use Rattle.std.proofs.lemmas.Result.{on_ok_weaker}
use Rattle.std.specs.BTreeSet.{contains}
use Rattle.loss_listener.specs.declared.place.Place.{Place}
use Rattle.loss_listener.specs.Index.{set_has, lent_has}
use Rattle.loss_listener.specs.Registered.{is_registered}
use Rattle.loss_listener.proofs.LostLaws.{lent_copied}
use Rattle.loss_listener.proofs.RegisteredLaws.{is_registered-listed}
use Rattle.loss_listener.proofs.listeners.Listeners.add_lost.Goals as goal

pub returns : goal.returns
returns c =
    let place : Place = record { node = c.args.node; segment = c.args.segment } in
    on_ok_weaker c.add_all.result
    (λ (adds : (u : ℕ) → contains nat_cmp c.add_all.new.found u ≡ (contains nat_cmp c.args.found.now u || lent_has c.get.result u)). λ u.
    adds u
    ∙ ap (λ b. contains nat_cmp c.args.found.now u || b)
    (lent_copied c.get.result u
    ∙ ap (λ o. set_has o u) c.get.ensures.value
    ∙ c.self.invariant place u
    ∙ sym (is_registered-listed c.self.inside.units.entries c.args.node c.args.segment u)
    ∙ ap (λ r. is_registered r c.args.node c.args.segment u) c.self.view_is
    ∙ ap (λ b. b && is_registered c.args.self.now c.args.node c.args.segment u) c.if-not-has.ensures))
    c.add_all.ensures
