use Rattle.std.proofs.Common.{ap, refl, Some, cond, ◌∙◌, IsSome, subst, nat_cmp}
use Rattle.std.specs.BTreeMap.{is_at, get}
use Rattle.std.specs.List.{list_any}
use Rattle.loss_listener.specs.declared.place.Place.{Place}
use Rattle.loss_listener.specs.Index.{set_has}
use Rattle.loss_listener.specs.Places.{place_cmp}
use Rattle.loss_listener.proofs.IndexLaws.{index_has-added, index_has-same, OnErr-all}
use Rattle.loss_listener.proofs.index.add.Goals as goal

pub returns-in_err-insert-clause-err : goal.returns-in_err-insert-clause-err
returns-in_err-insert-clause-err c =
    let found : IsSome _ = subst IsSome c.in-Some.ensures.value refl in
    OnErr-all c.from_residual.result
    (index_has-same c.args.index.now.entries (c.get_mut.follows.lender c.insert.new.self).entries (record { node = c.args.node; segment = c.args.segment }) c.insert.new.self
    ((c.get_mut.follows.holds c.insert.new.self).3 found).0
    (λ u. ap (list_any (is_at (nat_cmp u))) c.in_err-insert.ensures.err ∙ ap (λ o. set_has o u) c.in-Some.ensures.value))

pub returns-in-Some-clause-ok : goal.returns-in-Some-clause-ok
returns-in-Some-clause-ok c =
    let found : IsSome _ = subst IsSome c.in-Some.ensures.value refl in
    index_has-added c.args.index.now.entries (c.get_mut.follows.lender c.insert.new.self).entries (record { node = c.args.node; segment = c.args.segment }) c.args.unit c.in-Some.units.now c.insert.new.self
    ((c.get_mut.follows.holds c.insert.new.self).3 found).0
    (λ u. ap (λ o. set_has o u) c.in-Some.ensures.value)
    c.in_ok-insert.ensures.updates.0

pub returns-clause-ok : goal.returns-clause-ok
returns-clause-ok c =
    let place : Place = record { node = c.args.node; segment = c.args.segment } in
    index_has-added c.args.index.now.entries c.insert-3.new.self.entries place c.args.unit c.new-units.result c.insert-2.new.self
    (λ q. c.in_ok-insert-3.ensures.updates.0 q ∙ ap (λ m. cond (is_at (place_cmp place) q) (Some c.insert-2.new.self) (get place_cmp m q)) c.get_mut.follows.holds-at-none)
    (λ u. ap (list_any (is_at (nat_cmp u))) c.new-units.ensures.empty ∙ ap (λ o. set_has o u) c.in_default.ensures.value)
    c.in_ok-insert-2.ensures.updates.0
