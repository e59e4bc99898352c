use Rattle.std.proofs.Common.{◌≡◌, ◌==◌, ◌&&◌, ◌+◌, ◌-◌, true, Some, List, map, refl, sym, subst, ap, ◌∙◌, arith}
use Rattle.std.proofs.lemmas.Option.{get_or_from_slice_get, slice_get_read}
use Rattle.std.specs.FinSet as set_of
use Rattle.std.specs.Prelude.{slice_get, slice_set}
use Rattle.cluster_model.specs.State.{Calling, Unit, is_open_unit, is_running}
use Rattle.cluster_calls.specs.Calling.{ceases_at, with_installation}
use Rattle.cluster_calls.proofs.CallsLaws.{running_open}
use Rattle.cluster_calls.proofs.BothLaws.{and_left}
use Rattle.cluster_calls.proofs.ListLaws.{get_within}
use Rattle.cluster_calls.proofs.LosingLaws.{AreLosing, booked_where, lost_where, losing_first, losing_last, losing_more, map-lost}
use Rattle.cluster_calls.proofs.PartQueries.{AreNewest}
use Rattle.cluster_calls.proofs.calls.Calls.cease_each.Goals as goal

pub loop-index-init : goal.loop-index-init
loop-index-init c = record {
  rest = refl;
  units = refl;
  losing =
      losing_first (ceases_at c.args.node c.args.segments.now) (Some c.args.id) c.args.units.now c.args.self.now c.args.made.items c.requires.listed
      (subst (λ (y : Calling). AreNewest y.units) c.self.view_is c.self.invariant.pieced.newest) c.requires.made;
}

pub index_mut-requires : goal.index_mut-requires
index_mut-requires c = let wide = c.loop-index.invariant.losing.wide in omega (arith, wide, c.loop-index-test.true)

pub cease_one-requires-clause-place : goal.cease_one-requires-clause-place
cease_one-requires-clause-place c =
    let number = slice_get_read c.args.units.now _ c.loop-index.index c.index-units-index.result refl c.loop-index-test.true c.index-units-index.is in
    let there = c.loop-index.invariant.losing.there c.loop-index.index c.index-units-index.result number in
    omega (arith, there.0, there.1, c.place_of-place.ensures)

pub cease_one-requires-clause-part : goal.cease_one-requires-clause-part
cease_one-requires-clause-part c = λ u g.
    let x = c.loop-index.self in
    let number = slice_get_read c.args.units.now _ c.loop-index.index c.index-units-index.result refl c.loop-index-test.true c.index-units-index.is in
    let at : slice_get x.units (c.index-units-index.result - 1) ≡ Some u = ap (slice_get x.units) (sym c.place_of-place.ensures) ∙ g in
    let here = c.loop-index.invariant.losing.booked c.loop-index.index c.index-units-index.result u (omega arith) number at in
    c.take-part.ensures.value
    ∙ c.index_mut.ensures.value
    ∙ get_or_from_slice_get c.loop-index.made.items c.loop-index.index (booked_where (ceases_at c.args.node c.args.segments.now) (Some c.args.id) x u) c.index_mut.result.now here

pub loop-index-preserved : goal.loop-index-preserved
loop-index-preserved c =
    let x = c.loop-index.self in
    let kept = c.loop-index.invariant in
    let n = c.index-units-index.result in
    let number = slice_get_read c.args.units.now _ c.loop-index.index n refl c.loop-index-test.true c.index-units-index.is in
    let there = kept.losing.there c.loop-index.index n number in
    let h = get_within x.units (n - 1) (omega (arith, there.0, there.1)) in
    let is = c.cease_one.ensures h.0 (ap (slice_get x.units) c.place_of-place.ensures ∙ h.1) ∙ ap (λ p. record x { units = slice_set x.units p (with_installation c.args.node c.args.segments.now c.args.id h.0) }) c.place_of-place.ensures in
    let units : c.cease_one.new.self.units ≡ slice_set x.units (n - 1) (lost_where (ceases_at c.args.node c.args.segments.now) (Some c.args.id) h.0) = ap (λ (y : Calling). y.units) is in
    let opens : (u : Unit) → ceases_at c.args.node c.args.segments.now u ≡ true → is_open_unit u ≡ true =
    λ u e. running_open u.work.state (and_left (is_running u.work.state) ((u.work.node == c.args.node) && set_of.contains c.args.segments.now u.work.segment) e) in
    record {
      rest = is ∙ ap (λ (us : List Unit). record x { units = us }) (sym units) ∙ ap (λ (y : Calling). record y { units = c.cease_one.new.self.units }) kept.rest;
      units =
          ap (map (lost_where (ceases_at c.args.node c.args.segments.now) (Some c.args.id))) units
          ∙ map-lost (ceases_at c.args.node c.args.segments.now) (Some c.args.id) opens x.units (n - 1) h.0 h.1
          ∙ kept.units;
      losing =
          subst (λ (y : Calling). AreLosing (ceases_at c.args.node c.args.segments.now) (Some c.args.id) c.args.units.now y (c.loop-index.index + 1) (slice_set c.loop-index.made.items c.loop-index.index c.take-part.new.self)) (sym is)
          (losing_more (ceases_at c.args.node c.args.segments.now) (Some c.args.id) opens c.args.units.now x c.loop-index.index n h.0 c.loop-index.made.items c.take-part.new.self kept.losing number h.1);
    }

pub returns : goal.returns
returns c =
    let x = c.loop-index.self in
    let kept = c.loop-index.invariant in
    kept.rest
    ∙ ap (λ (us : List Unit). record c.args.self.now { units = us })
    (sym (losing_last (ceases_at c.args.node c.args.segments.now) (Some c.args.id) c.args.units.now x c.loop-index.index c.loop-index.made.items kept.losing (omega arith)) ∙ kept.units)
