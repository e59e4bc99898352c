use Rattle.std.proofs.Common.{◌≡◌, ◌==◌, ◌+◌, ◌-◌, true, Some, None, List, map, refl, sym, subst, ap, ◌∙◌, arith}
use Rattle.std.proofs.lemmas.Option.{get_or_from_slice_get, slice_get_read}
use Rattle.std.specs.Prelude.{slice_get, slice_set}
use Rattle.cluster_model.specs.State.{Calling, Unit, is_open_unit}
use Rattle.cluster_model.specs.Topologies.{with_departure}
use Rattle.cluster_calls.specs.Listed.{leaves}
use Rattle.cluster_calls.proofs.BothLaws.{and_left}
use Rattle.cluster_calls.proofs.ListLaws.{get_within}
use Rattle.cluster_calls.proofs.LosingLaws.{AreLosing, booked_where, lost_where, losing_first, losing_last, losing_more, map-lost}
use Rattle.cluster_calls.proofs.PartQueries.{AreNewest}
use Rattle.cluster_calls.proofs.calls.Calls.lose_each.Goals as goal

pub loop-index-init : goal.loop-index-init
loop-index-init c = record {
  rest = refl;
  units = refl;
  losing =
      losing_first (leaves c.args.node) None c.args.units.now c.args.self.now c.args.made.items c.requires.listed
      (subst (λ (y : Calling). AreNewest y.units) c.self.view_is c.self.invariant.pieced.newest) c.requires.made;
}

pub index_mut-requires : goal.index_mut-requires
index_mut-requires c = let wide = c.loop-index.invariant.losing.wide in omega (arith, wide, c.loop-index-test.true)

pub lose_one-requires-clause-place : goal.lose_one-requires-clause-place
lose_one-requires-clause-place c =
    let number = slice_get_read c.args.units.now _ c.loop-index.index c.index-units-index.result refl c.loop-index-test.true c.index-units-index.is in
    let there = c.loop-index.invariant.losing.there c.loop-index.index c.index-units-index.result number in
    omega (arith, there.0, there.1, c.place_of-place.ensures)

pub lose_one-requires-clause-part : goal.lose_one-requires-clause-part
lose_one-requires-clause-part c = λ u g.
    let x = c.loop-index.self in
    let number = slice_get_read c.args.units.now _ c.loop-index.index c.index-units-index.result refl c.loop-index-test.true c.index-units-index.is in
    let at : slice_get x.units (c.index-units-index.result - 1) ≡ Some u = ap (slice_get x.units) (sym c.place_of-place.ensures) ∙ g in
    let here = c.loop-index.invariant.losing.booked c.loop-index.index c.index-units-index.result u (omega arith) number at in
    c.take-part.ensures.value
    ∙ c.index_mut.ensures.value
    ∙ get_or_from_slice_get c.loop-index.made.items c.loop-index.index (booked_where (leaves c.args.node) None x u) c.index_mut.result.now here

pub loop-index-preserved : goal.loop-index-preserved
loop-index-preserved c =
    let x = c.loop-index.self in
    let kept = c.loop-index.invariant in
    let n = c.index-units-index.result in
    let number = slice_get_read c.args.units.now _ c.loop-index.index n refl c.loop-index-test.true c.index-units-index.is in
    let there = kept.losing.there c.loop-index.index n number in
    let h = get_within x.units (n - 1) (omega (arith, there.0, there.1)) in
    let is = c.lose_one.ensures h.0 (ap (slice_get x.units) c.place_of-place.ensures ∙ h.1) ∙ ap (λ p. record x { units = slice_set x.units p (with_departure c.args.node h.0) }) c.place_of-place.ensures in
    let units : c.lose_one.new.self.units ≡ slice_set x.units (n - 1) (lost_where (leaves c.args.node) None h.0) = ap (λ (y : Calling). y.units) is in
    let opens : (u : Unit) → leaves c.args.node u ≡ true → is_open_unit u ≡ true = λ u e. and_left (is_open_unit u) (u.work.node == c.args.node) e in
    record {
      rest = is ∙ ap (λ (us : List Unit). record x { units = us }) (sym units) ∙ ap (λ (y : Calling). record y { units = c.lose_one.new.self.units }) kept.rest;
      units =
          ap (map (lost_where (leaves c.args.node) None)) units
          ∙ map-lost (leaves c.args.node) None opens x.units (n - 1) h.0 h.1
          ∙ kept.units;
      losing =
          subst (λ (y : Calling). AreLosing (leaves c.args.node) None c.args.units.now y (c.loop-index.index + 1) (slice_set c.loop-index.made.items c.loop-index.index c.take-part.new.self)) (sym is)
          (losing_more (leaves c.args.node) None opens c.args.units.now x c.loop-index.index n h.0 c.loop-index.made.items c.take-part.new.self kept.losing number h.1);
    }

pub returns : goal.returns
returns c =
    let x = c.loop-index.self in
    let kept = c.loop-index.invariant in
    kept.rest
    ∙ ap (λ (us : List Unit). record c.args.self.now { units = us })
    (sym (losing_last (leaves c.args.node) None c.args.units.now x c.loop-index.index c.loop-index.made.items kept.losing (omega arith)) ∙ kept.units)
