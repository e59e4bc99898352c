use Rattle.std.proofs.Common.{ℕ, ◌-◌, ◌++◌, List, Option, [], ◌∷◌, refl, sym, ap, ◌∙◌, arith}
use Rattle.std.proofs.lemmas.Option.{slice_get_read}
use Rattle.std.specs.Prelude.{slice_get}
use Rattle.pipeline_split.specs.declared.piece.Piece.{Piece}
use Rattle.cluster_calls.specs.Listed.{booking_of}
use Rattle.cluster_calls.specs.Parts.{booking_departed}
use Rattle.cluster_calls.proofs.ListLaws.{get_within}
use Rattle.cluster_calls.proofs.PartLists.{map-take_more}
use Rattle.cluster_calls.proofs.calls.Calls.departures.Goals as goal

pub departure-requires : goal.departure-requires
departure-requires c =
    let number = slice_get_read c.args.units.now _ c.loop-unit.unit-index c.unit-item.result refl c.loop-unit-test.true c.unit-item.is in
    let there = c.requires c.loop-unit.unit-index c.unit-item.result number in
    omega (arith, there.0, there.1, c.place_of-place.ensures)

pub loop-unit-preserved : goal.loop-unit-preserved
loop-unit-preserved c =
    let units = c.args.self.now.units in
    let n = c.unit-item.result in
    let number = slice_get_read c.args.units.now _ c.loop-unit.unit-index n refl c.loop-unit-test.true c.unit-item.is in
    let there = c.requires c.loop-unit.unit-index n number in
    let h = get_within units (n - 1) (omega (arith, there.0, there.1)) in
    let book = λ (m : ℕ). booking_of (booking_departed c.args.self.now c.args.node) (slice_get units (m - 1)) in
    let made = c.in_ok-departure.ensures h.0 (ap (slice_get units) c.place_of-place.ensures ∙ h.1) ∙ sym (ap (booking_of (booking_departed c.args.self.now c.args.node)) h.1) in
    ◌∙◌ {A = List (Option Piece)} c.in_ok-push.ensures.items
    (◌∙◌ {A = List (Option Piece)} (λ i. c.loop-unit.invariant i ++ made i ∷ []) (map-take_more book c.args.units.now c.loop-unit.unit-index n number))
