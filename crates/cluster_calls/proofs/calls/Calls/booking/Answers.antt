use Rattle.std.proofs.Common.{◌≡◌, Some, refl, sym, subst, ap, ◌∙◌, arith}
use Rattle.std.specs.FinMap as map_of
use Rattle.std.specs.Prelude.{slice_get}
use Rattle.local_publisher.specs.Units.{ended}
use Rattle.local_publisher.specs.Work.{Work}
use Rattle.pipeline_split.specs.Pieces.{joined, piece}
use Rattle.pipeline_split.specs.declared.piece.Piece.TheVariants.{Nothing}
use Rattle.reduce_cluster.specs.Reduced.{share_of}
use Rattle.cluster_model.specs.State.{Calling, Unit}
use Rattle.cluster_calls.specs.Parts.{booking_in}
use Rattle.cluster_calls.proofs.CallsLaws.{read_unit}
use Rattle.cluster_calls.proofs.ListLaws.{get_within}
use Rattle.cluster_calls.proofs.PartQueries.{absent_booking, none_booking, parts_of_row, some_booking}
use Rattle.cluster_calls.proofs.calls.Calls.booking.Goals as goal

pub returns-in_default : goal.returns-in_default
returns-in_default c = λ u g.
    let units = c.self.inside.units.items in
    let rows = c.self.inside.table in
    let at : slice_get units c.args.place ≡ Some u = subst (λ (x : Calling). slice_get x.units c.args.place ≡ Some u) (sym c.self.view_is) g in
    let is = read_unit units c.args.place u c.index-unit.result.now at c.index-unit.ensures in
    let call = c.call.ensures ∙ ap (λ (w : Unit). w.work.call) is in
    absent_booking c.self.inside.segments units rows (record u { work = ended u.work }) (ap (map_of.get rows) (sym call) ∙ sym c.in_default.ensures)
    ∙ ap (λ (x : Calling). booking_in x (record u { work = ended u.work })) c.self.view_is

pub returns-in_default-parts : goal.returns-in_default-parts
returns-in_default-parts c = λ u g.
    let units = c.self.inside.units.items in
    let rows = c.self.inside.table in
    let at : slice_get units c.args.place ≡ Some u = subst (λ (x : Calling). slice_get x.units c.args.place ≡ Some u) (sym c.self.view_is) g in
    let is = read_unit units c.args.place u c.index-unit.result.now at c.index-unit.ensures in
    let call = c.call.ensures ∙ ap (λ (w : Unit). w.work.call) is in
    none_booking c.self.inside.segments units rows (record u { work = ended u.work }) c.in-Some.row.now c.self.invariant.pieced
    (ap (map_of.get rows) (sym call) ∙ sym c.in-Some.ensures) c.in_default-parts.is
    ∙ ap (λ (x : Calling). booking_in x (record u { work = ended u.work })) c.self.view_is

pub with_entries-requires : goal.with_entries-requires
with_entries-requires c =
    let h = get_within c.args.self.now.units c.args.place c.requires in
    let u = h.0 in
    let g = h.1 in
    let units = c.self.inside.units.items in
    let rows = c.self.inside.table in
    let at : slice_get units c.args.place ≡ Some u = subst (λ (x : Calling). slice_get x.units c.args.place ≡ Some u) (sym c.self.view_is) g in
    let is = read_unit units c.args.place u c.index-unit.result.now at c.index-unit.ensures in
    let call = c.call.ensures ∙ ap (λ (w : Unit). w.work.call) is in
    let has = parts_of_row c.self.inside.segments units rows u.work.call c.in-Some.row.now c.in-Some-parts.parts c.self.invariant.pieced
    (ap (map_of.get rows) (sym call) ∙ sym c.in-Some.ensures) c.in-Some-parts.is in
    omega (arith, has.wide, (c.self.invariant.right.placed c.args.place u at).within, c.segment.ensures ∙ ap (λ (w : Unit). w.work.segment) is)

pub returns : goal.returns
returns c = λ u g.
    let units = c.self.inside.units.items in
    let rows = c.self.inside.table in
    let at : slice_get units c.args.place ≡ Some u = subst (λ (x : Calling). slice_get x.units c.args.place ≡ Some u) (sym c.self.view_is) g in
    let is = read_unit units c.args.place u c.index-unit.result.now at c.index-unit.ensures in
    let call = c.call.ensures ∙ ap (λ (w : Unit). w.work.call) is in
    let there = ap (map_of.get rows) (sym call) ∙ sym c.in-Some.ensures in
    let row = c.in-Some.row.now in
    let parts = c.in-Some-parts.parts in
    let segment = c.segment.ensures ∙ ap (λ (w : Unit). w.work.segment) is in
    let has = parts_of_row c.self.inside.segments units rows u.work.call row parts c.self.invariant.pieced there c.in-Some-parts.is in
    let entries = ap (λ (w : Work). w.entries) (c.behind-unit.view_is ∙ c.work.ensures ∙ ap (λ (w : Unit). w.work) is) in
    let made = c.in_ok-made.ensures ∙ (λ i. joined (share_of Nothing parts.booked (segment i)) (piece (has.remote i) (entries i))) in
    some_booking c.self.inside.segments units rows (record u { work = ended u.work }) row parts c.in_ok-made.made c.self.invariant.pieced
    (c.self.invariant.right.placed c.args.place u at).within there c.in-Some-parts.is refl made
    ∙ ap (λ (x : Calling). booking_in x (record u { work = ended u.work })) c.self.view_is
