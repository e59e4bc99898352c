use Rattle.std.proofs.Common.{◌≡◌, true, Some, refl, sym, subst, ap, ◌∙◌, arith}
use Rattle.std.specs.FinMap as map_of
use Rattle.std.specs.Prelude.{slice_get}
use Rattle.local_publisher.specs.Units.{ended}
use Rattle.cluster_model.specs.State.{Calling, Unit, is_ended, is_open_unit, unit_in}
use Rattle.local_publisher.specs.Stages.{is_open}
use Rattle.cluster_calls.specs.Calling.{changes_unit, is_one, may_end}
use Rattle.cluster_calls.specs.Parts.{booking_in}
use Rattle.cluster_calls.specs.Rows.{calls_in, changes_row, may_end_one, with_row_end}
use Rattle.cluster_calls.proofs.CallsLaws.{changed_kept, changed_seen, nothing_flies, numbers, read_unit, may_end_is, may_end_it}
use Rattle.cluster_calls.proofs.ListLaws.{within_get}
use Rattle.cluster_calls.proofs.PartLaws.{booking_row, pieced_closed}
use Rattle.cluster_calls.proofs.PastLaws.{past_row, past_set}
use Rattle.cluster_calls.proofs.RightLaws.{there, after_ended}
use Rattle.cluster_calls.proofs.RowTables.{calls_in-same}
use Rattle.std.specs.Prelude.{slice_set}
use Rattle.loss_listener.specs.Registered.{Registered}
use Rattle.cluster_calls.specs.Listed.{AreRegistered}
use Rattle.cluster_calls.proofs.ListedLaws.{registered_closed}
use Rattle.cluster_calls.proofs.calls.Calls.end_booked.Goals as goal

pub index_mut-unit-requires : goal.index_mut-unit-requires
index_mut-unit-requires c =
    let units = c.self.inside.units.items in
    let may : is_one may_end (unit_in units c.args.unit) ≡ true = subst (λ (x : Calling). is_one may_end (unit_in x.units c.args.unit) ≡ true) (sym c.self.view_is) c.requires.may in
    let h = there units c.args.unit may_end (numbers c.self.inside c.self.invariant) may in
    let at : slice_get units c.place_of-place.result ≡ Some h.unit = ap (slice_get units) c.place_of-place.ensures ∙ h.at in
    omega (arith, within_get units c.place_of-place.result h.unit at, c.self.inside.units.ok.0)

pub end-requires : goal.end-requires
end-requires c =
    let units = c.self.inside.units.items in
    let may : is_one may_end (unit_in units c.args.unit) ≡ true = subst (λ (x : Calling). is_one may_end (unit_in x.units c.args.unit) ≡ true) (sym c.self.view_is) c.requires.may in
    let h = there units c.args.unit may_end (numbers c.self.inside c.self.invariant) may in
    let at : slice_get units c.place_of-place.result ≡ Some h.unit = ap (slice_get units) c.place_of-place.ensures ∙ h.at in
    let is = read_unit units c.place_of-place.result h.unit c.index_mut-unit.result.now at c.index_mut-unit.ensures.value in
    subst (λ (u : Unit). may_end u ≡ true) (sym is) h.passes

pub end-requires-2-clause-some : goal.end-requires-2-clause-some
end-requires-2-clause-some c =
    let units = c.self.inside.units.items in
    let may : is_one may_end (unit_in units c.args.unit) ≡ true = subst (λ (x : Calling). is_one may_end (unit_in x.units c.args.unit) ≡ true) (sym c.self.view_is) c.requires.may in
    let h = there units c.args.unit may_end (numbers c.self.inside c.self.invariant) may in
    let at : slice_get units c.place_of-place.result ≡ Some h.unit = ap (slice_get units) c.place_of-place.ensures ∙ h.at in
    let is = read_unit units c.place_of-place.result h.unit c.index_mut-unit.result.now at c.index_mut-unit.ensures.value in
    let call = c.call-call.ensures ∙ ap (λ (u : Unit). u.work.call) is in
    let segment = c.segment-segment.ensures ∙ ap (λ (u : Unit). u.work.segment) is in
    let state = may_end_is h.unit h.passes in
    let open_ : is_open_unit h.unit ≡ true = ap is_open state.running in
    subst (λ n. is_one (may_end_one c.segment-segment.result) (map_of.get c.self.inside.table n) ≡ true) (sym call)
    (subst (λ s. is_one (may_end_one s) (map_of.get c.self.inside.table h.unit.work.call) ≡ true) (sym segment)
    (may_end_it c.self.inside.segments units c.self.inside.table c.place_of-place.result h.unit c.self.invariant.right c.self.invariant.pieced at open_))

pub end-requires-2-clause-within : goal.end-requires-2-clause-within
end-requires-2-clause-within c =
    let units = c.self.inside.units.items in
    let may : is_one may_end (unit_in units c.args.unit) ≡ true = subst (λ (x : Calling). is_one may_end (unit_in x.units c.args.unit) ≡ true) (sym c.self.view_is) c.requires.may in
    let h = there units c.args.unit may_end (numbers c.self.inside c.self.invariant) may in
    let at : slice_get units c.place_of-place.result ≡ Some h.unit = ap (slice_get units) c.place_of-place.ensures ∙ h.at in
    let is = read_unit units c.place_of-place.result h.unit c.index_mut-unit.result.now at c.index_mut-unit.ensures.value in
    let call = c.call-call.ensures ∙ ap (λ (u : Unit). u.work.call) is in
    let segment = c.segment-segment.ensures ∙ ap (λ (u : Unit). u.work.segment) is in
    let state = may_end_is h.unit h.passes in
    let open_ : is_open_unit h.unit ≡ true = ap is_open state.running in
    omega (arith, segment, (c.self.invariant.right.placed c.place_of-place.result h.unit at).within, c.self.invariant.few_segments)

pub invariant_of-self : goal.invariant_of-self
invariant_of-self c =
    let units = c.self.inside.units.items in
    let may : is_one may_end (unit_in units c.args.unit) ≡ true = subst (λ (x : Calling). is_one may_end (unit_in x.units c.args.unit) ≡ true) (sym c.self.view_is) c.requires.may in
    let h = there units c.args.unit may_end (numbers c.self.inside c.self.invariant) may in
    let at : slice_get units c.place_of-place.result ≡ Some h.unit = ap (slice_get units) c.place_of-place.ensures ∙ h.at in
    let is = read_unit units c.place_of-place.result h.unit c.index_mut-unit.result.now at c.index_mut-unit.ensures.value in
    let call = c.call-call.ensures ∙ ap (λ (u : Unit). u.work.call) is in
    let segment = c.segment-segment.ensures ∙ ap (λ (u : Unit). u.work.segment) is in
    let state = may_end_is h.unit h.passes in
    let open_ : is_open_unit h.unit ≡ true = ap is_open state.running in
    let after : Unit = record h.unit { work = ended h.unit.work } in
    changed_kept c.self.inside c.self.invariant c.place_of-place.result h.unit after c.end.new.self
    (changes_row h.unit.work.call (with_row_end h.unit.work.segment c.args.made) c.self.inside.table) c.end-2.new.self c.end-3.new.self c.self.inside.read at
    (c.end.ensures ∙ ap (λ (u : Unit). record u { work = ended u.work }) is)
    (c.end-2.ensures ∙ (λ k. changes_row (call k) (with_row_end (segment k) c.args.made) c.self.inside.table)) refl c.self.invariant.few
    (after_ended c.self.inside.segments units c.self.inside.table c.place_of-place.result h.unit after c.args.made c.self.invariant.right at (record { id = refl; call = refl; segment = refl })
    (nothing_flies h.unit.flying state.landed) open_ refl (ap is_ended state.running) refl)
    (pieced_closed c.self.inside.segments units c.self.inside.table c.place_of-place.result h.unit after c.args.made (with_row_end h.unit.work.segment c.args.made) c.self.invariant.pieced at
    (record { id = refl; call = refl; segment = refl }) open_ (λ e. open_) (λ e. absurd (cc)) (λ row. refl) (λ row. refl)
    (λ row g.
    c.requires.made h.unit (sym (ap (λ (x : Calling). unit_in x.units c.args.unit) c.self.view_is) ∙ h.found)
    ∙ sym (ap (λ (x : Calling). booking_in x after) c.self.view_is)
    ∙ booking_row c.self.inside.segments units c.self.inside.table after row g))
    (past_set units (changes_row h.unit.work.call (with_row_end h.unit.work.segment c.args.made) c.self.inside.table) c.self.inside.past c.place_of-place.result h.unit after at refl (λ e. open_)
    (past_row units c.self.inside.table c.self.inside.past h.unit.work.call (with_row_end h.unit.work.segment c.args.made) (λ row over. over) c.self.invariant.past))
    (subst (λ (m : Registered). AreRegistered (slice_set units c.place_of-place.result after) m) (sym c.end-3.ensures)
    (registered_closed units c.self.inside.listeners c.place_of-place.result h.unit after c.id-id.result c.self.invariant.registered at
    (c.id-id.ensures ∙ ap (λ (u : Unit). u.work.id) is ∙ (c.self.invariant.right.placed c.place_of-place.result h.unit at).id) refl))

pub returns : goal.returns
returns c =
    let units = c.self.inside.units.items in
    let may : is_one may_end (unit_in units c.args.unit) ≡ true = subst (λ (x : Calling). is_one may_end (unit_in x.units c.args.unit) ≡ true) (sym c.self.view_is) c.requires.may in
    let h = there units c.args.unit may_end (numbers c.self.inside c.self.invariant) may in
    let at : slice_get units c.place_of-place.result ≡ Some h.unit = ap (slice_get units) c.place_of-place.ensures ∙ h.at in
    let is = read_unit units c.place_of-place.result h.unit c.index_mut-unit.result.now at c.index_mut-unit.ensures.value in
    c.move_on.ensures
    ∙ changed_seen c.self.inside c.self.invariant c.args.unit c.place_of-place.result h.unit c.end.new.self c.end-2.new.self (λ u. record u { work = ended u.work })
    c.place_of-place.ensures h.positive h.at (c.end.ensures ∙ ap (λ (u : Unit). record u { work = ended u.work }) is)
    (ap calls_in c.end-2.ensures ∙ calls_in-same c.self.inside.table c.call-call.result (with_row_end c.segment-segment.result c.args.made) (λ row. refl))
    ∙ ap (changes_unit c.args.unit (λ u. record u { work = ended u.work })) c.self.view_is
