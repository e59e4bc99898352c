use Rattle.std.proofs.Common.{◌≡◌, true, Some, refl, sym, subst, ap, ◌∙◌}
use Rattle.std.specs.FinMap as map_of
use Rattle.std.specs.Prelude.{slice_get, slice_set}
use Rattle.cluster_model.specs.State.{Calling, Unit, is_open_unit, with_loss}
use Rattle.cluster_calls.specs.Calling.{is_one}
use Rattle.cluster_calls.specs.Parts.{booking_in}
use Rattle.cluster_calls.specs.Rows.{calls_in, changes_row, may_close, with_row_without_open}
use Rattle.cluster_calls.proofs.CallsLaws.{changed_kept, one_at, open_not_ended, read_unit, seen_alike, may_close_it}
use Rattle.cluster_calls.proofs.PartLaws.{booking_row, pieced_closed}
use Rattle.cluster_calls.proofs.PastLaws.{past_row, past_set}
use Rattle.cluster_calls.proofs.RightLaws.{after_closed}
use Rattle.cluster_calls.proofs.RowTables.{calls_in-same}
use Rattle.loss_listener.specs.Registered.{Registered}
use Rattle.cluster_calls.specs.Listed.{AreRegistered}
use Rattle.cluster_calls.proofs.ListedLaws.{registered_closed}
use Rattle.cluster_calls.proofs.calls.Calls.lose.Goals as goal

pub close-requires : goal.close-requires
close-requires c =
    let units = c.self.inside.units.items in
    let h = one_at is_open_unit (slice_get units c.args.place) (subst (λ (x : Calling). is_one is_open_unit (slice_get x.units c.args.place) ≡ true) (sym c.self.view_is) c.requires.open) in
    let is = read_unit units c.args.place h.0 c.index_mut-unit.result.now h.1 c.index_mut-unit.ensures.value in
    let call = c.call-call.ensures ∙ ap (λ (u : Unit). u.work.call) is in
    let segment = c.segment-segment.ensures ∙ ap (λ (u : Unit). u.work.segment) is in
    subst (λ n. is_one (may_close c.segment-segment.result) (map_of.get c.self.inside.table n) ≡ true) (sym call)
    (subst (λ s. is_one (may_close s) (map_of.get c.self.inside.table h.0.work.call) ≡ true) (sym segment)
    (may_close_it c.self.inside.segments units c.self.inside.table c.args.place h.0 c.self.invariant.right c.self.invariant.pieced h.1 h.2))

pub invariant_of-self : goal.invariant_of-self
invariant_of-self c =
    let units = c.self.inside.units.items in
    let h = one_at is_open_unit (slice_get units c.args.place) (subst (λ (x : Calling). is_one is_open_unit (slice_get x.units c.args.place) ≡ true) (sym c.self.view_is) c.requires.open) in
    let is = read_unit units c.args.place h.0 c.index_mut-unit.result.now h.1 c.index_mut-unit.ensures.value in
    let call = c.call-call.ensures ∙ ap (λ (u : Unit). u.work.call) is in
    let segment = c.segment-segment.ensures ∙ ap (λ (u : Unit). u.work.segment) is in
    changed_kept c.self.inside c.self.invariant c.args.place h.0 (with_loss c.args.at h.0) c.mark_lost.new.self
    (changes_row h.0.work.call (with_row_without_open h.0.work.segment c.args.part) c.self.inside.table) c.close.new.self c.end.new.self c.self.inside.read h.1
    (c.mark_lost.ensures ∙ ap (with_loss c.args.at) is)
    (c.close.ensures ∙ (λ i. changes_row (call i) (with_row_without_open (segment i) c.args.part) c.self.inside.table)) refl c.self.invariant.few
    (after_closed c.self.inside.segments units c.self.inside.table c.args.place h.0 (with_loss c.args.at h.0) h.0.work.segment c.args.part c.self.invariant.right h.1 (record { id = refl; call = refl; segment = refl })
    (λ e. absurd (cc)) h.2 refl (sym (open_not_ended h.0.work.state h.2)))
    (pieced_closed c.self.inside.segments units c.self.inside.table c.args.place h.0 (with_loss c.args.at h.0) c.args.part (with_row_without_open h.0.work.segment c.args.part) c.self.invariant.pieced h.1
    (record { id = refl; call = refl; segment = refl }) h.2 (λ e. h.2) (λ e. absurd (cc)) (λ row. refl) (λ row. refl)
    (λ row g.
    c.requires.part h.0 (subst (λ (x : Calling). slice_get x.units c.args.place ≡ Some h.0) c.self.view_is h.1)
    ∙ sym (ap (λ (x : Calling). booking_in x (with_loss c.args.at h.0)) c.self.view_is)
    ∙ booking_row c.self.inside.segments units c.self.inside.table (with_loss c.args.at h.0) row g))
    (past_set units (changes_row h.0.work.call (with_row_without_open h.0.work.segment c.args.part) c.self.inside.table) c.self.inside.past c.args.place h.0 (with_loss c.args.at h.0) h.1 refl (λ e. h.2)
    (past_row units c.self.inside.table c.self.inside.past h.0.work.call (with_row_without_open h.0.work.segment c.args.part) (λ row over. over) c.self.invariant.past))
    (subst (λ (m : Registered). AreRegistered (slice_set units c.args.place (with_loss c.args.at h.0)) m) (sym c.end.ensures)
    (registered_closed units c.self.inside.listeners c.args.place h.0 (with_loss c.args.at h.0) c.id-number.result c.self.invariant.registered h.1
    (c.id-number.ensures ∙ ap (λ (u : Unit). u.work.id) is ∙ (c.self.invariant.right.placed c.args.place h.0 h.1).id) refl))

pub returns : goal.returns
returns c = λ w g.
    let units = c.self.inside.units.items in
    let at : slice_get units c.args.place ≡ Some w = subst (λ (x : Calling). slice_get x.units c.args.place ≡ Some w) (sym c.self.view_is) g in
    seen_alike c.self.inside.segments (slice_set units c.args.place c.mark_lost.new.self) (slice_set units c.args.place (with_loss c.args.at w)) (calls_in c.close.new.self) (calls_in c.self.inside.table)
    (ap (slice_set units c.args.place) (c.mark_lost.ensures ∙ ap (with_loss c.args.at) (read_unit units c.args.place w c.index_mut-unit.result.now at c.index_mut-unit.ensures.value)))
    (ap calls_in c.close.ensures ∙ calls_in-same c.self.inside.table c.call-call.result (with_row_without_open c.segment-segment.result c.args.part) (λ row. refl))
    ∙ ap (λ (x : Calling). record x { units = slice_set x.units c.args.place (with_loss c.args.at w) }) c.self.view_is
