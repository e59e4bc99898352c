use Rattle.std.proofs.Common.{◌≡◌, Bool, true, cond, nat_le, if◌then◌else◌, None, Some, is_some, refl, sym, subst, ap, ◌∙◌, arith}
use Rattle.std.specs.FinMap as map_of
use Rattle.std.specs.Prelude.{slice_get}
use Rattle.local_publisher.specs.Units.{begun}
use Rattle.local_publisher.specs.declared.unit_state.UnitState.{UnitState}
use Rattle.local_publisher.specs.declared.unit_state.UnitState.TheVariants.{Running, Refused}
use Rattle.cluster_model.specs.State.{Calling, Unit, is_asked, is_ended, is_open_unit, is_running, unit_in}
use Rattle.local_publisher.specs.Stages.{is_open}
use Rattle.cluster_calls.specs.Calling.{changes_unit, is_one, may_begin}
use Rattle.cluster_calls.specs.Parts.{has_begun, is_booked}
use Rattle.cluster_calls.specs.Rows.{calls_in, changes_row, may_close, with_row_without_open}
use Rattle.cluster_calls.proofs.CallsLaws.{changed_kept, changed_seen, numbers, read_unit, asked_open, may_close_it}
use Rattle.cluster_calls.proofs.ListLaws.{within_get}
use Rattle.cluster_calls.proofs.PartLaws.{booking_none, pieced_closed, pieced_open}
use Rattle.cluster_calls.proofs.PastLaws.{past_row, past_set}
use Rattle.cluster_calls.proofs.RightLaws.{there, after_closed, after_same}
use Rattle.cluster_calls.proofs.BothLaws.{and_left}
use Rattle.cluster_calls.proofs.RowTables.{calls_in-same}
use Rattle.std.specs.Prelude.{slice_set}
use Rattle.loss_listener.specs.Registered.{Registered}
use Rattle.cluster_calls.specs.Listed.{AreRegistered}
use Rattle.cluster_calls.proofs.ListedLaws.{registered_closed, registered_same}
use Rattle.cluster_calls.proofs.calls.Calls.begin.Goals as goal

pub index_mut-unit-requires : goal.index_mut-unit-requires
index_mut-unit-requires c =
    let units = c.self.inside.units.items in
    let may : is_one (may_begin c.args.at) (unit_in units c.args.unit) ≡ true = subst (λ (x : Calling). is_one (may_begin c.args.at) (unit_in x.units c.args.unit) ≡ true) (sym c.self.view_is) c.requires in
    let h = there units c.args.unit (may_begin c.args.at) (numbers c.self.inside c.self.invariant) may in
    let at : slice_get units c.place_of-place.result ≡ Some h.unit = ap (slice_get units) c.place_of-place.ensures ∙ h.at in
    omega (arith, within_get units c.place_of-place.result h.unit at, c.self.inside.units.ok.0)

pub begin-requires : goal.begin-requires
begin-requires c =
    let units = c.self.inside.units.items in
    let may : is_one (may_begin c.args.at) (unit_in units c.args.unit) ≡ true = subst (λ (x : Calling). is_one (may_begin c.args.at) (unit_in x.units c.args.unit) ≡ true) (sym c.self.view_is) c.requires in
    let h = there units c.args.unit (may_begin c.args.at) (numbers c.self.inside c.self.invariant) may in
    let at : slice_get units c.place_of-place.result ≡ Some h.unit = ap (slice_get units) c.place_of-place.ensures ∙ h.at in
    let is = read_unit units c.place_of-place.result h.unit c.index_mut-unit.result.now at c.index_mut-unit.ensures.value in
    subst (λ (u : Unit). may_begin c.args.at u ≡ true) (sym is) h.passes

pub close-requires : goal.close-requires
close-requires c =
    let units = c.self.inside.units.items in
    let may : is_one (may_begin c.args.at) (unit_in units c.args.unit) ≡ true = subst (λ (x : Calling). is_one (may_begin c.args.at) (unit_in x.units c.args.unit) ≡ true) (sym c.self.view_is) c.requires in
    let h = there units c.args.unit (may_begin c.args.at) (numbers c.self.inside c.self.invariant) may in
    let at : slice_get units c.place_of-place.result ≡ Some h.unit = ap (slice_get units) c.place_of-place.ensures ∙ h.at in
    let is = read_unit units c.place_of-place.result h.unit c.index_mut-unit.result.now at c.index_mut-unit.ensures.value in
    let state = asked_open h.unit.work.state (and_left (is_asked h.unit.work.state) (nat_le h.unit.work.asked_at c.args.at) h.passes) in
    let place = c.self.invariant.right.placed c.place_of-place.result h.unit at in
    let flew : is_some h.unit.flying ≡ true → is_running h.unit.work.state ≡ true = place.running in
    let call = c.call-call.ensures ∙ ap (λ (u : Unit). u.work.call) is in
    let segment = c.segment-segment.ensures ∙ ap (λ (u : Unit). u.work.segment) is in
    let open_ : is_open_unit h.unit ≡ true = ap is_open state in
    subst (λ n. is_one (may_close c.segment-segment.result) (map_of.get c.self.inside.table n) ≡ true) (sym call)
    (subst (λ s. is_one (may_close s) (map_of.get c.self.inside.table h.unit.work.call) ≡ true) (sym segment)
    (may_close_it c.self.inside.segments units c.self.inside.table c.place_of-place.result h.unit c.self.invariant.right c.self.invariant.pieced at open_))

pub invariant_of-self : goal.invariant_of-self
invariant_of-self c =
    let units = c.self.inside.units.items in
    let may : is_one (may_begin c.args.at) (unit_in units c.args.unit) ≡ true = subst (λ (x : Calling). is_one (may_begin c.args.at) (unit_in x.units c.args.unit) ≡ true) (sym c.self.view_is) c.requires in
    let h = there units c.args.unit (may_begin c.args.at) (numbers c.self.inside c.self.invariant) may in
    let at : slice_get units c.place_of-place.result ≡ Some h.unit = ap (slice_get units) c.place_of-place.ensures ∙ h.at in
    let is = read_unit units c.place_of-place.result h.unit c.index_mut-unit.result.now at c.index_mut-unit.ensures.value in
    let state = asked_open h.unit.work.state (and_left (is_asked h.unit.work.state) (nat_le h.unit.work.asked_at c.args.at) h.passes) in
    let place = c.self.invariant.right.placed c.place_of-place.result h.unit at in
    let flew : is_some h.unit.flying ≡ true → is_running h.unit.work.state ≡ true = place.running in
    let call = c.call-call.ensures ∙ ap (λ (u : Unit). u.work.call) is in
    let segment = c.segment-segment.ensures ∙ ap (λ (u : Unit). u.work.segment) is in
    let open_ : is_open_unit h.unit ≡ true = ap is_open state in
    let after : Unit = record h.unit { work = begun h.unit.work c.args.runs c.args.at } in
    let stage : (b : Bool) → UnitState = λ b. if b then Running else Refused c.args.at in
    let landed : is_some h.unit.flying ≡ true → is_running after.work.state ≡ true = λ e. absurd (let w = sym (flew e) ∙ ap is_running state in cc) in
    changed_kept c.self.inside c.self.invariant c.place_of-place.result h.unit after c.begin.new.self
    (changes_row h.unit.work.call (with_row_without_open h.unit.work.segment None) c.self.inside.table) c.close.new.self c.end.new.self c.self.inside.read at
    (c.begin.ensures ∙ ap (λ (u : Unit). record u { work = begun u.work c.args.runs c.args.at }) is)
    (c.close.ensures ∙ (λ i. changes_row (call i) (with_row_without_open (segment i) None) c.self.inside.table)) refl c.self.invariant.few
    (after_closed c.self.inside.segments units c.self.inside.table c.place_of-place.result h.unit after h.unit.work.segment None c.self.invariant.right at (record { id = refl; call = refl; segment = refl })
    landed open_ (ap (λ b. is_open (stage b)) c.if-not-runs.true) (ap (λ b. is_ended (stage b)) c.if-not-runs.true ∙ sym (ap is_ended state)))
    (pieced_closed c.self.inside.segments units c.self.inside.table c.place_of-place.result h.unit after None (with_row_without_open h.unit.work.segment None) c.self.invariant.pieced at
    (record { id = refl; call = refl; segment = refl }) open_ (λ e. open_) (λ e. c.self.invariant.pieced.unread c.place_of-place.result h.unit at (ap has_begun state)) (λ row. refl) (λ row. refl)
    (λ row g. booking_none units after row.call (ap (λ (b : Bool). is_booked row.call (record h.unit { work = begun h.unit.work b c.args.at })) c.if-not-runs.true)))
    (past_set units (changes_row h.unit.work.call (with_row_without_open h.unit.work.segment None) c.self.inside.table) c.self.inside.past c.place_of-place.result h.unit after at refl (λ e. open_)
    (past_row units c.self.inside.table c.self.inside.past h.unit.work.call (with_row_without_open h.unit.work.segment None) (λ row over. over) c.self.invariant.past))
    (subst (λ (m : Registered). AreRegistered (slice_set units c.place_of-place.result after) m) (sym c.end.ensures)
    (registered_closed units c.self.inside.listeners c.place_of-place.result h.unit after c.id-id.result c.self.invariant.registered at
    (c.id-id.ensures ∙ ap (λ (u : Unit). u.work.id) is ∙ place.id) (ap (λ b. is_open (stage b)) c.if-not-runs.true)))

pub invariant_of-self-else-not-runs : goal.invariant_of-self-else-not-runs
invariant_of-self-else-not-runs c =
    let units = c.self.inside.units.items in
    let may : is_one (may_begin c.args.at) (unit_in units c.args.unit) ≡ true = subst (λ (x : Calling). is_one (may_begin c.args.at) (unit_in x.units c.args.unit) ≡ true) (sym c.self.view_is) c.requires in
    let h = there units c.args.unit (may_begin c.args.at) (numbers c.self.inside c.self.invariant) may in
    let at : slice_get units c.place_of-place.result ≡ Some h.unit = ap (slice_get units) c.place_of-place.ensures ∙ h.at in
    let is = read_unit units c.place_of-place.result h.unit c.index_mut-unit.result.now at c.index_mut-unit.ensures.value in
    let state = asked_open h.unit.work.state (and_left (is_asked h.unit.work.state) (nat_le h.unit.work.asked_at c.args.at) h.passes) in
    let place = c.self.invariant.right.placed c.place_of-place.result h.unit at in
    let flew : is_some h.unit.flying ≡ true → is_running h.unit.work.state ≡ true = place.running in
    let call = c.call-call.ensures ∙ ap (λ (u : Unit). u.work.call) is in
    let segment = c.segment-segment.ensures ∙ ap (λ (u : Unit). u.work.segment) is in
    let open_ : is_open_unit h.unit ≡ true = ap is_open state in
    let after : Unit = record h.unit { work = begun h.unit.work c.args.runs c.args.at } in
    let stage : (b : Bool) → UnitState = λ b. if b then Running else Refused c.args.at in
    let landed : is_some h.unit.flying ≡ true → is_running after.work.state ≡ true = λ e. absurd (let w = sym (flew e) ∙ ap is_running state in cc) in
    changed_kept c.self.inside c.self.invariant c.place_of-place.result h.unit after c.begin.new.self c.self.inside.table c.self.inside.table c.self.inside.listeners c.self.inside.read at
    (c.begin.ensures ∙ ap (λ (u : Unit). record u { work = begun u.work c.args.runs c.args.at }) is) refl refl c.self.invariant.few
    (after_same c.self.inside.segments units c.self.inside.table c.place_of-place.result h.unit after c.self.invariant.right at (record { id = refl; call = refl; segment = refl })
    landed (ap (λ b. is_open (stage b)) c.if-not-runs.false ∙ sym open_) (ap (λ b. is_ended (stage b)) c.if-not-runs.false ∙ sym (ap is_ended state)))
    (pieced_open c.self.inside.segments units c.self.inside.table c.place_of-place.result h.unit after c.self.invariant.pieced at
    (record { id = refl; call = refl; segment = refl }) open_ (ap (λ b. is_open (stage b)) c.if-not-runs.false) (λ e. c.self.invariant.pieced.unread c.place_of-place.result h.unit at (ap has_begun state)))
    (past_set units c.self.inside.table c.self.inside.past c.place_of-place.result h.unit after at refl (λ e. open_) c.self.invariant.past)
    (registered_same units c.self.inside.listeners c.place_of-place.result h.unit after c.self.invariant.registered at
    (ap (λ b. cond b (Some (record { node = h.unit.work.node; segment = h.unit.work.segment })) None) (ap (λ b. is_open (stage b)) c.if-not-runs.false ∙ sym open_)))

pub returns-then-not-runs : goal.returns-then-not-runs
returns-then-not-runs c =
    let units = c.self.inside.units.items in
    let may : is_one (may_begin c.args.at) (unit_in units c.args.unit) ≡ true = subst (λ (x : Calling). is_one (may_begin c.args.at) (unit_in x.units c.args.unit) ≡ true) (sym c.self.view_is) c.requires in
    let h = there units c.args.unit (may_begin c.args.at) (numbers c.self.inside c.self.invariant) may in
    let at : slice_get units c.place_of-place.result ≡ Some h.unit = ap (slice_get units) c.place_of-place.ensures ∙ h.at in
    let is = read_unit units c.place_of-place.result h.unit c.index_mut-unit.result.now at c.index_mut-unit.ensures.value in
    c.move_on.ensures
    ∙ changed_seen c.self.inside c.self.invariant c.args.unit c.place_of-place.result h.unit c.begin.new.self c.close.new.self (λ u. record u { work = begun u.work c.args.runs c.args.at })
    c.place_of-place.ensures h.positive h.at (c.begin.ensures ∙ ap (λ (u : Unit). record u { work = begun u.work c.args.runs c.args.at }) is)
    (ap calls_in c.close.ensures ∙ calls_in-same c.self.inside.table c.call-call.result (with_row_without_open c.segment-segment.result None) (λ row. refl))
    ∙ ap (changes_unit c.args.unit (λ u. record u { work = begun u.work c.args.runs c.args.at })) c.self.view_is

pub returns-else-not-runs : goal.returns-else-not-runs
returns-else-not-runs c =
    let units = c.self.inside.units.items in
    let may : is_one (may_begin c.args.at) (unit_in units c.args.unit) ≡ true = subst (λ (x : Calling). is_one (may_begin c.args.at) (unit_in x.units c.args.unit) ≡ true) (sym c.self.view_is) c.requires in
    let h = there units c.args.unit (may_begin c.args.at) (numbers c.self.inside c.self.invariant) may in
    let at : slice_get units c.place_of-place.result ≡ Some h.unit = ap (slice_get units) c.place_of-place.ensures ∙ h.at in
    let is = read_unit units c.place_of-place.result h.unit c.index_mut-unit.result.now at c.index_mut-unit.ensures.value in
    changed_seen c.self.inside c.self.invariant c.args.unit c.place_of-place.result h.unit c.begin.new.self c.self.inside.table (λ u. record u { work = begun u.work c.args.runs c.args.at })
    c.place_of-place.ensures h.positive h.at (c.begin.ensures ∙ ap (λ (u : Unit). record u { work = begun u.work c.args.runs c.args.at }) is) refl
    ∙ ap (changes_unit c.args.unit (λ u. record u { work = begun u.work c.args.runs c.args.at })) c.self.view_is
