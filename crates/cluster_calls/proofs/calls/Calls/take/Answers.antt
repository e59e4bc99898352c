use Rattle.std.proofs.Common.{◌≡◌, true, Some, None, refl, sym, subst, ap, ◌∙◌, arith}
use Rattle.std.specs.Option.{option_map}
use Rattle.std.specs.FinMap as map_of
use Rattle.std.specs.Prelude.{slice_get, slice_set}
use Rattle.local_publisher.specs.Stages.{is_open}
use Rattle.cluster_model.specs.State.{Calling, Unit, call_of, unit_in, with_unit}
use Rattle.cluster_calls.specs.Calling.{flies, is_one, taking_of, with_call, with_taken}
use Rattle.cluster_calls.specs.Insides.{calling_of}
use Rattle.cluster_calls.specs.Rows.{calls_in, changes_row, with_row_taken}
use Rattle.cluster_calls.specs.declared.row.Row.{Row}
use Rattle.cluster_calls.proofs.CallsLaws.{changed_kept, numbers, read_unit, running_is, seen_alike}
use Rattle.cluster_calls.proofs.ListLaws.{within_get}
use Rattle.cluster_calls.proofs.PartLaws.{began, pieced_call, pieced_open, same_request}
use Rattle.cluster_calls.proofs.PastLaws.{past_row, past_set}
use Rattle.cluster_calls.proofs.RightLaws.{after_call, after_same, there, with_unit-there}
use Rattle.cluster_calls.proofs.RowTables.{calls_in-changed, get-calls_in}
use Rattle.cluster_calls.proofs.ListedLaws.{registered_same}
use Rattle.cluster_calls.proofs.calls.Calls.take.Goals as goal

pub index-read-requires : goal.index-read-requires
index-read-requires c =
    let units = c.self.inside.units.items in
    let may : is_one flies (unit_in units c.args.unit) ≡ true = subst (λ (x : Calling). is_one flies (unit_in x.units c.args.unit) ≡ true) (sym c.self.view_is) c.requires.flies in
    let h = there units c.args.unit flies (numbers c.self.inside c.self.invariant) may in
    let at : slice_get units c.place_of-place.result ≡ Some h.unit = ap (slice_get units) c.place_of-place.ensures ∙ h.at in
    omega (arith, within_get units c.place_of-place.result h.unit at, c.self.inside.units.ok.0)

pub index_mut-unit-requires : goal.index_mut-unit-requires
index_mut-unit-requires c =
    let units = c.self.inside.units.items in
    let may : is_one flies (unit_in units c.args.unit) ≡ true = subst (λ (x : Calling). is_one flies (unit_in x.units c.args.unit) ≡ true) (sym c.self.view_is) c.requires.flies in
    let h = there units c.args.unit flies (numbers c.self.inside c.self.invariant) may in
    let at : slice_get units c.place_of-place.result ≡ Some h.unit = ap (slice_get units) c.place_of-place.ensures ∙ h.at in
    omega (arith, within_get units c.place_of-place.result h.unit at, c.self.inside.units.ok.0)

pub take-requires : goal.take-requires
take-requires c = λ row e.
    let units = c.self.inside.units.items in
    let table = c.self.inside.table in
    let may : is_one flies (unit_in units c.args.unit) ≡ true = subst (λ (x : Calling). is_one flies (unit_in x.units c.args.unit) ≡ true) (sym c.self.view_is) c.requires.flies in
    let h = there units c.args.unit flies (numbers c.self.inside c.self.invariant) may in
    let at : slice_get units c.place_of-place.result ≡ Some h.unit = ap (slice_get units) c.place_of-place.ensures ∙ h.at in
    let lent = read_unit units c.place_of-place.result h.unit c.index-read.result.now at c.index-read.ensures in
    let call = c.call-call.ensures ∙ ap (λ (u : Unit). u.work.call) lent in
    c.requires.given h.unit row.call
    (subst (λ (x : Calling). unit_in x.units c.args.unit ≡ Some h.unit) c.self.view_is h.found)
    (subst (λ (x : Calling). call_of x h.unit.work.call ≡ Some row.call) c.self.view_is
    (get-calls_in table h.unit.work.call ∙ ap (option_map (λ (r : Row). r.call)) (ap (map_of.get table) (sym call) ∙ e)))

pub invariant_of-self-2 : goal.invariant_of-self-2
invariant_of-self-2 c =
    let units = c.self.inside.units.items in
    let may : is_one flies (unit_in units c.args.unit) ≡ true = subst (λ (x : Calling). is_one flies (unit_in x.units c.args.unit) ≡ true) (sym c.self.view_is) c.requires.flies in
    let h = there units c.args.unit flies (numbers c.self.inside c.self.invariant) may in
    let at : slice_get units c.place_of-place.result ≡ Some h.unit = ap (slice_get units) c.place_of-place.ensures ∙ h.at in
    let is = read_unit units c.place_of-place.result h.unit c.index_mut-unit.result.now at c.index_mut-unit.ensures.value in
    let lent = read_unit units c.place_of-place.result h.unit c.index-read.result.now at c.index-read.ensures in
    let call = c.call-call.ensures ∙ ap (λ (u : Unit). u.work.call) lent in
    let segment = c.segment-segment.ensures ∙ ap (λ (u : Unit). u.work.segment) lent in
    let entries = c.args.entries.now in
    let change = with_row_taken h.unit.work.segment entries c.args.given in
    let table : c.take.new.self ≡ changes_row h.unit.work.call change c.self.inside.table =
    c.in_ok-take.ensures.ok ∙ (λ k. changes_row (call k) (with_row_taken (segment k) entries c.args.given) c.self.inside.table) in
    let after : Unit = record h.unit { flying = None } in
    let runs = running_is h.unit.work.state ((c.self.invariant.right.placed c.place_of-place.result h.unit at).running h.passes) in
    changed_kept c.self.inside c.self.invariant c.place_of-place.result h.unit after c.land.new.self (changes_row h.unit.work.call change c.self.inside.table) c.take.new.self c.self.inside.listeners c.self.inside.read at
    (c.land.ensures ∙ ap (λ (u : Unit). record u { flying = None }) is) table refl c.self.invariant.few
    (after_same c.self.inside.segments units (changes_row h.unit.work.call change c.self.inside.table) c.place_of-place.result h.unit after
    (after_call c.self.inside.segments units c.self.inside.table h.unit.work.call change (λ row. refl) (λ row. refl) c.self.invariant.right) at
    (record { id = refl; call = refl; segment = refl }) (λ e. absurd (cc)) refl refl)
    (pieced_open c.self.inside.segments units (changes_row h.unit.work.call change c.self.inside.table) c.place_of-place.result h.unit after
    (pieced_call c.self.inside.segments units c.self.inside.table h.unit.work.call change c.self.invariant.pieced
    (λ row has. same_request c.self.inside.segments units h.unit.work.call row.call (change row).call refl refl row.parts has)) at
    (record { id = refl; call = refl; segment = refl }) (ap is_open runs) (ap is_open runs) (began h.unit.work.state runs))
    (past_set units (changes_row h.unit.work.call change c.self.inside.table) c.self.inside.past c.place_of-place.result h.unit after at refl (λ e. ap is_open runs)
    (past_row units c.self.inside.table c.self.inside.past h.unit.work.call change (λ row over. over) c.self.invariant.past))
    (registered_same units c.self.inside.listeners c.place_of-place.result h.unit after c.self.invariant.registered at refl)

pub returns-clause-ok : goal.returns-clause-ok
returns-clause-ok c =
    let units = c.self.inside.units.items in
    let may : is_one flies (unit_in units c.args.unit) ≡ true = subst (λ (x : Calling). is_one flies (unit_in x.units c.args.unit) ≡ true) (sym c.self.view_is) c.requires.flies in
    let h = there units c.args.unit flies (numbers c.self.inside c.self.invariant) may in
    let at : slice_get units c.place_of-place.result ≡ Some h.unit = ap (slice_get units) c.place_of-place.ensures ∙ h.at in
    let is = read_unit units c.place_of-place.result h.unit c.index_mut-unit.result.now at c.index_mut-unit.ensures.value in
    let lent = read_unit units c.place_of-place.result h.unit c.index-read.result.now at c.index-read.ensures in
    let call = c.call-call.ensures ∙ ap (λ (u : Unit). u.work.call) lent in
    let segment = c.segment-segment.ensures ∙ ap (λ (u : Unit). u.work.segment) lent in
    let entries = c.args.entries.now in
    let change = with_row_taken h.unit.work.segment entries c.args.given in
    let table : c.take.new.self ≡ changes_row h.unit.work.call change c.self.inside.table =
    c.in_ok-take.ensures.ok ∙ (λ k. changes_row (call k) (with_row_taken (segment k) entries c.args.given) c.self.inside.table) in
    seen_alike c.self.inside.segments (slice_set units c.place_of-place.result c.land.new.self) (with_unit c.args.unit (λ u. record u { flying = None }) units) (calls_in c.take.new.self)
    (with_call h.unit.work.call (with_taken h.unit.work.segment entries c.args.given) (map_of.get (calls_in c.self.inside.table) h.unit.work.call) (calls_in c.self.inside.table))
    ((λ k. slice_set units (c.place_of-place.ensures k) ((c.land.ensures ∙ ap (λ (u : Unit). record u { flying = None }) is) k))
    ∙ sym (with_unit-there units c.args.unit h.unit (λ u. record u { flying = None }) (numbers c.self.inside c.self.invariant) h.positive h.at))
    (ap calls_in table ∙ calls_in-changed c.self.inside.table h.unit.work.call change (with_taken h.unit.work.segment entries c.args.given) (λ row. refl))
    ∙ ap (λ o. taking_of c.args.unit entries c.args.given o (calling_of c.self.inside)) (sym h.found)
    ∙ ap (λ (x : Calling). taking_of c.args.unit entries c.args.given (unit_in x.units c.args.unit) x) c.self.view_is
