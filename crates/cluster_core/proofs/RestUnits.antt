-- The units that are passed over have no event, and none of them is ready.
use Rattle.std.proofs.Common.{◌≡◌, ℕ, zero, suc, ◌+◌, ◌<◌, ◌==◌, Bool, true, false, not, nat_le, nat_lt, ◌&&◌, cond, List, [], ◌∷◌, length, drop, filter, Option, None, Some, is_none, if◌then◌else◌, refl, sym, ap, ◌∙◌, arith}
use Rattle.std.specs.Bool.{beq}
use Rattle.std.specs.List.{find}
use Rattle.std.specs.Prelude.{slice_get}
use Rattle.grid_base.specs.declared.limits.TheConstants.{MOST_READ}
use Rattle.grid_event.specs.declared.event.Event.{Event}
use Rattle.topology_coord.specs.Coordination.{installed_id, lives}
use Rattle.cluster_model.specs.Commands.{begin_event, done_event, fetch_event, first_some, is_unanswered, or_else, scan_event, served_event, units_at}
use Rattle.cluster_model.specs.State.{Call, State, Unit, call_of, goes_on, is_asked, is_open_unit, is_running, unit_of}
use Rattle.cluster_model.specs.Units.{next_batch, read_by, reads, walks}
use Rattle.cluster_laws.proofs.units.UnitPlaces.{running_open}
use Rattle.cluster_calls.specs.Calling.{IsRest}
use Rattle.cluster_core.specs.Insides.{IsCore, state_of}
use Rattle.cluster_core.specs.Parts.{is_ready, is_ready_behind}
use Rattle.cluster_core.specs.Reading.{batch_now}
use Rattle.cluster_core.specs.declared.cluster.Core.TheInside.{Inside}
use Rattle.cluster_core.proofs.UnitPlaces.{core_numbered, found_by_number}
use Rattle.cluster_core.proofs.UnitReads.{begin_when, done_when, fetch_is, fetch_with, scan_is, scan_with}

-- elements that have nothing are left out in front
first-drop : {A B : Type 0} (f : A → Option B) (p : A → Bool) (n : ℕ) (xs : List A) → ((i : ℕ) (x : A) → slice_get xs i ≡ Some x → i < n → p x ≡ true → f x ≡ None)
    → first_some f (filter p (drop n xs)) ≡ first_some f (filter p xs)
first-drop f p zero xs h = refl
first-drop f p (suc n) [] h = refl
first-drop f p (suc n) (x ∷ xs) h =
    first-drop f p n xs (λ i y e l. h (suc i) y e (omega (arith, l)))
    ∙ elim (p x) as (λ b. p x ≡ b → first_some f (filter p xs) ≡ first_some f (cond b (x ∷ filter p xs) (filter p xs))) [
      | true ↦ λ passes. ap (λ o. or_else o (first_some f (filter p xs))) (sym (h 0 x refl (omega arith) passes))
      | false ↦ λ other. refl
    ] refl

-- and so are elements that don't pass
find-drop : {A : Type 0} (p : A → Bool) (n : ℕ) (xs : List A) → ((i : ℕ) (x : A) → slice_get xs i ≡ Some x → i < n → p x ≡ false) → find p (drop n xs) ≡ find p xs
find-drop p zero xs h = refl
find-drop p (suc n) [] h = refl
find-drop p (suc n) (x ∷ xs) h =
    find-drop p n xs (λ i y e l. h (suc i) y e (omega (arith, l)))
    ∙ ap (λ b. cond b (Some x) (find p xs)) (sym (h 0 x refl (omega arith)))

-- an answered call doesn't go on
stopped : (st : State) (found : Option Call) → is_unanswered found ≡ false → goes_on st.holding found ≡ false
stopped st None h = refl
stopped st (Some call) h = ap (λ b. b && lives st.holding.coord call.originator) h

-- of a unit whose call doesn't go on nothing is read
unread : (st : State) (walk : Bool) (unit : Unit) → goes_on st.holding (call_of st.calling unit.work.call) ≡ false → batch_now st walk unit ≡ None
unread st walk unit over =
    ap
    (λ b.
    if (b && (beq walk (walks (call_of st.calling unit.work.call)) && (is_running unit.work.state && (not unit.work.last && is_none unit.flying)))) && nat_le (read_by st.calling.units + length (next_batch st unit).entries) MOST_READ
    then Some (next_batch st unit)
    else None) over

-- and it has no event
unserved : (st : State) (unit : Unit) → unit_of st.calling unit.work.id ≡ Some unit → goes_on st.holding (call_of st.calling unit.work.call) ≡ false → served_event st unit ≡ None
unserved st unit there over =
    (λ i. or_else (if walks (call_of st.calling unit.work.call) then done i else None) (or_else (scan i) (or_else (fetch i) (begin_ i))))
    ∙ nothing (walks (call_of st.calling unit.work.call))
  where
    done : done_event st unit ≡ None
    done = sym (done_when st unit false there (sym (ap (λ b. b && (is_running unit.work.state && (unit.work.last && is_none unit.flying))) over)))

    scan : scan_event st unit ≡ None
    scan = sym (scan_is st unit there) ∙ ap (scan_with unit) (unread st false unit over)

    fetch : fetch_event st unit ≡ None
    fetch = sym (fetch_is st unit there) ∙ ap (fetch_with unit) (unread st true unit over)

    begin_ : begin_event st unit ≡ None
    begin_ = sym (begin_when st unit (reads st.holding unit) false there refl (sym (ap (λ b. b && (is_asked unit.work.state && (nat_le unit.work.asked_at (installed_id st.holding.coord unit.work.node) && beq (reads st.holding unit) (reads st.holding unit)))) over)))

    nothing : (b : Bool) → ◌≡◌ {A = Option Event} (or_else (if b then None else None) None) None
    nothing true = refl
    nothing false = refl

-- where an open unit doesn't wait, its call is answered
open_answered : (a b c : Bool) → (a && b) ≡ false → (a && c) ≡ true → b ≡ false
open_answered true b c h g = h
open_answered false b c h g = absurd (cc)

-- the units that are left over serve as all do
pub rest_serves : (fields : Inside) (st : State) (node : ℕ) (units : List Unit) → IsCore fields → state_of fields ≡ st → IsRest fields.calls units
    → first_some (served_event st) (filter (λ (unit : Unit). is_open_unit unit && (unit.work.node == node)) units) ≡ first_some (served_event st) (units_at st.calling node)
rest_serves fields st node units h view rest =
    let us = fields.calls.units in
    let was : State = state_of fields in
    let p : Unit → Bool = λ (unit : Unit). is_open_unit unit && (unit.work.node == node) in
    ap (λ (s : State). first_some (served_event s) (filter p units)) (sym view)
    ∙ ap (λ (xs : List Unit). first_some (served_event was) (filter p xs)) rest.rest
    ∙ first-drop (served_event was) p rest.skipped us (λ i u at low passes.
    unserved was u (found_by_number us i u (core_numbered fields was h refl) at)
    (stopped was (call_of was.calling u.work.call) (open_answered (is_open_unit u) (is_unanswered (call_of was.calling u.work.call)) (u.work.node == node) (rest.none i u at low) passes)))
    ∙ ap (λ (s : State). first_some (served_event s) (units_at s.calling node)) view

-- a unit that doesn't wait may not end
closed_ends : (goes runs rest open_ waits : Bool) → (open_ && waits) ≡ false → (runs ≡ true → open_ ≡ true) → (waits ≡ false → goes ≡ false) → (goes && (runs && rest)) ≡ false
closed_ends goes false rest open_ waits h r g = elim goes as (λ b. (b && false) ≡ false) [
  | true ↦ refl
  | false ↦ refl
]
closed_ends goes true rest open_ waits h r g = ap (λ b. b && rest) (g (sym (ap (λ b. b && waits) (r refl)) ∙ h))

-- two tests and a third that isn't passed
neither : (a b c : Bool) → c ≡ false → (a && (b && c)) ≡ false
neither true true c h = h
neither true false c h = refl
neither false b c h = refl

-- a test and one that isn't passed
not_both : (a b : Bool) → b ≡ false → (a && b) ≡ false
not_both true b h = h
not_both false b h = refl

-- the first of them that is ready, with a number above this one, is the first of all
pub rest_ready : (fields : Inside) (st : State) (node number : ℕ) (units : List Unit) → state_of fields ≡ st → IsRest fields.calls units → find (is_ready_behind st node number) units ≡ find (is_ready_behind st node number) st.calling.units
rest_ready fields st node number units view rest =
    let was : State = state_of fields in
    ap (λ (s : State). find (is_ready_behind s node number) units) (sym view)
    ∙ ap (find (is_ready_behind was node number)) rest.rest
    ∙ find-drop (is_ready_behind was node number) rest.skipped fields.calls.units (λ i u at low.
    not_both (nat_lt number u.work.id) (is_ready was node u)
    (neither (u.work.node == node) (not (walks (call_of was.calling u.work.call))) (goes_on was.holding (call_of was.calling u.work.call) && (is_running u.work.state && (u.work.last && is_none u.flying)))
    (closed_ends (goes_on was.holding (call_of was.calling u.work.call)) (is_running u.work.state) (u.work.last && is_none u.flying) (is_open_unit u) (is_unanswered (call_of was.calling u.work.call)) (rest.none i u at low)
    (running_open u.work.state) (stopped was (call_of was.calling u.work.call)))))
    ∙ ap (λ (s : State). find (is_ready_behind s node number) s.calling.units) view
