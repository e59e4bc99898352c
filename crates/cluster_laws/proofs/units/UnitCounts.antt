-- How many units of a call there are on a segment: at most one that is open or has ended, at most as many as rounds were made,
-- and of those that are lost at most as many as nodes departed or installed a topology since the call was made.
use Rattle.std.proofs.Common.{◌≡◌, ℕ, ◌+◌, ◌≤◌, ◌==◌, Bool, true, false, not, nat_lt, ◌&&◌, ◌||◌, cond, if◌then◌else◌, ◌⊎◌, inl, inr, List, [], ◌∷◌, ◌++◌, map, length, is_none, refl, sym, ap, subst, ◌∙◌, arith}
use Rattle.std.proofs.lemmas.Bool.{and_from, and_parts, both_ways, eqb-true, not-true, or_parts}
use Rattle.std.specs.List.{AllByRecursion, list_any, list_all}
use Rattle.std.specs.FinSet as set_of
use Rattle.grid_event.specs.Spans.{invoke_of, invokes, since_invoke}
use Rattle.grid_event.specs.declared.call_events.Ask.{Ask}
use Rattle.grid_event.specs.declared.call_events.RoundEvent.{RoundEvent}
use Rattle.grid_event.specs.declared.event.Event.{Event}
use Rattle.grid_event.specs.declared.event.Event.TheVariants.{Invoke, Round}
use Rattle.local_publisher.specs.Stages.{is_open}
use Rattle.local_publisher.specs.declared.unit_state.UnitState.{UnitState}
use Rattle.local_publisher.specs.declared.unit_state.UnitState.TheVariants.{Asked, Running, Refused, Lost, Ended}
use Rattle.topology_coord.specs.Coordination.{installed_id, lives}
use Rattle.cluster_model.specs.Calls.{all_complete, asks_from, can_invoke, granted, has_caught_up, has_open, incomplete, is_due, unit_made}
use Rattle.cluster_model.specs.Evidence.{how_many}
use Rattle.cluster_model.specs.Guarantees.{is_move, rounds_in}
use Rattle.cluster_model.specs.State.{Call, State, Unit, call_of, is_asked, is_ended, is_lost, is_of, is_on, is_open_unit, is_running, segments_read}
use Rattle.cluster_model.specs.Step.{allowed, changed}
use Rattle.cluster_model.specs.Topologies.{is_complete}
use Rattle.cluster_model.specs.Writes.{has_reader}
use Rattle.cluster_laws.proofs.units.CallLinks.{CallsTold, IsKnown, none_told}
use Rattle.cluster_laws.proofs.answers.AnswerLinks.{LinksKept}
use Rattle.cluster_laws.proofs.Counts.{count_changed, count_filtered, count_left_out, count_none, count_split, row_once}
use Rattle.cluster_laws.proofs.Lists.{each_imply, how_many-append, how_many_le}
use Rattle.cluster_laws.proofs.Numbers.{NumberedFrom}
use Rattle.cluster_laws.proofs.units.UnitEffects.{Effect, HasEffect, Stays, Loses, Begins, Scans, Fetches, Takes, Ends, effects, unit_after, units_are, units_made}
use Rattle.cluster_laws.proofs.units.UnitFacts.{CanRound, round_facts}

-- a unit stands while it is open, and once it has ended
abbrev pub stands : UnitState → Bool
stands stage = is_open stage || is_ended stage

-- the unit is of the call on the segment, and stands
abbrev pub is_standing : ℕ → ℕ → Unit → Bool
is_standing call segment unit = is_on call segment unit && stands unit.work.state

-- the unit is of the call on the segment, and is lost
abbrev pub is_lost_on : ℕ → ℕ → Unit → Bool
is_lost_on call segment unit = is_on call segment unit && is_lost unit.work.state

-- what is known of the numbers of units
pub record CountsKept (past : List Event) (units : List Unit) : Type 0 where
  pub one : (call segment : ℕ) → how_many (is_standing call segment) units ≤ 1
  pub by_rounds : (call segment : ℕ) → how_many (is_on call segment) units ≤ rounds_in past call
  pub by_moves : (call segment : ℕ) → how_many (is_lost_on call segment) units ≤ since_invoke is_move past call

-- a unit that is asked stands
pub asked_stands : (stage : UnitState) → is_asked stage ≡ true → stands stage ≡ true
asked_stands Asked h = refl
asked_stands Running h = refl
asked_stands (Refused at) h = absurd (cc)
asked_stands (Lost at) h = absurd (cc)
asked_stands Ended h = refl

-- a unit that runs stands
pub running_stands : (stage : UnitState) → is_running stage ≡ true → stands stage ≡ true
running_stands Asked h = refl
running_stands Running h = refl
running_stands (Refused at) h = absurd (cc)
running_stands (Lost at) h = absurd (cc)
running_stands Ended h = refl

-- an open unit stands
pub open_stands : (stage : UnitState) → is_open stage ≡ true → stands stage ≡ true
open_stands Asked h = refl
open_stands Running h = refl
open_stands (Refused at) h = absurd (cc)
open_stands (Lost at) h = absurd (cc)
open_stands Ended h = refl

-- a unit that begins or is refused isn't lost
begun_unlost : (runs : Bool) (at : ℕ) → is_lost (if runs then Running else Refused at) ≡ false
begun_unlost true at = refl
begun_unlost false at = refl

-- a unit that stands isn't lost
pub standing_unlost : (stage : UnitState) → stands stage ≡ true → is_lost stage ≡ false
standing_unlost Asked h = refl
standing_unlost Running h = refl
standing_unlost (Refused at) h = refl
standing_unlost (Lost at) h = absurd (cc)
standing_unlost Ended h = refl

-- a unit on a segment was on it
was_on : (st : State) (event : Event) (call segment : ℕ) (before later : Unit) → Effect st event before later → is_on call segment later ≡ is_on call segment before
was_on st event call segment before later (Stays e d) = ap (is_on call segment) e
was_on st event call segment before later (Loses at e o m) = ap (is_on call segment) e
was_on st event call segment before later (Begins runs x e m) = ap (is_on call segment) e
was_on st event call segment before later (Scans s x n e m) = ap (is_on call segment) e
was_on st event call segment before later (Fetches f x n e m) = ap (is_on call segment) e
was_on st event call segment before later (Takes t x n e) = ap (is_on call segment) e
was_on st event call segment before later (Ends x e m) = ap (is_on call segment) e

-- a unit that stands stood
stood : (st : State) (event : Event) (before later : Unit) → Effect st event before later → stands later.work.state ≡ true → stands before.work.state ≡ true
stood st event before later (Stays e d) h = ap (λ (u : Unit). stands u.work.state) (sym e) ∙ h
stood st event before later (Loses at e o m) h = open_stands before.work.state o
stood st event before later (Begins runs x e m) h = asked_stands before.work.state m.asked
stood st event before later (Scans s x n e m) h = running_stands before.work.state m.running
stood st event before later (Fetches f x n e m) h = running_stands before.work.state m.running
stood st event before later (Takes t x n e) h = ap (λ (u : Unit). stands u.work.state) (sym e) ∙ h
stood st event before later (Ends x e m) h = running_stands before.work.state m.running

-- a unit that is lost was lost, or stood and was lost by a move
was_lost : (st : State) (event : Event) (before later : Unit) → Effect st event before later → is_lost later.work.state ≡ true → (is_lost before.work.state ≡ true) ⊎ ((stands before.work.state ≡ true) × (is_move event ≡ true))
was_lost st event before later (Stays e d) h = inl (ap (λ (u : Unit). is_lost u.work.state) (sym e) ∙ h)
was_lost st event before later (Loses at e o m) h = inr (open_stands before.work.state o, m)
was_lost st event before later (Begins runs x e m) h = let f = begun_unlost runs (installed_id st.holding.coord before.work.node) in absurd (both_ways (is_lost later.work.state) (ap (λ (u : Unit). is_lost u.work.state) e ∙ f) h)
was_lost st event before later (Scans s x n e m) h = inl (ap (λ (u : Unit). is_lost u.work.state) (sym e) ∙ h)
was_lost st event before later (Fetches f x n e m) h = inl (ap (λ (u : Unit). is_lost u.work.state) (sym e) ∙ h)
was_lost st event before later (Takes t x n e) h = inl (ap (λ (u : Unit). is_lost u.work.state) (sym e) ∙ h)
was_lost st event before later (Ends x e m) h = let q : false ≡ true = sym (ap (λ (u : Unit). is_lost u.work.state) e) ∙ h in absurd (cc)

-- a unit that stands on a segment after an event stood on it
standing_before : (st : State) (event : Event) (call segment : ℕ) (unit : Unit) → HasEffect st event unit → is_standing call segment (unit_after st event unit) ≡ true → is_standing call segment unit ≡ true
standing_before st event call segment unit f h =
    let later = unit_after st event unit in
    let p : (is_on call segment later ≡ true) × (stands later.work.state ≡ true) = and_parts (is_on call segment later) (stands later.work.state) h in
    and_from (is_on call segment unit) (stands unit.work.state) (sym (was_on st event call segment unit later f) ∙ p.0) (stood st event unit later f p.1)

-- a unit that is on a segment after an event was on it
on_before : (st : State) (event : Event) (call segment : ℕ) (unit : Unit) → HasEffect st event unit → is_on call segment (unit_after st event unit) ≡ true → is_on call segment unit ≡ true
on_before st event call segment unit f h = sym (was_on st event call segment unit (unit_after st event unit) f) ∙ h

-- where the event is no move, a unit that is lost on a segment was; and else it was, or it stood
lost_before : (st : State) (event : Event) (call segment : ℕ) → is_move event ≡ false → (unit : Unit) → HasEffect st event unit → is_lost_on call segment (unit_after st event unit) ≡ true → is_lost_on call segment unit ≡ true
lost_before st event call segment still unit f h =
    let later = unit_after st event unit in
    let p : (is_on call segment later ≡ true) × (is_lost later.work.state ≡ true) = and_parts (is_on call segment later) (is_lost later.work.state) h in
    and_from (is_on call segment unit) (is_lost unit.work.state) (sym (was_on st event call segment unit later f) ∙ p.0) (elim (was_lost st event unit later f p.1) [ inl e ↦ e | inr e ↦ (let m = e.1 in absurd (cc)) ])

-- a unit that is lost on a segment after an event was lost there, or stood there
lost_or_stood : (st : State) (event : Event) (call segment : ℕ) (unit : Unit) → HasEffect st event unit → is_lost_on call segment (unit_after st event unit) ≡ true →
    (is_lost_on call segment unit ≡ true) ⊎ (is_standing call segment unit ≡ true)
lost_or_stood st event call segment unit f h =
    let later = unit_after st event unit in
    let p : (is_on call segment later ≡ true) × (is_lost later.work.state ≡ true) = and_parts (is_on call segment later) (is_lost later.work.state) h in
    let on = sym (was_on st event call segment unit later f) ∙ p.0 in
    elim (was_lost st event unit later f p.1) [
      | inl e ↦ inl (and_from (is_on call segment unit) (is_lost unit.work.state) on e)
      | inr e ↦ inr (and_from (is_on call segment unit) (stands unit.work.state) on e.0)
    ]

-- a round asks once for each segment of a list
asked_on : (st : State) (r : RoundEvent) (call segment originator n : ℕ) (segments : List ℕ) →
    how_many (is_on call segment) (map (unit_made r.call r.id) (asks_from st.holding originator n segments)) ≡ cond (r.call == call) (how_many (λ x. x == segment) segments) 0
asked_on st r call segment originator n [] = nothing (r.call == call)
  where
    nothing : (b : Bool) → 0 ≡ cond {A = ℕ} b 0 0
    nothing true = refl
    nothing false = refl
asked_on st r call segment originator n (s ∷ segments) = by_call (r.call == call) (asked_on st r call segment originator (n + 1) segments)
  where
    by_call : (b : Bool) → how_many (is_on call segment) (map (unit_made r.call r.id) (asks_from st.holding originator (n + 1) segments)) ≡ cond b (how_many (λ x. x == segment) segments) 0 →
        cond {A = ℕ} (b && (s == segment)) 1 0 + how_many (is_on call segment) (map (unit_made r.call r.id) (asks_from st.holding originator (n + 1) segments)) ≡ cond b (cond {A = ℕ} (s == segment) 1 0 + how_many (λ x. x == segment) segments) 0
    by_call true h = omega arith
    by_call false h = omega arith

-- what is one at most stays so where a test may leave it out
at_most_once : (b : Bool) (n : ℕ) → n ≤ 1 → cond b n 0 ≤ cond {A = ℕ} b 1 0
at_most_once true n h = h
at_most_once false n h = omega arith

-- a round asks for a segment once at most, and only for its own call
round_on : (st : State) (r : RoundEvent) (found : Call) (call segment : ℕ) → CanRound st r found → how_many (is_on call segment) (map (unit_made r.call r.id) r.asks) ≤ cond {A = ℕ} (r.call == call) 1 0
round_on st r found call segment can =
    subst (λ asks. how_many (is_on call segment) (map (unit_made r.call r.id) asks) ≤ cond {A = ℕ} (r.call == call) 1 0) (sym can.asks)
    (let e = asked_on st r call segment found.originator (length st.calling.units + 1) (incomplete st.calling r.call) in
    let f = count_filtered (λ x. x == segment) (λ s. not (is_complete st.calling.units r.call s)) (segments_read st.calling) in
    let g = row_once 0 st.calling.segments segment in
    let m = at_most_once (r.call == call) (how_many (λ x. x == segment) (incomplete st.calling r.call)) (omega arith) in
    omega arith)

-- a round asks for no segment that is complete
round_off : (st : State) (r : RoundEvent) (found : Call) (segment : ℕ) → CanRound st r found → is_complete st.calling.units r.call segment ≡ true → how_many (is_on r.call segment) (map (unit_made r.call r.id) r.asks) ≡ 0
round_off st r found segment can complete =
    subst (λ asks. how_many (is_on r.call segment) (map (unit_made r.call r.id) asks) ≡ 0) (sym can.asks)
    (asked_on st r r.call segment found.originator (length st.calling.units + 1) (incomplete st.calling r.call)
    ∙ ap (λ n. cond {A = ℕ} (r.call == r.call) n 0) (count_left_out (λ s. not (is_complete st.calling.units r.call s)) segment (ap not complete) (segments_read st.calling))
    ∙ nothing (r.call == r.call))
  where
    nothing : (b : Bool) → cond {A = ℕ} b 0 0 ≡ 0
    nothing true = refl
    nothing false = refl

-- where no unit of a call is open and a segment isn't complete, none stands on it
none_stand : (call segment : ℕ) (units : List Unit) → list_any (λ unit. is_of call unit && is_open_unit unit) units ≡ false → is_complete units call segment ≡ false → how_many (is_standing call segment) units ≡ 0
none_stand call segment [] o c = refl
none_stand call segment (unit ∷ units) o c =
    let p : ((is_of call unit && is_open_unit unit) ≡ false) × (list_any (λ unit. is_of call unit && is_open_unit unit) units ≡ false) = or_parts (is_of call unit && is_open_unit unit) _ o in
    let q : ((is_on call segment unit && is_ended unit.work.state) ≡ false) × (is_complete units call segment ≡ false) = or_parts (is_on call segment unit && is_ended unit.work.state) _ c in
    let rest = none_stand call segment units p.1 q.1 in
    let one = ap (λ t. cond {A = ℕ} t 1 0) (neither (is_of call unit) (unit.work.segment == segment) (is_open_unit unit) (is_ended unit.work.state) p.0 q.0) in
    omega arith
  where
    neither : (a b x y : Bool) → (a && x) ≡ false → ((a && b) && y) ≡ false → ((a && b) && (x || y)) ≡ false
    neither true true false false p q = refl
    neither true true true y p q = absurd (cc)
    neither true true false true p q = absurd (cc)
    neither true false x y p q = refl
    neither false b x y p q = refl

-- no unit of the call is open where a round of it is due, and a granted round is left
pub due_closed : (st : State) (number : ℕ) (call : Call) → is_due st number call ≡ true → (has_open st.calling number ≡ false) × (nat_lt call.rounds (granted call) ≡ true)
due_closed st number call h =
    let a = and_parts (set_of.len call.lost == 0) (not (has_open st.calling number) && (nat_lt call.rounds (granted call) && (not (all_complete st.calling number) && (list_all (has_reader st.holding call.originator) (incomplete st.calling number) && has_caught_up st call)))) h in
    let b = and_parts (not (has_open st.calling number)) (nat_lt call.rounds (granted call) && (not (all_complete st.calling number) && (list_all (has_reader st.holding call.originator) (incomplete st.calling number) && has_caught_up st call))) a.1 in
    let d = and_parts (nat_lt call.rounds (granted call)) (not (all_complete st.calling number) && (list_all (has_reader st.holding call.originator) (incomplete st.calling number) && has_caught_up st call)) b.1 in
    (not-true (has_open st.calling number) b.0, d.0)

-- what passes of the units that stand or are lost is on the segment
standing_on : (call segment : ℕ) (unit : Unit) → is_standing call segment unit ≡ true → is_on call segment unit ≡ true
standing_on call segment unit h = (and_parts (is_on call segment unit) (stands unit.work.state) h).0

-- a unit that is lost on a segment is on it
lost_on : (call segment : ℕ) (unit : Unit) → is_lost_on call segment unit ≡ true → is_on call segment unit ≡ true
lost_on call segment unit h = (and_parts (is_on call segment unit) (is_lost unit.work.state) h).0

-- no unit of a call that wasn't made
pub none_of : (past : List Event) (call segment : ℕ) (units : List Unit) → is_none (invoke_of past call) ≡ true → AllByRecursion (IsKnown past) units → how_many (is_on call segment) units ≡ 0
none_of past call segment [] h k = refl
none_of past call segment (unit ∷ units) h k = by_call (unit.work.call == call) refl (none_of past call segment units h k.1)
  where
    by_call : (b : Bool) → (unit.work.call == call) ≡ b → how_many (is_on call segment) units ≡ 0 → cond {A = ℕ} (b && (unit.work.segment == segment)) 1 0 + how_many (is_on call segment) units ≡ 0
    by_call false t rest = omega arith
    by_call true t rest = let same = ap (λ n. is_none (invoke_of past n)) (eqb-true unit.work.call call t) in let known = k.0 in absurd (cc)

-- of each call and segment, those that stood and those that are made are one at most together
made_one : (past : List Event) (st : State) (event : Event) (call segment : ℕ) → allowed st event ≡ true → how_many (is_standing call segment) st.calling.units ≤ 1 →
    how_many (is_standing call segment) st.calling.units + how_many (is_standing call segment) (units_made event) ≤ 1
made_one past st (Round r) call segment may h =
    let found : (c : Call) × CanRound st r c = round_facts st r may in
    by_call found.0 found.1 (r.call == call) refl (is_complete st.calling.units r.call segment) refl
  where
    by_call : (found : Call) → CanRound st r found → (b : Bool) → (r.call == call) ≡ b → (c : Bool) → is_complete st.calling.units r.call segment ≡ c →
        how_many (is_standing call segment) st.calling.units + how_many (is_standing call segment) (map (unit_made r.call r.id) r.asks) ≤ 1
    by_call found can false t c e =
        let a = how_many_le (is_standing call segment) (is_on call segment) (standing_on call segment) (map (unit_made r.call r.id) r.asks) in
        let b = round_on st r found call segment can in
        let d = ap (λ x. cond {A = ℕ} x 1 0) t in omega arith
    by_call found can true t true e =
        let a = how_many_le (is_standing call segment) (is_on call segment) (standing_on call segment) (map (unit_made r.call r.id) r.asks) in
        let b = ap (λ n. how_many (is_on n segment) (map (unit_made r.call r.id) r.asks)) (sym (eqb-true r.call call t)) ∙ round_off st r found segment can e in
        omega arith
    by_call found can true t false e =
        let a = how_many_le (is_standing call segment) (is_on call segment) (standing_on call segment) (map (unit_made r.call r.id) r.asks) in
        let b = round_on st r found call segment can in
        let d = ap (λ x. cond {A = ℕ} x 1 0) t in
        let n = ap (λ n. how_many (is_standing n segment) st.calling.units) (sym (eqb-true r.call call t)) ∙ none_stand r.call segment st.calling.units (due_closed st r.call found can.due).0 e in
        omega arith
made_one past st _ call segment may h = omega arith

-- no more are made than rounds
made_rounds : (past : List Event) (st : State) (event : Event) (call segment : ℕ) → allowed st event ≡ true → how_many (is_on call segment) (units_made event) + rounds_in past call ≤ rounds_in (event ∷ past) call
made_rounds past st (Round r) call segment may =
    let found : (c : Call) × CanRound st r c = round_facts st r may in
    let b = round_on st r found.0 call segment found.1 in omega arith
made_rounds past st _ call segment may = omega arith

-- a unit of a round is not lost
asked_unlost : (r : RoundEvent) (call segment : ℕ) (asks : List Ask) → AllByRecursion (λ unit. is_lost_on call segment unit ≡ false) (map (unit_made r.call r.id) asks)
asked_unlost r call segment [] = tt
asked_unlost r call segment (ask ∷ asks) = (never (is_on call segment (unit_made r.call r.id ask)), asked_unlost r call segment asks)
  where
    never : (b : Bool) → (b && false) ≡ false
    never true = refl
    never false = refl

-- what is made isn't lost
made_unlost : (event : Event) (call segment : ℕ) → how_many (is_lost_on call segment) (units_made event) ≡ 0
made_unlost (Round r) call segment = count_none (is_lost_on call segment) (map (unit_made r.call r.id) r.asks) (asked_unlost r call segment r.asks)
made_unlost _ call segment = refl

-- a call that an event makes wasn't there
pub made_absent : (st : State) (event : Event) (call : ℕ) → allowed st event ≡ true → invokes call event ≡ true → is_none (call_of st.calling call) ≡ true
unfolding can_invoke
made_absent st (Invoke i) call may h =
    let p = and_parts (lives st.holding.coord i.node) _ may in
    let q : (is_none (call_of st.calling i.call) ≡ true) × _ = and_parts (is_none (call_of st.calling i.call)) _ p.1 in ap (λ n. is_none (call_of st.calling n)) (sym (eqb-true i.call call h)) ∙ q.0
made_absent st _ call may h = absurd (cc)

-- and nothing was told of it
pub made_anew : (past : List Event) (st : State) (event : Event) (call : ℕ) → allowed st event ≡ true → CallsTold past st → invokes call event ≡ true → is_none (invoke_of past call) ≡ true
made_anew past st event call may told h = none_told past call (call_of st.calling call) (told call) ∙ made_absent st event call may h

-- every event that may happen keeps what is known of numbers of units
pub counts_kept : (past : List Event) (st : State) (event : Event) → allowed st event ≡ true → NumberedFrom 1 st.calling.units → LinksKept past st → CountsKept past st.calling.units → CountsKept (event ∷ past) (changed st event).calling.units
counts_kept past st event may numbered links h =
    subst (CountsKept (event ∷ past)) (sym (units_are st event)) (record { one = one; by_rounds = by_rounds; by_moves = by_moves })
  where
    f : AllByRecursion (HasEffect st event) st.calling.units
    f = effects st event may numbered

    later : List Unit
    later = map (unit_after st event) st.calling.units

    on_later : (call segment : ℕ) → how_many (is_on call segment) later ≤ how_many (is_on call segment) st.calling.units
    on_later call segment =
        count_changed (is_on call segment) (is_on call segment) (unit_after st event) st.calling.units
        (each_imply (HasEffect st event) (λ unit. is_on call segment (unit_after st event unit) ≡ true → is_on call segment unit ≡ true) (on_before st event call segment) st.calling.units f)

    one : (call segment : ℕ) → how_many (is_standing call segment) (later ++ units_made event) ≤ 1
    one call segment =
        let a = how_many-append (is_standing call segment) later (units_made event) in
        let b = count_changed (is_standing call segment) (is_standing call segment) (unit_after st event) st.calling.units
        (each_imply (HasEffect st event) (λ unit. is_standing call segment (unit_after st event unit) ≡ true → is_standing call segment unit ≡ true) (standing_before st event call segment) st.calling.units f) in
        let c = made_one past st event call segment may (h.one call segment) in
        omega arith

    by_rounds : (call segment : ℕ) → how_many (is_on call segment) (later ++ units_made event) ≤ rounds_in (event ∷ past) call
    by_rounds call segment =
        let a = how_many-append (is_on call segment) later (units_made event) in
        let b = on_later call segment in
        let c = made_rounds past st event call segment may in
        let d = h.by_rounds call segment in
        omega arith

    by_moves : (call segment : ℕ) → how_many (is_lost_on call segment) (later ++ units_made event) ≤ since_invoke is_move (event ∷ past) call
    by_moves call segment =
        let a = how_many-append (is_lost_on call segment) later (units_made event) in
        let b = made_unlost event call segment in
        let c = by_event (invokes call event) refl (is_move event) refl in
        omega arith
      where
        by_event : (i : Bool) → invokes call event ≡ i → (m : Bool) → is_move event ≡ m →
            how_many (is_lost_on call segment) later ≤ (if i then 0 else (if m then 1 else 0) + since_invoke is_move past call)
        by_event true e m x =
            let a = how_many_le (is_lost_on call segment) (is_on call segment) (lost_on call segment) later in
            let b = on_later call segment in
            let c = none_of past call segment st.calling.units (made_anew past st event call may links.calls e) links.known in
            omega arith
        by_event false e true x =
            let a = count_split (is_lost_on call segment) (is_lost_on call segment) (is_standing call segment) (unit_after st event) st.calling.units
            (each_imply (HasEffect st event) (λ unit. is_lost_on call segment (unit_after st event unit) ≡ true → (is_lost_on call segment unit ≡ true) ⊎ (is_standing call segment unit ≡ true)) (lost_or_stood st event call segment) st.calling.units f) in
            let b = h.by_moves call segment in
            let c = h.one call segment in
            omega arith
        by_event false e false x =
            let a = count_changed (is_lost_on call segment) (is_lost_on call segment) (unit_after st event) st.calling.units
            (each_imply (HasEffect st event) (λ unit. is_lost_on call segment (unit_after st event unit) ≡ true → is_lost_on call segment unit ≡ true) (lost_before st event call segment x) st.calling.units f) in
            let b = h.by_moves call segment in
            omega arith
