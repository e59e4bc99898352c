-- What the events tell of calls and of their units is what the cluster has. A past lists events, the newest first.
use Rattle.std.proofs.Common.{◌≡◌, ℕ, suc, ◌==◌, Bool, true, false, ◌&&◌, ◌||◌, cond, if◌then◌else◌, List, [], ◌∷◌, map, length, Option, None, Some, is_none, refl, sym, ap, ◌∙◌, arith}
use Rattle.std.proofs.lemmas.Bool.{eqb-true}
use Rattle.std.specs.Cmp.{nat_cmp_total, nat_eq_equiv, unsigned_tied}
use Rattle.std.specs.FinMap as map_of
use Rattle.std.specs.List.{AllByRecursion, filter, find, list_any}
use Rattle.std.specs.Option.{option_map}
use Rattle.std.specs.Ordering.{eq_by_cmp, nat_cmp}
use Rattle.grid_base.specs.declared.entry.Entry.{Entry}
use Rattle.grid_base.specs.declared.item.Item.{Item}
use Rattle.grid_event.specs.Spans.{invoke_of, outcome_in}
use Rattle.grid_event.specs.UnitHistories.{asks_of_call, has_ended, has_ended_on}
use Rattle.grid_event.specs.declared.call_events.Ask.{Ask}
use Rattle.grid_event.specs.declared.call_events.InvokeEvent.{InvokeEvent}
use Rattle.grid_event.specs.declared.event.Event.{Event}
use Rattle.grid_event.specs.declared.outcome.Outcome.{Outcome}
use Rattle.grid_event.specs.declared.request.Request.{Request}
use Rattle.cluster_model.specs.Evidence.{given_in, is_unit_of, request_of, taken_in}
use Rattle.cluster_model.specs.Guarantees.{rounds_in}
use Rattle.cluster_model.specs.State.{Call, State, Unit, call_of, is_ended, is_of, is_walk}
use Rattle.cluster_model.specs.Topologies.{changed_calls, each_call, is_complete}
use Rattle.cluster_model.specs.Units.{taken_entries, walks}
use Rattle.cluster_laws.proofs.Numbers.{NumberedFrom, none_below}

-- ---- what is told of calls

-- what is found of a call: the rounds, the outcome, the entries taken and the number of items given, and of none nothing
abbrev pub rounds_found : Option Call → ℕ
rounds_found None = 0
rounds_found (Some call) = call.rounds

-- the outcome of a call that is found, and none where none is
abbrev pub outcome_found : Option Call → Option Outcome
outcome_found None = None
outcome_found (Some call) = call.outcome

-- the entries taken by a call that is found
abbrev pub taken_found : Option Call → List Entry
taken_found None = []
taken_found (Some call) = taken_entries call

-- how many items a call that is found was given
abbrev pub given_found : Option Call → ℕ
given_found None = 0
given_found (Some call) = call.given

-- what is told of a call is what is found of it
pub record CallIs (asked : Option InvokeEvent) (made : ℕ) (answer : Option Outcome) (entries : List Entry) (items : List Item) (found : Option Call) : Type 0 where
  pub request : option_map (λ (i : InvokeEvent). i.request) asked ≡ option_map (λ (call : Call). call.request) found
  pub originator : option_map (λ (i : InvokeEvent). i.node) asked ≡ option_map (λ (call : Call). call.originator) found
  pub rounds : made ≡ rounds_found found
  pub outcome : answer ≡ outcome_found found
  pub taken : entries ≡ taken_found found
  pub given : length items ≡ given_found found

-- what the events tell of a call is what is found of it
abbrev pub CallTold : List Event → ℕ → Option Call → Type 0
CallTold past call found = CallIs (invoke_of past call) (rounds_in past call) (outcome_in past call) (taken_in past call) (given_in past call) found

-- what the events tell of each call is what the cluster has
abbrev pub CallsTold : List Event → State → Type 0
CallsTold past st = (call : ℕ) → CallTold past call (call_of st.calling call)

-- ---- what is told of units

-- what asked for a unit
abbrev pub ask_of : Unit → Ask
ask_of unit = record { unit = unit.work.id; segment = unit.work.segment; node = unit.work.node }

-- the units of a call are those that its rounds asked for, in order
abbrev pub AsksTold : List Event → List Unit → Type 0
AsksTold past units = (call : ℕ) → asks_of_call past call ≡ map ask_of (filter (is_of call) units)

-- that a unit has ended is told
abbrev pub EndTold : List Event → Unit → Type 0
EndTold past unit = has_ended past unit.work.id ≡ is_ended unit.work.state

-- the call of a unit was made
abbrev pub IsKnown : List Event → Unit → Type 0
IsKnown past unit = is_none (invoke_of past unit.work.call) ≡ false

-- ---- what follows

-- nothing is told of a call exactly where none is found
pub none_told : (past : List Event) (call : ℕ) (found : Option Call) → CallTold past call found → is_none (invoke_of past call) ≡ is_none found
none_told past call found h = by_both (invoke_of past call) found h.request
  where
    by_both : (asked : Option InvokeEvent) (found : Option Call) → option_map (λ (i : InvokeEvent). i.request) asked ≡ option_map (λ (call : Call). call.request) found → is_none asked ≡ is_none found
    by_both None None e = refl
    by_both None (Some call) e = absurd (cc)
    by_both (Some i) None e = absurd (cc)
    by_both (Some i) (Some call) e = refl

-- what a call asks for, where it is found
pub request_told : (past : List Event) (st : State) (number : ℕ) (call : Call) → CallsTold past st → call_of st.calling number ≡ Some call → request_of past number ≡ Some call.request
request_told past st number call h e = (h number).request ∙ ap (option_map (λ (call : Call). call.request)) e

-- what a request asks for is a walk; of no request it isn't
abbrev pub asks_walk : Option Request → Bool
asks_walk None = false
asks_walk (Some request) = is_walk request

-- whether a call is a walk is told
pub walks_told : (past : List Event) (st : State) (number : ℕ) → CallsTold past st → walks (call_of st.calling number) ≡ asks_walk (request_of past number)
walks_told past st number h = by_found (call_of st.calling number) ∙ ap asks_walk (sym (h number).request)
  where
    by_found : (found : Option Call) → walks found ≡ asks_walk (option_map (λ (call : Call). call.request) found)
    by_found None = refl
    by_found (Some call) = refl

-- no unit with the number is among units whose numbers differ
none_asked : (m call : ℕ) (units : List Unit) → AllByRecursion (λ (unit : Unit). (unit.work.id == m) ≡ false) units → list_any (λ (ask : Ask). ask.unit == m) (map ask_of (filter (is_of call) units)) ≡ false
none_asked m call [] a = refl
none_asked m call (unit ∷ units) a = by_call (is_of call unit) (none_asked m call units a.1)
  where
    by_call : (b : Bool) → list_any (λ (ask : Ask). ask.unit == m) (map ask_of (filter (is_of call) units)) ≡ false →
        list_any (λ (ask : Ask). ask.unit == m) (map ask_of (if b then unit ∷ filter (is_of call) units else filter (is_of call) units)) ≡ false
    by_call true h = ap (λ t. t || list_any (λ (ask : Ask). ask.unit == m) (map ask_of (filter (is_of call) units))) a.0 ∙ h
    by_call false h = h

-- a unit that is found is the call's, or none is found
abbrev pub is_found_of : ℕ → Option Unit → Bool
is_found_of call None = false
is_found_of call (Some unit) = is_of call unit

-- a unit's number is among the asks of a call exactly where the unit that is found is the call's
found_asked : (m call n : ℕ) (units : List Unit) → NumberedFrom n units →
    list_any (λ (ask : Ask). ask.unit == m) (map ask_of (filter (is_of call) units)) ≡ is_found_of call (find (λ (unit : Unit). unit.work.id == m) units)
found_asked m call n [] a = refl
found_asked m call n (unit ∷ units) a = by_head (unit.work.id == m) refl (is_of call unit) refl (found_asked m call (suc n) units a.1)
  where
    rest : (unit.work.id == m) ≡ true → list_any (λ (ask : Ask). ask.unit == m) (map ask_of (filter (is_of call) units)) ≡ false
    rest t =
        none_asked m call units
        (none_below m (suc n) (let e : unit.work.id ≡ n = a.0 in let f : unit.work.id ≡ m = eqb-true unit.work.id m t in omega arith) units a.1)

    by_head : (b : Bool) → (unit.work.id == m) ≡ b → (o : Bool) → is_of call unit ≡ o →
        list_any (λ (ask : Ask). ask.unit == m) (map ask_of (filter (is_of call) units)) ≡ is_found_of call (find (λ (unit : Unit). unit.work.id == m) units) →
        list_any (λ (ask : Ask). ask.unit == m) (map ask_of (if o then unit ∷ filter (is_of call) units else filter (is_of call) units))
        ≡ is_found_of call (cond b (Some unit) (find (λ (unit : Unit). unit.work.id == m) units))
    by_head true t true o h = ap (λ b. b || list_any (λ (ask : Ask). ask.unit == m) (map ask_of (filter (is_of call) units))) t ∙ sym o
    by_head true t false o h = rest t ∙ sym o
    by_head false t true o h = ap (λ b. b || list_any (λ (ask : Ask). ask.unit == m) (map ask_of (filter (is_of call) units))) t ∙ h
    by_head false t false o h = h

-- which call a unit is of is told
pub unit_told : (past : List Event) (st : State) (call number : ℕ) (unit : Unit) → NumberedFrom 1 st.calling.units → AsksTold past st.calling.units →
    find (λ (u : Unit). u.work.id == number) st.calling.units ≡ Some unit → is_unit_of past call number ≡ is_of call unit
unit_told past st call number unit numbered asks e =
    ap (list_any (λ (ask : Ask). ask.unit == number)) (asks call) ∙ found_asked number call 1 st.calling.units numbered ∙ ap (is_found_of call) e

-- an ask of the call on the segment has ended exactly where the segment is complete for it
ended_among : (past : List Event) (call segment : ℕ) (units : List Unit) → AllByRecursion (EndTold past) units →
    list_any (λ (ask : Ask). (ask.segment == segment) && has_ended past ask.unit) (map ask_of (filter (is_of call) units)) ≡ is_complete units call segment
ended_among past call segment [] h = refl
ended_among past call segment (unit ∷ units) h = by_call (is_of call unit) (ended_among past call segment units h.1)
  where
    by_call : (b : Bool) →
        list_any (λ (ask : Ask). (ask.segment == segment) && has_ended past ask.unit) (map ask_of (filter (is_of call) units)) ≡ is_complete units call segment →
        list_any (λ (ask : Ask). (ask.segment == segment) && has_ended past ask.unit) (map ask_of (if b then unit ∷ filter (is_of call) units else filter (is_of call) units))
        ≡ (((b && (unit.work.segment == segment)) && is_ended unit.work.state) || is_complete units call segment)
    by_call true rest = λ i. ((unit.work.segment == segment) && h.0 i) || rest i
    by_call false rest = rest

-- which segments are complete for a call is told
pub ended_told : (past : List Event) (units : List Unit) (call segment : ℕ) → AsksTold past units → AllByRecursion (EndTold past) units →
    has_ended_on past call segment ≡ is_complete units call segment
ended_told past units call segment asks ends =
    ap (list_any (λ (ask : Ask). (ask.segment == segment) && has_ended past ask.unit)) (asks call) ∙ ended_among past call segment units ends

-- ---- look-ups after a change

-- what is found after a call is put there
pub call_put : (calls : map_of.FinMap nat_cmp Call) (number : ℕ) (call : Call) (other : ℕ) →
    map_of.get (map_of.insert calls number call) other ≡ cond (number == other) (Some call) (map_of.get calls other)
call_put calls number call other =
    map_of.get-insert nat_cmp_total calls number call other
    ∙ ap (λ b. cond b (Some call) (map_of.get calls other)) (unsigned_tied other number ∙ nat_eq_equiv.symm other number)

-- after a change of each call, what is found is the changed call
found_each : (change : ℕ → Call → Call) (number : ℕ) (es : List (ℕ × Call)) → map_of.get (changed_calls change es) number ≡ option_map (change number) (map_of.find nat_cmp number es)
found_each change number [] = map_of.get-empty nat_cmp number
found_each change number (e ∷ es) =
    map_of.get-insert nat_cmp_total (changed_calls change es) e.0 (change e.0 e.1) number
    ∙ by_tie (eq_by_cmp nat_cmp number e.0) (unsigned_tied number e.0) (found_each change number es)
  where
    by_tie : (b : Bool) → b ≡ (number == e.0) → map_of.get (changed_calls change es) number ≡ option_map (change number) (map_of.find nat_cmp number es) →
        cond b (Some (change e.0 e.1)) (map_of.get (changed_calls change es) number) ≡ option_map (change number) (cond b (Some e.1) (map_of.find nat_cmp number es))
    by_tie true t rest = ap (λ n. Some (change n e.1)) (sym (eqb-true number e.0 (sym t)))
    by_tie false t rest = rest

-- what is found after each call was changed
pub call_each : (change : ℕ → Call → Call) (calls : map_of.FinMap nat_cmp Call) (number : ℕ) →
    map_of.get (each_call change calls) number ≡ option_map (change number) (map_of.get calls number)
unfolding each_call
call_each change calls number = found_each change number (map_of.entries calls) ∙ sym (ap (option_map (change number)) (map_of.get-entries calls number))
