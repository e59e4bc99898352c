-- What a round asks for, and what it makes of a core.
use Rattle.std.proofs.Common.{◌≡◌, ℕ, ◌+◌, ◌==◌, Bool, true, false, not, ◌&&◌, nat_lt, List, [], ◌∷◌, ◌++◌, map, length, Option, None, Some, is_none, if◌then◌else◌, refl, sym, subst, ap, ◌∙◌}
use Rattle.std.proofs.lemmas.Bool.{and_from, and_parts, eq-eqb}
use Rattle.std.specs.FinMap as map_of
use Rattle.std.specs.FinSet as set_of
use Rattle.std.specs.List.{range_with_len}
use Rattle.std.specs.Option.{option_map}
use Rattle.std.specs.Ordering.{nat_cmp}
use Rattle.grid_event.specs.Configs.{is_up_to}
use Rattle.grid_base.specs.declared.limits.TheConstants.{LAST_CALL}
use Rattle.grid_event.specs.declared.call_events.Ask.{Ask}
use Rattle.grid_event.specs.declared.call_events.InvokeEvent.{InvokeEvent}
use Rattle.grid_event.specs.declared.call_events.RoundEvent.{RoundEvent}
use Rattle.topology_coord.specs.Coordination.{installed_id, lives}
use Rattle.cluster_calls.specs.Calling.{is_one, puts_call, round_of, with_call, with_round}
use Rattle.cluster_model.specs.Calls as calls_of
use Rattle.cluster_model.specs.Calls.{all_complete, any_open, asks_from, asks_of, can_invoke, can_round, granted, has_caught_up, has_open, incomplete, invoked, is_due, is_next_round, is_request, new_call, rounded, unit_made}
use Rattle.cluster_model.specs.Commands.{if_any_allowed, round_event, round_with}
use Rattle.cluster_model.specs.Same.{same_asks, same_ask}
use Rattle.cluster_model.specs.State.{Call, Calling, State, call_of, goes_on}
use Rattle.cluster_laws.proofs.stuck.StuckUnits.{ask_itself, pointwise_itself}
use Rattle.cluster_laws.proofs.units.UnitFacts.{CanRound, round_facts}
use Rattle.cluster_core.specs.Insides.{IsCore, state_of}
use Rattle.cluster_core.specs.declared.cluster.Core.TheInside.{Inside}
use Rattle.cluster_core.proofs.SegmentRows.{incomplete_seen}

-- what doesn't hold where its opposite does
not_holds : (b : Bool) → not b ≡ true → b ≡ false
not_holds true h = absurd (cc)
not_holds false h = refl

-- there is none
is_none_there : {A : Type 0} (found : Option A) → is_none found ≡ true → found ≡ None
is_none_there None h = refl
is_none_there (Some x) h = absurd (cc)

-- a call that may be made isn't there yet
pub invoke_fresh : (st : State) (i : InvokeEvent) → can_invoke st i ≡ true → call_of st.calling i.call ≡ None
unfolding can_invoke
invoke_fresh st i may =
    let a = and_parts (lives st.holding.coord i.node) _ may in
    let b = and_parts (is_none (call_of st.calling i.call)) (is_up_to LAST_CALL i.call && is_request st.holding.config.values i.request) a.1 in
    is_none_there (call_of st.calling i.call) b.0

-- a core whose calls have a call more is the core after it was made
pub invoke_seen : (fields : Inside) (st : State) (i : InvokeEvent) (calls : Calling) → state_of fields ≡ st → calls ≡ puts_call i.call (new_call i.node i.request) fields.calls
    → state_of (record fields { calls = calls }) ≡ record st { calling = invoked st.calling i }
unfolding invoked
invoke_seen fields st i calls view is = (λ j. state_of (record fields { calls = is j })) ∙ ap (λ (s : State). record s { calling = invoked s.calling i }) view

-- the units that are asked are numbered on
asks_numbered : (st : State) (originator u : ℕ) (segments : List ℕ) → map (λ (ask : Ask). ask.unit) (asks_from st.holding originator u segments) ≡ range_with_len u (length (asks_from st.holding originator u segments))
asks_numbered st originator u [] = refl
asks_numbered st originator u (segment ∷ segments) = ap (λ units. u ∷ units) (asks_numbered st originator (u + 1) segments)

-- they are asked for these segments
asks_segments : (st : State) (originator u : ℕ) (segments : List ℕ) → map (λ (ask : Ask). ask.segment) (asks_from st.holding originator u segments) ≡ segments
asks_segments st originator u [] = refl
asks_segments st originator u (segment ∷ segments) = ap (λ others. segment ∷ others) (asks_segments st originator (u + 1) segments)

-- what a round needs of the calls: a granted round is left, no unit is open, and the asks are of the incomplete segments, by units that are numbered on
pub record Asks (calls : Calling) (r : RoundEvent) : Type 0 where
  pub left : is_one (λ (call : Call). nat_lt call.rounds (granted call)) (call_of calls r.call) ≡ true
  pub closed : any_open calls.units r.call ≡ false
  pub numbered : map (λ (ask : Ask). ask.unit) r.asks ≡ range_with_len (length calls.units + 1) (length r.asks)
  pub segments : map (λ (ask : Ask). ask.segment) r.asks ≡ incomplete calls r.call

-- a round that is due for its call and asks for what is incomplete has it
asks_right : (fields : Inside) (r : RoundEvent) → IsCore fields → (call : Call) → CanRound (state_of fields) r call → Asks fields.calls r
asks_right fields r h call can =
    let st = state_of fields in
    let a = and_parts (set_of.len call.lost == 0) _ can.due in
    let b = and_parts (not (has_open st.calling r.call)) (nat_lt call.rounds (granted call) && (not (all_complete st.calling r.call) && (_ && has_caught_up st call))) a.1 in
    let c = and_parts (nat_lt call.rounds (granted call)) (not (all_complete st.calling r.call) && (_ && has_caught_up st call)) b.1 in
    record {
      left = ap (is_one (λ (call : Call). nat_lt call.rounds (granted call))) can.there ∙ c.0;
      closed = not_holds (has_open st.calling r.call) b.0;
      numbered =
          subst (λ (asks : List Ask). map (λ (ask : Ask). ask.unit) asks ≡ range_with_len (length fields.calls.units + 1) (length asks)) (sym can.asks)
          (asks_numbered st call.originator (length fields.calls.units + 1) (incomplete st.calling r.call));
      segments =
          ap (map (λ (ask : Ask). ask.segment)) can.asks
          ∙ asks_segments st call.originator (length fields.calls.units + 1) (incomplete st.calling r.call)
          ∙ sym (incomplete_seen fields st h refl r.call);
    }

-- and so has one that may be made
pub round_asks : (fields : Inside) (st : State) (r : RoundEvent) → IsCore fields → state_of fields ≡ st → can_round st r ≡ true → Asks fields.calls r
round_asks fields st r h view may =
    let can = round_facts (state_of fields) r (ap (λ (s : State). can_round s r) view ∙ may) in
    asks_right fields r h can.0 can.1

-- the calls after a round
round_calls : (st : Calling) (r : RoundEvent) (found : Option Call) → with_call r.call (with_round (map (λ (ask : Ask). ask.unit) r.asks)) found st.calls ≡ calls_of.with_round st r found
round_calls st r None = refl
round_calls st r (Some call) = refl

-- a core whose calls have made the round is the core after it
pub round_seen : (fields : Inside) (st : State) (r : RoundEvent) (calls : Calling) → state_of fields ≡ st → calls ≡ round_of r.call r.id r.asks fields.calls
    → state_of (record fields { calls = calls }) ≡ record st { calling = rounded st.calling r }
unfolding rounded
round_seen fields st r calls view is =
    (λ j. state_of (record fields { calls = is j }))
    ∙ ap (λ (others : map_of.FinMap nat_cmp Call). record { holding = fields.store; calling = record fields.calls { units = fields.calls.units ++ map (unit_made r.call r.id) r.asks; calls = others } })
    (round_calls fields.calls r (call_of (state_of fields).calling r.call))
    ∙ ap (λ (s : State). record s { calling = rounded s.calling r }) view

-- the next round of a call may be made where the call goes on and a round is due
round_may : (st : State) (number : ℕ) (call : Call) → call_of st.calling number ≡ Some call → can_round st (record { call = number; id = installed_id st.holding.coord call.originator; asks = asks_of st number call }) ≡ (goes_on st.holding (Some call) && is_due st number call)
unfolding can_round
round_may st number call there =
    let r : RoundEvent = record { call = number; id = installed_id st.holding.coord call.originator; asks = asks_of st number call } in
    let same = and_from (r.id == r.id) (same_asks r.asks r.asks) (eq-eqb r.id r.id refl) (pointwise_itself same_ask ask_itself r.asks) in
    ap (λ (found : Option Call). goes_on st.holding found && is_next_round st r found) there
    ∙ ap (λ b. goes_on st.holding (Some call) && (is_due st number call && b)) same
    ∙ ap (λ b. goes_on st.holding (Some call) && b) (right (is_due st number call))
  where
    right : (b : Bool) → (b && true) ≡ b
    right true = refl
    right false = refl

-- and then it is the event
round_by : (st : State) (number : ℕ) (call : Call) → call_of st.calling number ≡ Some call
    → round_event st number ≡ (if goes_on st.holding (Some call) && is_due st number call then Some (round_with st number call) else None)
round_by st number call there =
    ap (λ (found : Option Call). if_any_allowed st (option_map (round_with st number) found)) there
    ∙ ap (λ b. if b then Some (round_with st number call) else None) (round_may st number call there)

-- none where the call doesn't go on
pub round_over : (st : State) (number : ℕ) (call : Call) → call_of st.calling number ≡ Some call → goes_on st.holding (Some call) ≡ false → round_event st number ≡ None
round_over st number call there off =
    round_by st number call there ∙ ap (λ b. if b && is_due st number call then Some (round_with st number call) else None) off

-- none where no round is due
pub round_early : (st : State) (number : ℕ) (call : Call) → call_of st.calling number ≡ Some call → goes_on st.holding (Some call) ≡ true → is_due st number call ≡ false → round_event st number ≡ None
round_early st number call there on early =
    round_by st number call there
    ∙ ap (λ b. if b && is_due st number call then Some (round_with st number call) else None) on
    ∙ ap (λ b. if b then Some (round_with st number call) else None) early

-- else there is one
pub round_there : (st : State) (number : ℕ) (call : Call) → call_of st.calling number ≡ Some call → goes_on st.holding (Some call) ≡ true → is_due st number call ≡ true
    → round_event st number ≡ Some (round_with st number call)
round_there st number call there on due =
    round_by st number call there
    ∙ ap (λ b. if b && is_due st number call then Some (round_with st number call) else None) on
    ∙ ap (λ b. if b then Some (round_with st number call) else None) due
