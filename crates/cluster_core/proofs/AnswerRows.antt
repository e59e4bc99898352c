-- What an answer makes of a core, and which answer there is.
use Rattle.std.proofs.Common.{◌≡◌, ℕ, Bool, true, false, ◌&&◌, not, ◌||◌, ◌==◌, Option, None, Some, is_none, if◌then◌else◌, refl, ap, ◌∙◌}
use Rattle.std.specs.FinMap as map_of
use Rattle.std.specs.Option.{option_and_then, option_map}
use Rattle.std.specs.Ordering.{nat_cmp}
use Rattle.delivery_mode.specs.Guarantee.{asks_again}
use Rattle.grid_event.specs.declared.call_events.AnswerEvent.{AnswerEvent}
use Rattle.grid_event.specs.declared.event.Event.TheVariants as events
use Rattle.grid_event.specs.declared.outcome.Outcome.{Outcome}
use Rattle.cluster_calls.proofs.BothLaws.{and_right}
use Rattle.cluster_calls.specs.Calling.{changes_call, with_call}
use Rattle.cluster_model.specs.Answers.{answered, can_answer, can_answer_call, evidence_of, is_that_outcome, is_whole, outcome_of, with_outcome}
use Rattle.cluster_model.specs.Calls.{all_complete, has_open}
use Rattle.cluster_model.specs.Commands.{answer_event, if_any_allowed}
use Rattle.cluster_model.specs.State.{Call, Calling, State, call_of}
use Rattle.cluster_laws.proofs.stuck.StuckUnits.{outcome_itself}
use Rattle.cluster_core.specs.Insides.{IsCore, state_of}
use Rattle.cluster_core.specs.declared.cluster.Core.TheInside.{Inside}

-- the calls after an answer
answer_calls : (st : Calling) (a : AnswerEvent) (found : Option Call) → with_call a.call (λ (call : Call). record call { outcome = Some a.outcome }) found st.calls ≡ with_outcome st a found
answer_calls st a None = refl
answer_calls st a (Some call) = refl

-- a core whose call has the outcome is the core after the answer
pub answer_seen : (fields : Inside) (st : State) (a : AnswerEvent) (calls : Calling) → state_of fields ≡ st → calls ≡ changes_call a.call (λ (call : Call). record call { outcome = Some a.outcome }) fields.calls
    → state_of (record fields { calls = calls }) ≡ record st { calling = answered st.calling a }
unfolding answered
answer_seen fields st a calls view is =
    (λ j. state_of (record fields { calls = is j }))
    ∙ ap (λ (others : map_of.FinMap nat_cmp Call). record { holding = fields.store; calling = record fields.calls { calls = others } }) (answer_calls fields.calls a (call_of (state_of fields).calling a.call))
    ∙ ap (λ (s : State). record s { calling = answered s.calling a }) view

-- the evidence of a call
pub evidence_seen : (fields : Inside) (st : State) → IsCore fields → state_of fields ≡ st → (number : ℕ) (call : Call) → evidence_of fields.calls number call ≡ evidence_of st.calling number call
evidence_seen fields st h view number call =
    ap (λ (s : State). evidence_of s.calling number call) view

-- in a call that is whole every segment is complete or no unit is open
pub whole_one : (st : State) (number : ℕ) (call : Call) → is_whole st.calling number call ≡ true → (all_complete st.calling number || not (has_open st.calling number)) ≡ true
whole_one st number call h = by (asks_again call.request.guarantee) (all_complete st.calling number) (not (call.rounds == 0)) (not (has_open st.calling number)) h
  where
    by : (again complete made closed : Bool) → (if again then complete else made && closed) ≡ true → (complete || closed) ≡ true
    by true complete made closed h = ap (λ b. b || closed) h
    by false true made closed h = refl
    by false false made closed h = and_right made closed h

-- the answer of a call that has this outcome, or none
answer_of : (st : State) (number : ℕ) (call : Call) (outcome : Option Outcome) → call_of st.calling number ≡ Some call → outcome_of st number call ≡ outcome
    → answer_event st number ≡ if_any_allowed st (option_map (λ outcome. events.Answer (record { call = number; outcome = outcome })) outcome)
answer_of st number call outcome there is =
    ap (λ (found : Option Call). if_any_allowed st (option_map (λ outcome. events.Answer (record { call = number; outcome = outcome })) (option_and_then (outcome_of st number) found))) there
    ∙ ap (λ (o : Option Outcome). if_any_allowed st (option_map (λ outcome. events.Answer (record { call = number; outcome = outcome })) o)) is

-- whether the outcome that there is may be the answer
answer_may : (st : State) (number : ℕ) (call : Call) (outcome : Outcome) → call_of st.calling number ≡ Some call → outcome_of st number call ≡ Some outcome
    → can_answer st (record { call = number; outcome = outcome }) ≡ is_none call.outcome
unfolding can_answer
answer_may st number call outcome there is =
    let a : AnswerEvent = record { call = number; outcome = outcome } in
    ap (can_answer_call st a) there
    ∙ ap (λ (o : Option Outcome). is_none call.outcome && is_that_outcome outcome o) is
    ∙ ap (λ b. is_none call.outcome && b) (outcome_itself outcome)
    ∙ right (is_none call.outcome)
  where
    right : (b : Bool) → (b && true) ≡ b
    right true = refl
    right false = refl

-- none where it has no outcome yet
answer_early : (st : State) (number : ℕ) (call : Call) → call_of st.calling number ≡ Some call → outcome_of st number call ≡ None → answer_event st number ≡ None
answer_early st number call there is = answer_of st number call None there is

-- and where it has one, it is the answer as long as the call isn't answered
answer_given : (st : State) (number : ℕ) (call : Call) (outcome : Outcome) → call_of st.calling number ≡ Some call → outcome_of st number call ≡ Some outcome
    → answer_event st number ≡ (if is_none call.outcome then Some (events.Answer (record { call = number; outcome = outcome })) else None)
answer_given st number call outcome there is =
    answer_of st number call (Some outcome) there is
    ∙ ap (λ b. if b then Some (events.Answer (record { call = number; outcome = outcome })) else None) (answer_may st number call outcome there is)

-- none where it is answered
pub answer_over : (st : State) (number : ℕ) (call : Call) → call_of st.calling number ≡ Some call → is_none call.outcome ≡ false → answer_event st number ≡ None
answer_over st number call there over = by_outcome (outcome_of st number call) refl
  where
    by_outcome : (outcome : Option Outcome) → outcome_of st number call ≡ outcome → answer_event st number ≡ None
    by_outcome None is = answer_early st number call there is
    by_outcome (Some outcome) is =
        answer_given st number call outcome there is
        ∙ ap (λ b. if b then Some (events.Answer (record { call = number; outcome = outcome })) else None) over

-- else it is that of its outcome
pub answer_there : (st : State) (number : ℕ) (call : Call) (outcome : Outcome) → call_of st.calling number ≡ Some call → is_none call.outcome ≡ true → outcome_of st number call ≡ Some outcome
    → answer_event st number ≡ Some (events.Answer (record { call = number; outcome = outcome }))
answer_there st number call outcome there open_ is =
    answer_given st number call outcome there is
    ∙ ap (λ b. if b then Some (events.Answer (record { call = number; outcome = outcome })) else None) open_
