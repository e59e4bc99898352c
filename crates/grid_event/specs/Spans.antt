-- The span of a call: from its start on to its answer, or as long as it has none. A past lists events, the newest first.
use Rattle.std.specs.Prelude.{ℕ, ◌+◌, ◌==◌, Bool, true, false, ◌||◌, if◌then◌else◌, List, [], ◌∷◌, Option, None, Some, unwrap_or}
use Rattle.grid_event.specs.declared.call_events.AnswerEvent.{AnswerEvent}
use Rattle.grid_event.specs.declared.call_events.InvokeEvent.{InvokeEvent}
use Rattle.grid_event.specs.declared.event.Event.{Event}
use Rattle.grid_event.specs.declared.event.Event.TheVariants.{Answer, Invoke}
use Rattle.grid_event.specs.declared.outcome.Outcome.{Outcome}

-- the event makes the call
abbrev pub invokes : ℕ → Event → Bool
invokes call (Invoke invoke) = invoke.call == call
invokes call _ = false

-- the event answers the call
abbrev pub answers : ℕ → Event → Bool
answers call (Answer answer) = answer.call == call
answers call _ = false

-- the event that made the call, where it was made
abbrev pub invoke_of : List Event → ℕ → Option InvokeEvent
invoke_of [] call = None
invoke_of (Invoke invoke ∷ past) call = if invoke.call == call then Some invoke else invoke_of past call
invoke_of (_ ∷ past) call = invoke_of past call

-- the past up to the answer of a call, where it has one
abbrev pub up_to_answer : List Event → ℕ → Option (List Event)
up_to_answer [] call = None
up_to_answer (event ∷ past) call = if answers call event then Some (event ∷ past) else up_to_answer past call

-- the past at the end of a call's span: up to its answer, or all of it
abbrev pub span_end : List Event → ℕ → List Event
span_end past call = unwrap_or (up_to_answer past call) past

-- the past before the answer of a call, where it has one
abbrev pub before_answer : List Event → ℕ → Option (List Event)
before_answer [] call = None
before_answer (event ∷ past) call = if answers call event then Some past else before_answer past call

-- the outcome of a call, where it has one
abbrev pub outcome_in : List Event → ℕ → Option Outcome
outcome_in [] call = None
outcome_in (Answer answer ∷ past) call = if answer.call == call then Some answer.outcome else outcome_in past call
outcome_in (_ ∷ past) call = outcome_in past call

-- how many of the events since the call was made pass the test
abbrev pub since_invoke : (Event → Bool) → List Event → ℕ → ℕ
since_invoke test [] call = 0
since_invoke test (event ∷ past) call =
    if invokes call event then 0 else (if test event then 1 else 0) + since_invoke test past call
