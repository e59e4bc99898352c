-- What each clause says of an event behind a past. A past lists events, the newest first.
use Rattle.std.specs.Prelude.{◌≡◌, ℕ, ◌+◌, ◌≤◌, true, false, List, ◌∷◌, Some}
use Rattle.std.specs.Bool.{⊤}
use Rattle.delivery_mode.specs.declared.guarantee.Guarantee.{Guarantee}
use Rattle.delivery_mode.specs.declared.guarantee.Guarantee.TheVariants.{Exact, AtLeast, AtMost}
use Rattle.grid_base.specs.declared.datum.Datum.{Datum}
use Rattle.grid_event.specs.Spans.{invoke_of}
use Rattle.grid_event.specs.UnitHistories.{has_ended_on}
use Rattle.grid_event.specs.declared.call_events.InvokeEvent.{InvokeEvent}
use Rattle.grid_event.specs.declared.config.Config.{Config}
use Rattle.grid_event.specs.declared.event.Event.{Event}
use Rattle.grid_event.specs.declared.event.Event.TheVariants.{Take, Answer}
use Rattle.grid_event.specs.declared.outcome.Outcome.{Outcome}
use Rattle.grid_event.specs.declared.outcome.Outcome.TheVariants as outcomes
use Rattle.grid_event.specs.declared.request.Request.{Request}
use Rattle.pipeline_eval.specs.Pipes.{pipe}
use Rattle.pipeline_expr.specs.declared.answer.Answer.TheVariants as answers
use Rattle.segment_hash.specs.Segments.{segment_number}
use Rattle.cluster_model.specs.Causes.{IsCaused}
use Rattle.cluster_model.specs.Evidence.{EachHeld, Stable, entry_times, evidence, given_in, is_unit_of, request_of, taken_in, times}
use Rattle.cluster_model.specs.Guarantees.{moves_in, rounds_in}
use Rattle.cluster_model.specs.Rightness.{may_repeat}
use Rattle.audit_clauses.specs.Shapes.{is_shaped}
use Rattle.audit_clauses.specs.declared.clause.Clause.{Clause}
use Rattle.audit_clauses.specs.declared.clause.Clause.TheVariants as clauses

-- each stable entry is in the evidence
abbrev pub HasStable : Config → List Event → ℕ → Type 0
HasStable config past call =
    (key : List ℕ) (datum : Datum) → Stable config past call key datum → 1 ≤ entry_times key datum (evidence config past call)

-- each stable entry of a segment that ended is in the evidence
abbrev pub HasStableEnded : Config → List Event → ℕ → Type 0
HasStableEnded config past call =
    (key : List ℕ) (datum : Datum) (segment : ℕ) → segment_number config.partition config.segments key ≡ Some segment
    → has_ended_on past call segment ≡ true → Stable config past call key datum
    → 1 ≤ entry_times key datum (evidence config past call)

-- no key is in the evidence twice
abbrev pub HasOnce : Config → List Event → ℕ → Type 0
HasOnce config past call = (key : List ℕ) → times key (evidence config past call) ≤ 1

-- no key is in the evidence more often than there are rounds, nor more often than one plus the installations and departures of the span
abbrev pub HasSeldom : Config → List Event → ℕ → Type 0
HasSeldom config past call =
    (key : List ℕ) → (times key (evidence config past call) ≤ rounds_in past call)
    × (times key (evidence config past call) ≤ 1 + moves_in past call)

-- each entry of the evidence is held
abbrev pub HasHeld : Config → List Event → ℕ → Type 0
HasHeld config past call = EachHeld config past call (evidence config past call)

-- what a clause asks of the evidence of a call by its guarantee
abbrev pub GuaranteeHolds : Clause → Guarantee → Config → List Event → ℕ → Type 0
GuaranteeHolds clauses.Stable Exact config past call = HasStable config past call
GuaranteeHolds clauses.Stable AtLeast config past call = HasStable config past call
GuaranteeHolds clauses.Stable AtMost config past call = HasStableEnded config past call
GuaranteeHolds clauses.Twice Exact config past call = HasOnce config past call
GuaranteeHolds clauses.Twice AtMost config past call = HasOnce config past call
GuaranteeHolds clauses.Often AtLeast config past call = HasSeldom config past call
GuaranteeHolds clauses.Held guarantee config past call = HasHeld config past call
GuaranteeHolds _ _ config past call = ⊤

-- what a clause asks of the outcome of a call. A value is that of the pipeline over the evidence, and a walk that ended gave the
-- items of the pipeline over it; in both cases the guarantee holds. The past begins with the answer
abbrev pub AnswerHolds : Clause → Config → List Event → ℕ → Request → Outcome → Type 0
AnswerHolds clauses.Value config past call request (outcomes.Value answer) = answer ≡ pipe request.pipeline (evidence config past call)
AnswerHolds clauses.Items config past call request outcomes.Ended =
    answers.List (given_in past call) ≡ pipe request.pipeline (evidence config past call)
AnswerHolds which config past call request (outcomes.Value answer) = GuaranteeHolds which request.guarantee config past call
AnswerHolds which config past call request outcomes.Ended = GuaranteeHolds which request.guarantee config past call
AnswerHolds which config past call request _ = ⊤

-- what a clause asks of a walk after a take. The items given so far are those of the pipeline over the entries taken so far; each
-- of these is held, and but for at least once no key is among them twice. The past begins with the take
abbrev pub TakeHolds : Clause → Config → List Event → ℕ → Request → Type 0
TakeHolds clauses.Items config past call request = answers.List (given_in past call) ≡ pipe request.pipeline (taken_in past call)
TakeHolds clauses.Twice config past call request =
    may_repeat request.guarantee ≡ false → (key : List ℕ) → times key (taken_in past call) ≤ 1
TakeHolds clauses.Held config past call request = EachHeld config past call (taken_in past call)
TakeHolds _ config past call request = ⊤

-- what a clause asks of an event behind a past: of each event its shape; of an answer its cause, and what is asked of its outcome;
-- and of a take what is asked of the call that it is for
abbrev pub Holds : Clause → Config → List Event → Event → Type 0
Holds clauses.Shape config past event = is_shaped config past event ≡ true
Holds clauses.Cause config past (Answer a) =
    (invoke : InvokeEvent) → invoke_of past a.call ≡ Some invoke → IsCaused config past a.call invoke a.outcome
Holds clauses.Cause config past _ = ⊤
Holds which config past (Answer a) =
    (request : Request) → request_of past a.call ≡ Some request
    → AnswerHolds which config (Answer a ∷ past) a.call request a.outcome
Holds which config past (Take t) =
    (call : ℕ) (request : Request) → is_unit_of past call t.unit ≡ true → request_of past call ≡ Some request
    → TakeHolds which config (Take t ∷ past) call request
Holds which config past _ = ⊤
