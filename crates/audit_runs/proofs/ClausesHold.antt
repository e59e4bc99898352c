-- In a run every clause but the shape holds of each event, by what is known of answers and of causes.
use Rattle.std.proofs.Common.{◌≡◌, ℕ, ◌==◌, true, if◌then◌else◌, List, ◌∷◌, Some, refl, ap}
use Rattle.std.proofs.lemmas.Bool.{eq-eqb}
use Rattle.grid_event.specs.Spans.{before_answer, outcome_in}
use Rattle.grid_event.specs.Taking.{Taking}
use Rattle.grid_event.specs.declared.call_events.AnswerEvent.{AnswerEvent}
use Rattle.grid_event.specs.declared.config.Config.{Config}
use Rattle.grid_event.specs.declared.event.Event.{Event}
use Rattle.grid_event.specs.declared.event.Event.TheVariants.{Take, Answer}
use Rattle.grid_event.specs.declared.outcome.Outcome.{Outcome}
use Rattle.grid_event.specs.declared.outcome.Outcome.TheVariants as outcomes
use Rattle.grid_event.specs.declared.request.Request.{Request}
use Rattle.cluster_model.specs.Evidence.{request_of}
use Rattle.cluster_model.specs.Rightness.{IsRight, RightOutcome}
use Rattle.cluster_laws.specs.Laws.{HasCause}
use Rattle.audit_clauses.proofs.Guarantees.{guarantees}
use Rattle.audit_clauses.specs.Clauses.{AnswerHolds, Holds}
use Rattle.audit_clauses.specs.declared.clause.Clause.{Clause}
use Rattle.audit_clauses.specs.declared.clause.Clause.TheVariants as clauses

-- what an outcome that is right says clause by clause
right_holds : (config : Config) (past : List Event) (call : ℕ) (request : Request) (outcome : Outcome)
    → RightOutcome config past call request outcome
    → (which : Clause) → AnswerHolds which config past call request outcome
right_holds config past call request (outcomes.Value answer) h clauses.Value = h.plain
right_holds config past call request (outcomes.Value answer) h which = guarantees.each request.guarantee config past call h.keeps which
right_holds config past call request outcomes.Ended h clauses.Items = h.plain
right_holds config past call request outcomes.Ended h which = guarantees.each request.guarantee config past call h.keeps which
right_holds config past call request _ h clauses.Shape = tt
right_holds config past call request _ h _ = tt

module _ (config : Config) (past : List Event) where
  -- all of an answer
  answer_holds : (a : AnswerEvent) → Holds clauses.Shape config past (Answer a) → IsRight config (Answer a ∷ past) a.call
      → HasCause config (Answer a ∷ past) a.call
      → (which : Clause) → Holds which config past (Answer a)
  answer_holds a shape right cause which = by_clause which
    where
      mine : (a.call == a.call) ≡ true
      mine = eq-eqb a.call a.call refl

      said : outcome_in (Answer a ∷ past) a.call ≡ Some a.outcome
      said = ap (λ b. if b then Some a.outcome else outcome_in past a.call) mine

      by_right : (which : Clause) (request : Request) → request_of past a.call ≡ Some request
          → AnswerHolds which config (Answer a ∷ past) a.call request a.outcome
      by_right which request asked =
          right_holds config (Answer a ∷ past) a.call request a.outcome (right.outcome request a.outcome asked said) which

      by_clause : (which : Clause) → Holds which config past (Answer a)
      by_clause clauses.Shape = shape
      by_clause clauses.Cause = λ invoke made. cause.caused past invoke a.outcome (ap (λ b. if b then Some past else before_answer past a.call) mine) made said
      by_clause clauses.Value = by_right clauses.Value
      by_clause clauses.Items = by_right clauses.Items
      by_clause clauses.Stable = by_right clauses.Stable
      by_clause clauses.Twice = by_right clauses.Twice
      by_clause clauses.Often = by_right clauses.Often
      by_clause clauses.Held = by_right clauses.Held

  -- all of a take
  take_holds : (t : Taking) → Holds clauses.Shape config past (Take t) → ((call : ℕ) → IsRight config (Take t ∷ past) call)
      → (which : Clause) → Holds which config past (Take t)
  take_holds t shape right clauses.Shape = shape
  take_holds t shape right clauses.Cause = tt
  take_holds t shape right clauses.Value = λ call request mine asked. tt
  take_holds t shape right clauses.Items = λ call request mine asked. (((right call).takes request asked).0 mine).plain
  take_holds t shape right clauses.Stable = λ call request mine asked. tt
  take_holds t shape right clauses.Twice = λ call request mine asked. (((right call).takes request asked).0 mine).once
  take_holds t shape right clauses.Often = λ call request mine asked. tt
  take_holds t shape right clauses.Held = λ call request mine asked. (((right call).takes request asked).0 mine).held

  -- all of any event
  pub event_holds : (event : Event) → Holds clauses.Shape config past event → ((call : ℕ) → IsRight config (event ∷ past) call)
      → ((call : ℕ) → HasCause config (event ∷ past) call)
      → (which : Clause) → Holds which config past event
  event_holds (Answer a) shape right cause which = answer_holds a shape (right a.call) (cause a.call) which
  event_holds (Take t) shape right cause which = take_holds t shape right which
  event_holds _ shape right cause clauses.Shape = shape
  event_holds _ shape right cause _ = tt
