-- When the answers of a call are right. A past lists events, the newest first.
use Rattle.std.specs.Prelude.{◌≡◌, ℕ, ◌≤◌, Bool, true, false, List, [], ◌∷◌, Some}
use Rattle.std.specs.Bool.{⊤}
use Rattle.delivery_mode.specs.declared.guarantee.Guarantee.{Guarantee}
use Rattle.delivery_mode.specs.declared.guarantee.Guarantee.TheVariants.{AtLeast}
use Rattle.grid_event.specs.Spans.{outcome_in}
use Rattle.grid_event.specs.declared.config.Config.{Config}
use Rattle.grid_event.specs.declared.event.Event.{Event}
use Rattle.grid_event.specs.declared.event.Event.TheVariants.{Take}
use Rattle.grid_event.specs.declared.outcome.Outcome.{Outcome}
use Rattle.grid_event.specs.declared.outcome.Outcome.TheVariants.{Value, Ended}
use Rattle.grid_event.specs.declared.request.Request.{Request}
use Rattle.pipeline_eval.specs.Pipes.{pipe}
use Rattle.pipeline_expr.specs.declared.answer.Answer.{Answer}
use Rattle.pipeline_expr.specs.declared.answer.Answer.TheVariants as answers
use Rattle.cluster_model.specs.Evidence.{EachHeld, evidence, given_in, is_unit_of, request_of, taken_in, times}
use Rattle.cluster_model.specs.Guarantees.{Keeps}

-- a value is the plain pipeline over the evidence, of which the guarantee holds
pub record IsRightValue (config : Config) (past : List Event) (call : ℕ) (request : Request) (answer : Answer) : Type 0 where
  pub plain : answer ≡ pipe request.pipeline (evidence config past call)
  pub keeps : Keeps request.guarantee config past call

-- a walk that ended has given the list of the plain pipeline over the evidence, of which the guarantee holds
pub record IsRightEnd (config : Config) (past : List Event) (call : ℕ) (request : Request) : Type 0 where
  pub plain : answers.List (given_in past call) ≡ pipe request.pipeline (evidence config past call)
  pub keeps : Keeps request.guarantee config past call

-- what an outcome claims of the entries that were read; the others claim nothing of them
abbrev pub RightOutcome : Config → List Event → ℕ → Request → Outcome → Type 0
RightOutcome config past call request (Value answer) = IsRightValue config past call request answer
RightOutcome config past call request Ended = IsRightEnd config past call request
RightOutcome config past call request _ = ⊤

-- at least once, a key may be taken again
abbrev pub may_repeat : Guarantee → Bool
may_repeat AtLeast = true
may_repeat _ = false

-- what a walk has given so far is the list of the plain pipeline over what it took so far; each entry of that is held by
-- then, and but for at least once no key is in it twice
pub record IsRightSoFar (config : Config) (past : List Event) (call : ℕ) (request : Request) : Type 0 where
  pub plain : answers.List (given_in past call) ≡ pipe request.pipeline (taken_in past call)
  pub held : EachHeld config past call (taken_in past call)
  pub once : may_repeat request.guarantee ≡ false → (key : List ℕ) → times key (taken_in past call) ≤ 1

-- the newest event is a take of the call
abbrev pub takes_for : List Event → ℕ → Event → Bool
takes_for past call (Take take) = is_unit_of past call take.unit
takes_for past call _ = false

-- right so far after each take of the call
abbrev pub RightAfterTakes : Config → List Event → ℕ → Request → Type 0
RightAfterTakes config [] call request = ⊤
RightAfterTakes config (event ∷ past) call request =
    (takes_for past call event ≡ true → IsRightSoFar config (event ∷ past) call request) × RightAfterTakes config past call request

-- a call is right: so is its outcome, where it has one, and what it had given after each take, answered or not
pub record IsRight (config : Config) (past : List Event) (call : ℕ) : Type 0 where
  pub outcome : (request : Request) (outcome : Outcome) → request_of past call ≡ Some request → outcome_in past call ≡ Some outcome
      → RightOutcome config past call request outcome
  pub takes : (request : Request) → request_of past call ≡ Some request → RightAfterTakes config past call request
