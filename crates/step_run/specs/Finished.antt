-- What a run has done that nothing stopped.
use Rattle.std.specs.Prelude.{◌≡◌, ℕ, true, List, reverse, Some, is_some}
use Rattle.grid_event.specs.Histories.{History}
use Rattle.grid_event.specs.Spans.{outcome_in}
use Rattle.grid_event.specs.declared.config.Config.{Config}
use Rattle.grid_event.specs.declared.event.Event.{Event}
use Rattle.grid_event.specs.declared.request.Request.{Request}
use Rattle.cluster_model.specs.Evidence.{request_of}
use Rattle.cluster_model.specs.State.{start}
use Rattle.cluster_model.specs.Step.{state}
use Rattle.cluster_laws.specs.Laws.{is_settled}

-- the call has an answer, where it was made
abbrev pub HasAnswer : List Event → ℕ → Type 0
HasAnswer past call = (request : Request) → request_of past call ≡ Some request → is_some (outcome_in past call) ≡ true

-- each call of the history has an answer, and the topology is settled
pub record IsFinished (history : History) : Type 0 where
  pub answered : (call : ℕ) → HasAnswer (reverse history.events) call
  pub settled : (config : Config) → history.config ≡ Some config → is_settled (state (start config) history.events) ≡ true
