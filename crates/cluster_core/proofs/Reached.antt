-- Runs that lead to a state, and what they keep.
use Rattle.std.proofs.Common.{◌≡◌, true, [], ◌∷◌, ◌++◌, refl, ap, ◌∙◌}
use Rattle.grid_event.specs.declared.config.Config.{Config}
use Rattle.grid_event.specs.declared.event.Event.{Event}
use Rattle.cluster_model.specs.State.{State, start}
use Rattle.cluster_model.specs.Step.{allowed, changed}
use Rattle.cluster_store.proofs.Reached.{runs-push, state-push}
use Rattle.cluster_core.specs.Runs.{IsReached}

-- the start is reached
pub start_reached : (config : Config) → IsReached config (start config)
start_reached config = record { events = []; is_run = refl; reaches = refl }

-- an event that may happen leads on
pub reached_next : (config : Config) (st : State) (event : Event) → IsReached config st → allowed st event ≡ true → IsReached config (changed st event)
reached_next config st event h may = record {
  events = h.events ++ event ∷ [];
  is_run = runs-push (start config) h.events event h.is_run (ap (λ (s : State). allowed s event) h.reaches ∙ may);
  reaches = state-push (start config) h.events event ∙ ap (λ (s : State). changed s event) h.reaches;
}
