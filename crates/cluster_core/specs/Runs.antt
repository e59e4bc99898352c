-- Runs that lead to a state.
use Rattle.std.specs.Prelude.{◌≡◌, true, List}
use Rattle.grid_event.specs.declared.config.Config.{Config}
use Rattle.grid_event.specs.declared.event.Event.{Event}
use Rattle.cluster_model.specs.State.{State, start}
use Rattle.cluster_model.specs.Step.{runs, state}

-- a run leads from the start to the state
pub record IsReached (config : Config) (st : State) : Type 0 where
  pub events : List Event
  pub is_run : runs (start config) events ≡ true
  pub reaches : state (start config) events ≡ st
