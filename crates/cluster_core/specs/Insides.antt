-- How the fields of a `Core` are seen as the state of a cluster.
use Rattle.std.specs.Prelude.{◌≡◌, true}
use Rattle.grid_event.specs.Configs.{is_config}
use Rattle.cluster_model.specs.State.{State}
use Rattle.cluster_core.specs.Runs.{IsReached}
use Rattle.cluster_core.specs.declared.cluster.Core.TheInside.{Inside}

-- the state that the fields make
abbrev pub state_of : Inside → State
state_of fields = record { holding = fields.store; calling = fields.calls }

-- the settings are in their limits, the calls are over their segments, and a run leads to the state
pub record IsCore (fields : Inside) : Type 0 where
  pub limits : is_config fields.store.config ≡ true
  pub segments : fields.calls.segments ≡ fields.store.config.segments
  pub reached : IsReached fields.store.config (state_of fields)
