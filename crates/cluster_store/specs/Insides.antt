-- How the fields of a `Store` are seen as what a cluster holds.
use Rattle.std.specs.Prelude.{◌≡◌, ℕ, true, List}
use Rattle.std.specs.FinSet as set_of
use Rattle.grid_event.specs.Configs.{is_config}
use Rattle.grid_event.specs.declared.config.Config.{Config}
use Rattle.grid_event.specs.declared.event.Event.{Event}
use Rattle.topology_coord.specs.Coordination.{lives}
use Rattle.cluster_model.specs.State.{Calling, Holding, start}
use Rattle.cluster_model.specs.Step.{runs, state}
use Rattle.cluster_store.specs.Hints.{AreHints}
use Rattle.cluster_store.specs.declared.store.Store.TheInside.{Inside}

abbrev pub holding_of : Inside → Holding
holding_of fields = record { config = fields.config; coord = fields.coord; copying = fields.copies.copying }

-- a run leads from the start to what is held, whatever is asked
pub record IsReached (config : Config) (holding : Holding) : Type 0 where
  pub events : List Event
  pub calling : Calling
  pub is_run : runs (start config) events ≡ true
  pub reaches : state (start config) events ≡ record { holding = holding; calling = calling }

-- the settings are in their limits, copies are those of the live nodes, a run leads to what is held, and no hint is
-- wrong
pub record IsStore (fields : Inside) : Type 0 where
  pub limits : is_config fields.config ≡ true
  pub nodes : (node : ℕ) → set_of.contains fields.copies.nodes node ≡ lives fields.coord node
  pub reached : IsReached fields.config (holding_of fields)
  pub hints : AreHints fields.hints (holding_of fields)
