-- What the hash of a settled topology is.
use Rattle.std.specs.Prelude.{◌≡◌, ◌≤◌, true, List, length, min}
use Rattle.std.specs.List.{AllByRecursion}
use Rattle.grid_base.specs.declared.limits.TheConstants.{MOST_EVENTS}
use Rattle.grid_event.specs.Configs.{is_config}
use Rattle.grid_event.specs.declared.config.Config.{Config}
use Rattle.grid_event.specs.declared.event.Event.{Event}
use Rattle.hash_factory.specs.Formulas.{created}
use Rattle.hash_factory.specs.Least.{is_balanced, least}
use Rattle.topology_coord.specs.Coordination.{Coordination, live_nodes}
use Rattle.topology_coord.specs.Following.{aimed}
use Rattle.topology_phase.specs.declared.aim.Aim.TheVariants.{Create, Least}
use Rattle.cluster_model.specs.State.{start}
use Rattle.cluster_model.specs.Step.{runs, state}
use Rattle.cluster_laws.specs.Laws.{is_settled}

-- the current hash is the one that a rebalance leads to. With `hash create` it is that of the formula for the live nodes; with
-- `hash least` the live nodes lead it evenly, each segment has as many owners as the settings say, or as there are live nodes, and
-- it is itself the hash that moves least from it
pub record HasSettled (config : Config) (c : Coordination) : Type 0 where
  pub as_aimed : c.newest.current ≡ aimed c
  pub by_formula : config.aim ≡ Create → c.newest.current ≡ created (live_nodes c) config.segments config.owners
  pub even : config.aim ≡ Least → is_balanced (live_nodes c) c.newest.current ≡ true
  pub full : config.aim ≡ Least → AllByRecursion (λ row. length row ≡ min config.owners (length (live_nodes c))) c.newest.current
  pub stays : config.aim ≡ Least → least (live_nodes c) config.owners c.newest.current ≡ c.newest.current

-- in every run of at most 1,000,000 events a settled topology has the hash that a rebalance leads to
abbrev pub SettledIsAimed : Type 0
SettledIsAimed = (config : Config) (events : List Event) → is_config config ≡ true → runs (start config) events ≡ true
    → length events ≤ MOST_EVENTS → is_settled (state (start config) events) ≡ true
    → HasSettled config (state (start config) events).holding.coord
