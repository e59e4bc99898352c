-- How the fields of a `Journal` are seen as a history.
use Rattle.std.specs.Prelude.{◌≡◌, ◌≤◌, true, length}
use Rattle.std.specs.Option.{ForSome}
use Rattle.grid_base.specs.declared.limits.TheConstants.{MOST_EVENTS, MOST_WEIGHT}
use Rattle.grid_event.specs.declared.journal.Journal.TheInside.{Inside}
use Rattle.grid_event.specs.Configs.{is_config}
use Rattle.grid_event.specs.Histories.{Kept, are_placed}
use Rattle.grid_event.specs.Weights.{total_weight}

-- the configuration, the events and the idle notes, with the events' spare places
abbrev pub kept_of : Inside → Kept
kept_of fields = record {
  history = record { config = fields.config; events = fields.events.list; idle = fields.idle.list };
  spare = fields.events.spare;
}

-- the limits hold, the weight is that of the events, a configuration is in its limits, and the idle notes stand in the order of their
-- places, none behind the last event
pub record IsJournal (fields : Inside) : Type 0 where
  pub few : length fields.events.list ≤ MOST_EVENTS
  pub weighed : fields.weight ≡ total_weight fields.events.list
  pub light : fields.weight ≤ MOST_WEIGHT
  pub limits : ForSome fields.config (λ config. is_config config ≡ true)
  pub placed : are_placed 0 (length fields.events.list) fields.idle.list ≡ true
