-- A journal as a reader sees it: a configuration, the events in their order, and the notes of idle lines.
use Rattle.std.specs.Prelude.{ℕ, ◌+◌, Bool, true, nat_lt, nat_le, ◌&&◌, ◌||◌, List, [], ◌∷◌, ◌++◌, length, Option, None}
use Rattle.grid_base.specs.declared.limits.TheConstants.{MOST_EVENTS, MOST_WEIGHT}
use Rattle.grid_event.specs.declared.config.Config.{Config}
use Rattle.grid_event.specs.declared.event.Event.{Event}
use Rattle.grid_event.specs.declared.idle.Idle.{Idle}
use Rattle.grid_event.specs.Weights.{total_weight, weight_of}

-- the configuration, which comes with the start; the events; and the idle notes in the order of noting
pub record History : Type 0 where
  pub config : Option Config
  pub events : List Event
  pub idle : List Idle

-- a history, and the number of places that are taken already for further events
pub record Kept : Type 0 where
  pub history : History
  pub spare : ℕ

-- the history of a journal that has not been started
abbrev pub blank : History
blank = record { config = None; events = []; idle = [] }

-- one more event stands behind the others
abbrev pub with_event : History → Event → History
with_event history event = record history { events = history.events ++ event ∷ [] }

-- one more idle line is noted, behind the events so far
abbrev pub with_idle : History → ℕ → History
with_idle history line = record history { idle = history.idle ++ record { place = length history.events; line = line } ∷ [] }

-- 1,000,000 events are there, or with the event there would be more than 2,000,000 entries and items
abbrev pub passes_limit : History → Event → Bool
passes_limit history event =
    nat_le MOST_EVENTS (length history.events) || nat_lt MOST_WEIGHT (total_weight history.events + weight_of event)

-- the idle notes stand in the order of their places, the first not before one place, the last not behind another
abbrev pub are_placed : ℕ → ℕ → List Idle → Bool
are_placed first last [] = true
are_placed first last (note ∷ notes) = (nat_le first note.place && nat_le note.place last) && are_placed note.place last notes
