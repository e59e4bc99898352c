-- What a book is seen as, and what may be done in it.
use Rattle.std.specs.Prelude.{Bool, false, List, [], ◌∷◌, ◌++◌, Option, None, Some}
use Rattle.grid_event.specs.Histories.{History, passes_limit, with_event}
use Rattle.grid_event.specs.declared.config.Config.{Config}
use Rattle.grid_event.specs.declared.event.Event.{Event}
use Rattle.cluster_model.specs.State.{State, start}
use Rattle.cluster_model.specs.Step.{changed, state}

-- a run of a cluster: its settings, and its events in their order
pub record Booked : Type 0 where
  pub config : Config
  pub events : List Event

-- the cluster after the events
abbrev pub cluster_of : Booked → State
cluster_of book = state (start book.config) book.events

-- the run as a history, in which nothing is idle
abbrev pub history_of : Booked → History
history_of book = record { config = Some book.config; events = book.events; idle = [] }

-- with the event that there may be behind the others
abbrev pub with_found : Booked → Option Event → Booked
with_found book None = book
with_found book (Some event) = record book { events = book.events ++ event ∷ [] }

-- the cluster behind the event that there may be
abbrev pub changed_by : State → Option Event → State
changed_by st None = st
changed_by st (Some event) = changed st event

-- a history with the event that there may be
abbrev pub with_any : History → Option Event → History
with_any history None = history
with_any history (Some event) = with_event history event

-- the event that there may be would pass a limit of a journal with this history
abbrev pub passes_any : History → Option Event → Bool
passes_any history None = false
passes_any history (Some event) = passes_limit history event

-- the event that there may be would pass a limit of the book's journal
abbrev pub is_full_for : Booked → Option Event → Bool
is_full_for book found = passes_any (history_of book) found
