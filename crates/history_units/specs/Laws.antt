-- What the definitions are held to. Each of these is proved.
use Rattle.std.specs.Prelude.{◌≡◌, ℕ, suc, true, false, List, reverse, Some, slice_get}
use Rattle.std.specs.List.{AllByRecursion, flat_map}
use Rattle.grid_event.specs.UnitHistories.{asker_of, has_ended, is_gone, was_refused}
use Rattle.grid_event.specs.declared.call_events.Ask.{Ask}
use Rattle.grid_event.specs.declared.call_events.RoundEvent.{RoundEvent}
use Rattle.grid_event.specs.declared.config.Config.{Config}
use Rattle.grid_event.specs.declared.event.Event.{Event}
use Rattle.cluster_model.specs.Causes.{rounds_of}
use Rattle.cluster_model.specs.Evidence.{scanned_by}
use Rattle.history_units.specs.Asks.{ask_of, asked_by, is_numbered}
use Rattle.history_units.specs.Dates.{IsOrderly, entries_in, event_at, gone_by_dates, scans_at}

-- a unit that was neither refused nor ended is gone where it is so by places
abbrev pub GoneIsDated : Type 0
GoneIsDated =
    (config : Config) (past : List Event) (ask : Ask) → IsOrderly past ask.unit → was_refused past ask.unit ≡ false
    → has_ended past ask.unit ≡ false → is_gone config past ask ≡ gone_by_dates config past ask

-- the entries that a unit scanned are those of the events at the places of its scans
abbrev pub ScansTellEntries : Type 0
ScansTellEntries =
    (past : List Event) (unit : ℕ) → scanned_by past unit ≡ flat_map (λ place. entries_in (event_at past place)) (scans_at past unit)

-- the first of the events has place 1
abbrev pub PlacesTellEvents : Type 0
PlacesTellEvents = (events : List Event) (index : ℕ) → event_at (reverse events) (suc index) ≡ slice_get events index

-- the ask is that of its unit, which the round asked for
pub record IsAskOf (past : List Event) (round : RoundEvent) (asked : Ask) : Type 0 where
  pub asker : asker_of past asked.unit ≡ Some round.call
  pub id : asked_by past asked.unit ≡ Some round.id
  pub ask : ask_of past asked.unit ≡ Some asked

-- where rounds number their units, each of their asks is that of its unit
abbrev pub AsksAreUnits : Type 0
AsksAreUnits =
    (past : List Event) (call : ℕ) → is_numbered past ≡ true
    → AllByRecursion (λ (round : RoundEvent). AllByRecursion (IsAskOf past round) round.asks) (rounds_of past call)
