-- What a unit that runs or has ended has read. A past lists events, the newest first.
use Rattle.std.specs.Prelude.{◌≡◌, ℕ, ◌==◌, Bool, true, false, ◌&&◌, ◌||◌, cond, List, [], ◌∷◌, reverse, Some}
use Rattle.std.specs.List.{AllByRecursion}
use Rattle.container_seg.specs.Scans.{comes_after}
use Rattle.grid_base.specs.declared.datum.Datum.{Datum}
use Rattle.grid_event.specs.Configs.{is_config}
use Rattle.grid_event.specs.Maps.{value_at}
use Rattle.grid_event.specs.UnitHistories.{has_ended}
use Rattle.grid_event.specs.declared.config.Config.{Config}
use Rattle.grid_event.specs.declared.event.Event.{Event}
use Rattle.grid_event.specs.declared.event.Event.TheVariants.{Begin}
use Rattle.segment_hash.specs.Segments.{segment_number}
use Rattle.cluster_model.specs.Evidence.{entry_times}
use Rattle.cluster_model.specs.State.{Unit, is_ended, is_running, start}
use Rattle.cluster_model.specs.Step.{runs, state}
use Rattle.cluster_model.specs.Units.{last_key}

-- the unit begins to run
abbrev pub begins : ℕ → Event → Bool
begins unit (Begin other runs) = (other == unit) && runs
begins unit _ = false

-- the value stood at the key throughout, from the begin of the unit on, to its end or else to the latest event
abbrev pub StoodSinceBegin : Config → List Event → ℕ → List ℕ → Datum → Type 0
StoodSinceBegin config [] unit key datum = ⊥
StoodSinceBegin config (event ∷ past) unit key datum =
    cond (begins unit event) (value_at config (event ∷ past) key ≡ Some datum)
    (StoodSinceBegin config past unit key datum × (has_ended past unit ≡ false → value_at config (event ∷ past) key ≡ Some datum))

-- the unit runs or has ended
abbrev pub is_reading : Unit → Bool
is_reading unit = is_running unit.work.state || is_ended unit.work.state

-- the key is past the last key read, in the order of the unit's node; before a first key is read every key is past it
abbrev pub is_past : Unit → List ℕ → Bool
is_past unit key = comes_after unit.work.node (last_key unit.work.entries) key

-- each entry of the unit's segment that stood since its begin, and whose key isn't past the last key read, is among its entries
-- once; and once the last batch was read, no such entry has a key past the last key read
pub record IsCompleted (config : Config) (past : List Event) (unit : Unit) : Type 0 where
  pub read : (key : List ℕ) (datum : Datum) → segment_number config.partition config.segments key ≡ Some unit.work.segment
      → StoodSinceBegin config past unit.work.id key datum → is_past unit key ≡ false → entry_times key datum unit.work.entries ≡ 1
  pub left : unit.work.last ≡ true → (key : List ℕ) (datum : Datum)
      → segment_number config.partition config.segments key ≡ Some unit.work.segment
      → StoodSinceBegin config past unit.work.id key datum → is_past unit key ≡ false

-- after every run, each unit that runs or has ended is completed so far
abbrev pub Completion : Type 0
Completion =
    (config : Config) (events : List Event) → is_config config ≡ true → runs (start config) events ≡ true
    → AllByRecursion (λ unit. is_reading unit ≡ true → IsCompleted config (reverse events) unit) (state (start config) events).calling.units
