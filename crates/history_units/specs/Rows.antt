-- The units of a table by their numbers, and what changes of one.
use Rattle.std.specs.Prelude.{◌≡◌, ℕ, zero, suc, ◌==◌, true, false, if◌then◌else◌, Bool, List, [], ◌∷◌, ◌++◌, length, Option, None, slice_get}
use Rattle.std.specs.Option.{option_map}
use Rattle.grid_event.specs.declared.call_events.Ask.{Ask}
use Rattle.grid_event.specs.declared.call_events.RoundEvent.{RoundEvent}
use Rattle.history_units.specs.declared.unit.Unit.{Unit}

-- the unit of a number, the first one of number 1
abbrev pub unit_in : List Unit → ℕ → Option Unit
unit_in units zero = None
unit_in units (suc row) = slice_get units row

-- a unit that a round at a place asks for
abbrev pub asked_unit : RoundEvent → ℕ → Ask → Unit
asked_unit round place ask = record {
  call = round.call;
  id = round.id;
  ask = ask;
  asked = place;
  begun = 0;
  refused = false;
  ended = false;
  gone = false;
  scans = [];
}

-- a unit that began at a place, that was refused or ended while it was gone or wasn't, and that scanned at a place
abbrev pub begun_unit : ℕ → Unit → Unit
begun_unit place unit = record unit { begun = place }

abbrev pub refused_unit : Bool → Unit → Unit
refused_unit gone unit = record unit { refused = true; gone = gone }

abbrev pub ended_unit : Bool → Unit → Unit
ended_unit gone unit = record unit { ended = true; gone = gone }

abbrev pub scanned_unit : ℕ → Unit → Unit
scanned_unit place unit = record unit { scans = unit.scans ++ place ∷ [] }

-- one unit changed, where it is there, and no other
pub record HasChanged (number : ℕ) (change : Unit → Unit) (before after : List Unit) : Type 0 where
  pub units : (other : ℕ) → unit_in after other ≡ (if number == other then option_map change (unit_in before other) else unit_in before other)
  pub count : length after ≡ length before
