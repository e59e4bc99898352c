-- What the table of units holds, in the words of the past. A past lists events, the newest first.
use Rattle.std.specs.Prelude.{◌≡◌, ℕ, ◌<◌, nat_lt, true, false, ◌&&◌, ◌||◌, List, [], length, Option, None, Some}
use Rattle.grid_event.specs.UnitHistories.{asker_of, has_begun, has_ended, is_gone, was_asked, was_refused}
use Rattle.grid_event.specs.declared.config.Config.{Config}
use Rattle.grid_event.specs.declared.event.Event.{Event}
use Rattle.audit_clauses.specs.Shapes.{units_asked}
use Rattle.history_units.specs.Asks.{ask_of, asked_by, is_numbered}
use Rattle.history_units.specs.Dates.{IsOrderly, asked_at, begun_at, scans_at}
use Rattle.history_units.specs.Rows.{unit_in}
use Rattle.history_units.specs.declared.unit.Unit.{Unit}

-- no event tells of a unit with this number
pub record IsUnknown (past : List Event) (number : ℕ) : Type 0 where
  pub unasked : was_asked past number ≡ false
  pub asker : asker_of past number ≡ None
  pub id : asked_by past number ≡ None
  pub ask : ask_of past number ≡ None
  pub begun : begun_at past number ≡ 0
  pub runs : has_begun past number ≡ false
  pub refused : was_refused past number ≡ false
  pub ended : has_ended past number ≡ false
  pub scans : scans_at past number ≡ []

-- each part of the unit is what the past says; it has its number, a refused unit hasn't begun, and one that ended has
pub record IsUnitOf (past : List Event) (number : ℕ) (unit : Unit) : Type 0 where
  pub was : was_asked past number ≡ true
  pub asker : asker_of past number ≡ Some unit.call
  pub id : asked_by past number ≡ Some unit.id
  pub ask : ask_of past number ≡ Some unit.ask
  pub asked : asked_at past number ≡ unit.asked
  pub begun : begun_at past number ≡ unit.begun
  pub runs : has_begun past number ≡ nat_lt 0 unit.begun
  pub refused : was_refused past number ≡ unit.refused
  pub ended : has_ended past number ≡ unit.ended
  pub scans : scans_at past number ≡ unit.scans
  pub own : unit.ask.unit ≡ number
  pub either : unit.refused && nat_lt 0 unit.begun ≡ false

-- the unit of this number, where there is one
abbrev pub IsUnitIn : List Event → ℕ → Option Unit → Type 0
IsUnitIn past number None = IsUnknown past number
IsUnitIn past number (Some unit) = IsUnitOf past number unit

-- the table has the units that the past tells of
pub record AreUnitsOf (past : List Event) (units : List Unit) : Type 0 where
  pub numbered : is_numbered past ≡ true
  pub count : length units ≡ units_asked past
  pub told : (number : ℕ) → IsUnitIn past number (unit_in units number)
  pub orderly : (number : ℕ) → IsOrderly past number

-- each unit reads a segment of the cluster, and of one that was refused or ended the table says whether it is gone
pub record KnowsGone (config : Config) (past : List Event) (units : List Unit) : Type 0 where
  pub within : (number : ℕ) (unit : Unit) → unit_in units number ≡ Some unit → unit.ask.segment < config.segments
  pub gone : (number : ℕ) (unit : Unit) → unit_in units number ≡ Some unit → (unit.refused || unit.ended) ≡ true → is_gone config past unit.ask ≡ unit.gone
