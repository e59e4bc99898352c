-- How the fields of a `Calls` are seen, and what holds of them.
use Rattle.std.specs.Prelude.{◌≡◌, ◌≤◌, ◌<◌, ◌^◌, ℕ, ◌+◌, true, false, ◌&&◌, List, [], length, slice_get, Some, is_some}
use Rattle.std.specs.List.{range_with_len}
use Rattle.std.specs.FinMap as map_of
use Rattle.grid_base.specs.declared.limits.TheConstants.{MOST_READ}
use Rattle.cluster_model.specs.State.{Call, Calling, Unit, is_of, is_open_unit, is_running}
use Rattle.cluster_model.specs.Topologies.{is_complete}
use Rattle.cluster_model.specs.Units.{read_by}
use Rattle.cluster_calls.specs.Listed.{AreRegistered}
use Rattle.cluster_calls.specs.Parts.{HasParts, has_begun}
use Rattle.cluster_calls.specs.Rows.{Rows, calls_in}
use Rattle.cluster_calls.specs.Tallies.{IsTally}
use Rattle.cluster_calls.specs.declared.row.Row.{Row}
use Rattle.cluster_calls.specs.declared.calls.Calls.TheInside.{Inside}

-- what the fields are seen as
abbrev pub calling_of : Inside → Calling
calling_of fields = record { segments = fields.segments; units = fields.units.items; calls = calls_in fields.table }

-- the unit at the place has the place's number, its call is there, its segment is one of the cluster's, and only of a
-- running unit a batch flies
pub record IsPlaced (segments : ℕ) (rows : Rows) (place : ℕ) (unit : Unit) : Type 0 where
  pub id : unit.work.id ≡ place + 1
  pub there : is_some (map_of.get rows unit.work.call) ≡ true
  pub within : unit.work.segment < segments
  pub running : is_some unit.flying ≡ true → is_running unit.work.state ≡ true

-- the units of the call's last round are these: they stand one behind another, their segments ascend, and each open unit
-- of the call is one of them, on a segment that isn't complete
pub record IsRound (units : List Unit) (number : ℕ) (call : Call) : Type 0 where
  pub start : ℕ
  pub count : ℕ
  pub listed : call.last_round ≡ range_with_len start count
  pub positive : 1 ≤ start
  pub within : start + count ≤ length units + 1
  pub own : (i : ℕ) (u : Unit) → slice_get units i ≡ Some u → start ≤ i + 1 → i + 1 < start + count → u.work.call ≡ number
  pub ascend : (i j : ℕ) (u v : Unit) → slice_get units i ≡ Some u → slice_get units j ≡ Some v → start ≤ i + 1 → i < j → j + 1 < start + count → u.work.segment < v.work.segment
  pub least : (i : ℕ) (u : Unit) → slice_get units i ≡ Some u → (is_of number u && is_open_unit u) ≡ true → start ≤ i + 1
  pub most : (i : ℕ) (u : Unit) → slice_get units i ≡ Some u → (is_of number u && is_open_unit u) ≡ true → i + 1 < start + count
  pub incomplete : (i : ℕ) (u : Unit) → slice_get units i ≡ Some u → (is_of number u && is_open_unit u) ≡ true → is_complete units number u.work.segment ≡ false

-- the row is right
pub record IsRow (segments : ℕ) (units : List Unit) (number : ℕ) (row : Row) : Type 0 where
  pub tally : IsTally segments units number row.tally
  pub round : IsRound units number row.call

-- each unit and each row is right
pub record AreRight (segments : ℕ) (units : List Unit) (rows : Rows) : Type 0 where
  pub placed : (i : ℕ) (u : Unit) → slice_get units i ≡ Some u → IsPlaced segments rows i u
  pub kept : (n : ℕ) (row : Row) → map_of.get rows n ≡ Some row → IsRow segments units n row

-- of a unit that didn't begin nothing was read, an open unit is the newest of its call on its segment, and for each call
-- its pieces are booked
pub record ArePieced (segments : ℕ) (units : List Unit) (rows : Rows) : Type 0 where
  pub unread : (i : ℕ) (u : Unit) → slice_get units i ≡ Some u → has_begun u.work.state ≡ false → u.work.entries ≡ []
  pub newest : (i j : ℕ) (u z : Unit) → slice_get units i ≡ Some u → slice_get units j ≡ Some z → is_open_unit u ≡ true → z.work.call ≡ u.work.call → z.work.segment ≡ u.work.segment → j ≤ i
  pub parts : (n : ℕ) (row : Row) → map_of.get rows n ≡ Some row → HasParts segments units n row.call row.parts

-- each unit whose place is below this one is closed, or its call is answered
pub record ArePast (units : List Unit) (rows : Rows) (past : ℕ) : Type 0 where
  pub within : past ≤ length units
  pub over : (i : ℕ) (u : Unit) → slice_get units i ≡ Some u → i < past → is_open_unit u ≡ true → (row : Row) → map_of.get rows u.work.call ≡ Some row → is_some row.call.outcome ≡ true

-- segments are few, all is right and booked, the open units are registered, the entries read are counted, and the units
-- that are passed over may be
pub record IsCalls (fields : Inside) : Type 0 where
  pub few_segments : fields.segments ≤ 256
  pub right : AreRight fields.segments fields.units.items fields.table
  pub pieced : ArePieced fields.segments fields.units.items fields.table
  pub registered : AreRegistered fields.units.items fields.listeners
  pub numbered : length fields.units.items < 2 ^ 32
  pub counted : fields.read ≡ read_by fields.units.items
  pub few : fields.read ≤ MOST_READ
  pub past : ArePast fields.units.items fields.table fields.past
