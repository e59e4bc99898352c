-- The calls as they are kept: each with the tally of its units.
use Rattle.std.specs.Prelude.{◌<◌, ◌^◌, ℕ, ◌+◌, Bool, not, nat_lt, ◌&&◌, cond, List, map, length, Option, None, Some, is_none}
use Rattle.std.specs.List.{filter, range_with_len}
use Rattle.std.specs.FinMap as map_of
use Rattle.std.specs.FinSet as set_of
use Rattle.std.specs.Ordering.{nat_cmp}
use Rattle.delivery_mode.specs.Guarantee.{asks_again}
use Rattle.grid_base.specs.declared.entry.Entry.{Entry}
use Rattle.grid_event.specs.declared.call_events.Ask.{Ask}
use Rattle.grid_event.specs.declared.outcome.Outcome.{Outcome}
use Rattle.pipeline_split.specs.declared.piece.Piece.{Piece}
use Rattle.cluster_model.specs.Calls.{granted}
use Rattle.cluster_model.specs.State.{Call}
use Rattle.cluster_model.specs.Topologies.{all_noted}
use Rattle.cluster_calls.specs.Calling.{with_round, with_taken}
use Rattle.cluster_calls.specs.Parts.{is_within, with_booking}
use Rattle.cluster_calls.specs.Tallied.{AreAsked, with_asks, with_end, without_open}
use Rattle.cluster_calls.specs.declared.row.Row.{Row}

-- the rows by the numbers of their calls
abbrev pub Rows : Type 0
Rows = map_of.FinMap nat_cmp Row

-- the calls of the rows
unfoldable pub calls_in : Rows → map_of.FinMap nat_cmp Call
calls_in rows = map_of.from_entries (map (λ row. (row.0, row.1.call)) (map_of.entries rows))

-- a row that is there is changed
abbrev pub with_row : ℕ → (Row → Row) → Option Row → Rows → Rows
with_row number change None rows = rows
with_row number change (Some row) rows = map_of.insert rows number (change row)

-- the row of the number, where it is there, is changed
abbrev pub changes_row : ℕ → (Row → Row) → Rows → Rows
changes_row number change rows = with_row number change (map_of.get rows number) rows

-- each row is changed
unfoldable pub each_row : (Row → Row) → Rows → Rows
each_row change rows = map_of.from_entries (map (λ row. (row.0, change row.1)) (map_of.entries rows))

-- one more round was made, of units numbered on from this one
abbrev pub with_row_asks : ℕ → List Ask → Row → Row
with_row_asks start asks row = record row {
  call = with_round (range_with_len start (length asks)) row.call;
  tally = with_asks asks row.tally;
}

-- an open unit of the call is open no longer, and the piece is booked for its segment
abbrev pub with_row_without_open : ℕ → Option Piece → Row → Row
with_row_without_open segment part row =
    record row { tally = without_open row.tally; parts = with_booking segment part row.parts }

-- an open unit of the call has ended, by which the segment is complete, and the piece is booked for it
abbrev pub with_row_end : ℕ → Option Piece → Row → Row
with_row_end segment part row =
    record row { tally = with_end segment row.tally; parts = with_booking segment part row.parts }

-- the call has taken the entries, and so many items more were given
abbrev pub with_row_taken : ℕ → List Entry → ℕ → Row → Row
with_row_taken segment entries given row = record row { call = with_taken segment entries given row.call }

-- the call is answered, and its pieces are gone
abbrev pub with_outcome : Outcome → Row → Row
with_outcome outcome row = record row { call = record row.call { outcome = Some outcome }; parts = None }

-- those of the segments are noted that aren't complete, where the call isn't answered and asks again
abbrev pub notes : set_of.FinSet nat_cmp → Row → Row
notes lost row = record row {
  call = record row.call {
    lost =
        cond (is_none row.call.outcome && asks_again row.call.request.guarantee)
        (all_noted (filter (λ segment. not (set_of.contains row.tally.complete segment)) (set_of.items lost)) row.call.lost) row.call.lost;
  };
}

-- a round of so many units may be made, on segments that there are
pub record MayAsk (asks : List Ask) (row : Row) : Type 0 where
  pub granted : row.call.rounds < granted row.call
  pub few : row.tally.unended + length asks < 2 ^ 32
  pub within : AreAsked (length row.tally.newest) asks

-- a unit is open, and a piece may be booked for the segment
abbrev pub may_close : ℕ → Row → Bool
may_close segment row = nat_lt 0 row.tally.unended && is_within segment row.parts

-- a unit is open and a segment incomplete, and a piece may be booked for the segment
abbrev pub may_end_one : ℕ → Row → Bool
may_end_one segment row = nat_lt 0 row.tally.left && may_close segment row
