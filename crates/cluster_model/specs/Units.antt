-- What becomes of a unit: it begins, it reads, its batches are taken, it is done.
use Rattle.std.specs.Prelude.{ℕ, ◌+◌, ◌-◌, ◌==◌, Bool, true, false, not, nat_le, ◌&&◌, if◌then◌else◌, List, [], ◌∷◌, ◌++◌, map, length, drop, slice_get, Option, None, Some, is_none}
use Rattle.std.specs.Bool.{beq}
use Rattle.std.specs.Option.{option_map}
use Rattle.std.specs.List.{filter, list_any}
use Rattle.std.specs.FinMap as map_of
use Rattle.std.specs.Ordering.{nat_cmp}
use Rattle.container_seg.specs.Scans.{next_chunk, without_deadlines}
use Rattle.grid_base.specs.Datum.{same_bytes}
use Rattle.grid_base.specs.Portion.{Portion}
use Rattle.grid_base.specs.declared.entry.Entry.{Entry}
use Rattle.grid_base.specs.declared.item.Item.{Item}
use Rattle.grid_base.specs.declared.limits.TheConstants.{MOST_READ}
use Rattle.grid_event.specs.Taking.{Taking}
use Rattle.grid_event.specs.declared.unit_events.FetchEvent.{FetchEvent}
use Rattle.grid_event.specs.declared.unit_events.ScanEvent.{ScanEvent}
use Rattle.local_publisher.specs.Units.{begun, ended, extended}
use Rattle.pipeline_eval.specs.Pipes.{pipe_items}
use Rattle.state_transfer.specs.Copying.{part_of}
use Rattle.topology_coord.specs.Coordination.{installed_id, topology_of}
use Rattle.topology_phase.specs.Owners.{among}
use Rattle.topology_phase.specs.Topologies.{read_owners}
use Rattle.cluster_model.specs.Same.{same_batch, same_entries, same_items}
use Rattle.cluster_model.specs.State.{Call, Calling, Holding, State, Taken, Unit, call_of, goes_on, is_asked, is_exact, is_running, is_walk, unit_of, with_unit}

-- the unit's node reads its segment by the topology that the node has installed
abbrev pub reads : Holding → Unit → Bool
reads holding unit = among unit.work.node (read_owners (topology_of holding.coord unit.work.node) unit.work.segment)

-- the unit is asked, its node has installed the topology of its round or a later one, and it runs exactly where its node reads its segment
abbrev pub can_begin_unit : State → Bool → Option Unit → Bool
can_begin_unit st runs None = false
can_begin_unit st runs (Some unit) =
    goes_on st.holding (call_of st.calling unit.work.call)
    && (is_asked unit.work.state && (nat_le unit.work.asked_at (installed_id st.holding.coord unit.work.node) && beq runs (reads st.holding unit)))

unfoldable pub can_begin : State → ℕ → Bool → Bool
can_begin st number runs = can_begin_unit st runs (unit_of st.calling number)

-- the unit runs, or it is refused at the topology that its node has installed
abbrev pub with_begin : Holding → Bool → Unit → Unit
with_begin holding runs unit = record unit { work = begun unit.work runs (installed_id holding.coord unit.work.node) }

unfoldable pub begun_unit : Holding → Calling → ℕ → Bool → Calling
begun_unit holding calling number runs = record calling { units = with_unit number (with_begin holding runs) calling.units }

-- how many entries a call reads at a time
abbrev pub batch_size : Option Call → ℕ
batch_size None = 0
batch_size (Some call) = call.request.batch

-- the key of the last entry
abbrev pub last_key : List Entry → Option (List ℕ)
last_key entries = option_map (λ (e : Entry). e.key) (slice_get entries (length entries - 1))

-- the batch that the unit reads next: the entries that its node holds of the segment behind the last key read, in the node's order
abbrev pub next_batch : State → Unit → Portion Entry
next_batch st unit =
    without_deadlines
    (next_chunk unit.work.node (last_key unit.work.entries) (batch_size (call_of st.calling unit.work.call))
    (part_of st.holding.copying.cells unit.work.node unit.work.segment))

-- how many entries were read by all units
abbrev pub read_by : List Unit → ℕ
read_by [] = 0
read_by (unit ∷ units) = length unit.work.entries + read_by units

-- the call is a walk, or it is a reduction
abbrev pub walks : Option Call → Bool
walks None = false
walks (Some call) = is_walk call.request

-- the unit's call goes on and is of this form, the unit runs, it hasn't read its last batch and none flies, the batch is the
-- next one, and all units together have not read more than 1,099,511,627,776 entries with it
abbrev pub can_read : State → Bool → Portion Entry → Option Unit → Bool
can_read st walk batch None = false
can_read st walk batch (Some unit) =
    goes_on st.holding (call_of st.calling unit.work.call)
    && (beq walk (walks (call_of st.calling unit.work.call))
    && (is_running unit.work.state
    && (not unit.work.last
    && (is_none unit.flying
    && (same_batch batch (next_batch st unit) && nat_le (read_by st.calling.units + length batch.entries) MOST_READ)))))

-- a unit of a reduction reads on
unfoldable pub can_scan : State → ScanEvent → Bool
can_scan st s = can_read st false s.batch (unit_of st.calling s.unit)

-- the unit has read the batch
unfoldable pub scanned : Calling → ScanEvent → Calling
scanned calling s = record calling { units = with_unit s.unit (λ unit. record unit { work = extended unit.work s.batch }) calling.units }

-- a unit of a walk reads on
unfoldable pub can_fetch : State → FetchEvent → Bool
can_fetch st f = can_read st true f.batch (unit_of st.calling f.unit)

-- the unit has read the batch, which flies to the originator
unfoldable pub fetched : Calling → FetchEvent → Calling
fetched calling f = record calling {
  units = with_unit f.unit (λ unit. record { work = extended unit.work f.batch; flying = Some f.batch.entries }) calling.units;
}

-- an entry of the segment under the key was taken before
abbrev pub was_taken : List Taken → ℕ → List ℕ → Bool
was_taken taken segment key = list_any (λ (t : Taken). (t.segment == segment) && same_bytes t.entry_of.key key) taken

-- the entries that are taken of a flying batch: with exactly once those whose keys weren't taken before from the segment, else all
abbrev pub passing : Call → Unit → List Entry → List Entry
passing call unit batch =
    if is_exact call.request.guarantee
    then filter (λ (e : Entry). not (was_taken call.taken unit.work.segment e.key)) batch
    else batch

-- all entries taken by a call, and those of a unit behind them
abbrev pub taken_entries : Call → List Entry
taken_entries call = map (λ (t : Taken). t.entry_of) call.taken

-- the items given for further entries: those that the pipeline has for all entries taken, behind those given before
abbrev pub further_items : Call → List Entry → List Item
further_items call entries = drop call.given (pipe_items call.request.pipeline (taken_entries call ++ entries))

abbrev pub is_taking : Call → Unit → Taking → Option (List Entry) → Bool
is_taking call unit t None = false
is_taking call unit t (Some batch) =
    same_entries t.entries (passing call unit batch) && same_items t.given (further_items call t.entries)

abbrev pub can_take_unit : State → Taking → Option Unit → Option Call → Bool
can_take_unit st t (Some unit) (Some call) = goes_on st.holding (Some call) && is_taking call unit t unit.flying
can_take_unit st t _ _ = false

abbrev pub call_of_unit : Calling → Option Unit → Option Call
call_of_unit calling None = None
call_of_unit calling (Some unit) = call_of calling unit.work.call

-- a batch of the unit flies; what passes of it is taken, and its further items are given
unfoldable pub can_take : State → Taking → Bool
can_take st t = can_take_unit st t (unit_of st.calling t.unit) (call_of_unit st.calling (unit_of st.calling t.unit))

-- the entries are taken behind the others, and the items were given
abbrev pub with_taking : Calling → Taking → Option Unit → Option Call → map_of.FinMap nat_cmp Call
with_taking calling t (Some unit) (Some call) =
    map_of.insert calling.calls unit.work.call
    (record call {
      taken = call.taken ++ map (λ (e : Entry). record { segment = unit.work.segment; entry_of = e }) t.entries;
      given = call.given + length t.given;
    })
with_taking calling t _ _ = calling.calls

unfoldable pub taken_by : Calling → Taking → Calling
taken_by calling t = record calling {
  calls = with_taking calling t (unit_of calling t.unit) (call_of_unit calling (unit_of calling t.unit));
  units = with_unit t.unit (λ unit. record unit { flying = None }) calling.units;
}

-- the unit's call goes on, the unit runs, and it has read its last batch, of which nothing flies
abbrev pub can_end_unit : State → Option Unit → Bool
can_end_unit st None = false
can_end_unit st (Some unit) =
    goes_on st.holding (call_of st.calling unit.work.call) && (is_running unit.work.state && (unit.work.last && is_none unit.flying))

unfoldable pub can_end : State → ℕ → Bool
can_end st number = can_end_unit st (unit_of st.calling number)

-- the unit has ended, and its segment is complete for its call
unfoldable pub ended_unit : Calling → ℕ → Calling
ended_unit calling number = record calling { units = with_unit number (λ unit. record unit { work = ended unit.work }) calling.units }
