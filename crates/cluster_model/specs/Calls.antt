-- Calls and their rounds.
use Rattle.std.specs.Prelude.{ℕ, ◌+◌, ◌==◌, Bool, false, not, nat_lt, nat_le, ◌&&◌, List, [], ◌∷◌, ◌++◌, map, length, Option, None, Some, is_none, is_ok, unwrap_or}
use Rattle.std.specs.List.{filter, list_all, list_any}
use Rattle.std.specs.FinMap as map_of
use Rattle.std.specs.FinSet as set_of
use Rattle.std.specs.Ordering.{nat_cmp}
use Rattle.grid_base.specs.declared.limits.TheConstants.{LAST_CALL, MOST_BATCH, MOST_ROUNDS}
use Rattle.grid_event.specs.Configs.{is_up_to}
use Rattle.grid_event.specs.declared.call_events.Ask.{Ask}
use Rattle.grid_event.specs.declared.call_events.InvokeEvent.{InvokeEvent}
use Rattle.grid_event.specs.declared.call_events.RoundEvent.{RoundEvent}
use Rattle.grid_event.specs.declared.request.Request.{Request}
use Rattle.local_publisher.specs.Units.{asked_unit}
use Rattle.pipeline_expr.specs.Typing.{checked}
use Rattle.pipeline_expr.specs.declared.kind.ValueKind.{ValueKind}
use Rattle.pipeline_expr.specs.declared.pipeline.Pipeline.{Pipeline}
use Rattle.suspect_retry.specs.Rounds.{closed_at, granted_rounds}
use Rattle.topology_coord.specs.Coordination.{first_live, installed_id, lives, topology_of}
use Rattle.topology_phase.specs.Owners.{among}
use Rattle.topology_phase.specs.Topologies.{read_owners}
use Rattle.cluster_model.specs.Same.{same_asks}
use Rattle.cluster_model.specs.State.{Call, Calling, Holding, State, Unit, call_of, goes_on, is_of, is_open_unit, segments_read}
use Rattle.cluster_model.specs.Topologies.{is_complete}
use Rattle.cluster_model.specs.Writes.{has_reader}

-- the pipeline may be run over values of the kind
abbrev pub checks : Pipeline → ValueKind → Bool
checks pipeline values = is_ok (checked pipeline values)

-- the numbers of a request are in their limits, and its pipeline checks
abbrev pub is_request : ValueKind → Request → Bool
is_request values request =
    is_up_to MOST_ROUNDS request.rounds && (is_up_to MOST_BATCH request.batch && checks request.pipeline values)

-- the originator is live, the call's number is new and in its limits, and so is what it asks for
unfoldable pub can_invoke : State → InvokeEvent → Bool
can_invoke st i =
    lives st.holding.coord i.node
    && (is_none (call_of st.calling i.call) && (is_up_to LAST_CALL i.call && is_request st.holding.config.values i.request))

-- a call that was just made
abbrev pub new_call : ℕ → Request → Call
new_call originator request = record {
  originator = originator;
  request = request;
  rounds = 0;
  last_round = [];
  taken = [];
  given = 0;
  lost = set_of.empty;
  outcome = None;
}

-- the call is there
unfoldable pub invoked : Calling → InvokeEvent → Calling
invoked calling i = record calling { calls = map_of.insert calling.calls i.call (new_call i.node i.request) }

-- a unit of the call is open
abbrev pub any_open : List Unit → ℕ → Bool
any_open units call = list_any (λ unit. is_of call unit && is_open_unit unit) units

abbrev pub has_open : Calling → ℕ → Bool
has_open calling call = any_open calling.units call

-- the segments that are incomplete for the call, ascending
abbrev pub incomplete : Calling → ℕ → List ℕ
incomplete calling call = filter (λ segment. not (is_complete calling.units call segment)) (segments_read calling)

-- every segment is complete for the call
abbrev pub all_complete : Calling → ℕ → Bool
all_complete calling call = list_all (is_complete calling.units call) (segments_read calling)

-- the rounds that the call is granted: as many as it states, and one at most once
abbrev pub granted : Call → ℕ
granted call = granted_rounds call.request.guarantee call.request.rounds

-- the originator has installed a topology not older than any at which a unit of the last round was refused or was lost by an installation
abbrev pub has_caught_up : State → Call → Bool
has_caught_up st call =
    list_all (λ (unit : Unit). nat_le (closed_at unit.work.state) (installed_id st.holding.coord call.originator))
    (filter (λ (unit : Unit). among unit.work.id call.last_round) st.calling.units)

-- the first live reader of a segment by the originator's topology
abbrev pub first_reader : Holding → ℕ → ℕ → Option ℕ
first_reader holding originator segment = first_live holding.coord (read_owners (topology_of holding.coord originator) segment)

-- one unit for each segment, numbered on from u: the segment's first live reader is asked
abbrev pub asks_from : Holding → ℕ → ℕ → List ℕ → List Ask
asks_from holding originator u [] = []
asks_from holding originator u (segment ∷ segments) =
    record { unit = u; segment = segment; node = unwrap_or (first_reader holding originator segment) 0 }
    ∷ asks_from holding originator (u + 1) segments

-- the asks of the call's next round: its incomplete segments, ascending, by the next unit numbers
abbrev pub asks_of : State → ℕ → Call → List Ask
asks_of st number call = asks_from st.holding call.originator (length st.calling.units + 1) (incomplete st.calling number)

-- no segment is noted as lost, no unit of the call is open, a granted round is left, a segment is incomplete, each
-- incomplete one has a live reader by the originator's topology, and the originator has caught up
abbrev pub is_due : State → ℕ → Call → Bool
is_due st number call =
    (set_of.len call.lost == 0)
    && (not (has_open st.calling number)
    && (nat_lt call.rounds (granted call)
    && (not (all_complete st.calling number)
    && (list_all (has_reader st.holding call.originator) (incomplete st.calling number) && has_caught_up st call))))

-- a round is due, it has the number of the topology that the originator has installed, and it asks for what is incomplete
abbrev pub is_next_round : State → RoundEvent → Option Call → Bool
is_next_round st r None = false
is_next_round st r (Some call) =
    is_due st r.call call
    && ((r.id == installed_id st.holding.coord call.originator) && same_asks r.asks (asks_of st r.call call))

unfoldable pub can_round : State → RoundEvent → Bool
can_round st r = goes_on st.holding (call_of st.calling r.call) && is_next_round st r (call_of st.calling r.call)

-- the unit that an ask of the call makes
abbrev pub unit_made : ℕ → ℕ → Ask → Unit
unit_made call id ask = record { work = asked_unit ask.unit call ask.segment ask.node id; flying = None }

-- the call has made one more round, of these units
abbrev pub with_round : Calling → RoundEvent → Option Call → map_of.FinMap nat_cmp Call
with_round calling r None = calling.calls
with_round calling r (Some call) =
    map_of.insert calling.calls r.call
    (record call { rounds = call.rounds + 1; last_round = map (λ (ask : Ask). ask.unit) r.asks })

-- one more round was made, and its units are asked
unfoldable pub rounded : Calling → RoundEvent → Calling
rounded calling r = record calling {
  calls = with_round calling r (call_of calling r.call);
  units = calling.units ++ map (unit_made r.call r.id) r.asks;
}
