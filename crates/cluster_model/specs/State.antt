-- What a cluster is at one moment.
use Rattle.std.specs.Prelude.{ℕ, ◌==◌, Bool, true, false, ◌&&◌, cond, List, [], map, find, Option, None, Some, is_none}
use Rattle.std.specs.List.{range_with_len}
use Rattle.std.specs.Ordering.{nat_cmp}
use Rattle.std.specs.FinMap as map_of
use Rattle.std.specs.FinSet as set_of
use Rattle.delivery_mode.specs.declared.guarantee.Guarantee.{Guarantee}
use Rattle.delivery_mode.specs.declared.guarantee.Guarantee.TheVariants.{Exact}
use Rattle.grid_base.specs.declared.entry.Entry.{Entry}
use Rattle.grid_event.specs.declared.config.Config.{Config}
use Rattle.grid_event.specs.declared.outcome.Outcome.{Outcome}
use Rattle.grid_event.specs.declared.request.Request.{Request}
use Rattle.local_publisher.specs.Stages.{is_open}
use Rattle.local_publisher.specs.Units.{lost}
use Rattle.local_publisher.specs.Work.{Work}
use Rattle.local_publisher.specs.declared.unit_state.UnitState.{UnitState}
use Rattle.local_publisher.specs.declared.unit_state.UnitState.TheVariants.{Asked, Running, Lost, Ended}
use Rattle.pipeline_expr.specs.declared.end.End.{End}
use Rattle.pipeline_expr.specs.declared.end.End.TheVariants as ends
use Rattle.segment_hash.specs.Segments.{segment_number}
use Rattle.state_transfer.specs.Copying.{Copying, nothing_held}
use Rattle.topology_coord.specs.Coordination.{Coordination, first_coordination, lives}

-- a unit: one segment asked of one node for a call, what was read for it, and for a walk the batch that flies to the originator
pub record Unit : Type 0 where
  pub work : Work
  pub flying : Option (List Entry)

-- an entry that a walk took, and the segment that it came from
pub record Taken : Type 0 where
  pub segment : ℕ
  pub entry_of : Entry

-- a call: its originator and what it asks for; the rounds made, and the units of the last one; for a walk the entries
-- taken, in the order of taking, and the number of items given; the segments noted as lost; and its outcome once it is answered
pub record Call : Type 0 where
  pub originator : ℕ
  pub request : Request
  pub rounds : ℕ
  pub last_round : List ℕ
  pub taken : List Taken
  pub given : ℕ
  pub lost : set_of.FinSet nat_cmp
  pub outcome : Option Outcome

-- what a cluster holds: the settings; the members and topologies; the copies and transfers
pub record Holding : Type 0 where
  pub config : Config
  pub coord : Coordination
  pub copying : Copying

-- what is asked of a cluster: the number of the segments that a call reads; the units in the order of their numbers; the calls
-- by number
pub record Calling : Type 0 where
  pub segments : ℕ
  pub units : List Unit
  pub calls : map_of.FinMap nat_cmp Call

pub record State : Type 0 where
  pub holding : Holding
  pub calling : Calling

-- the first nodes are live with the first topology, and nothing is held
abbrev pub first_holding : Config → Holding
first_holding config = record {
  config = config;
  coord = first_coordination config.nodes config.segments config.owners config.aim;
  copying = nothing_held;
}

-- nothing was asked
abbrev pub no_calls : ℕ → Calling
no_calls segments = record { segments = segments; units = []; calls = map_of.empty }

-- the start of a cluster
abbrev pub start : Config → State
start config = record { holding = first_holding config; calling = no_calls config.segments }

-- the segments of the cluster, ascending
abbrev pub segments_of : Holding → List ℕ
segments_of holding = range_with_len 0 holding.config.segments

-- the segments that a call reads, ascending
abbrev pub segments_read : Calling → List ℕ
segments_read calling = range_with_len 0 calling.segments

-- the segment of a key, where it has one
abbrev pub segment_of : Holding → List ℕ → Option ℕ
segment_of holding key = segment_number holding.config.partition holding.config.segments key

-- the unit of that number, where there is one
abbrev pub unit_in : List Unit → ℕ → Option Unit
unit_in units number = find (λ (unit : Unit). unit.work.id == number) units

abbrev pub unit_of : Calling → ℕ → Option Unit
unit_of calling number = unit_in calling.units number

-- the call of that number, where there is one
abbrev pub call_of : Calling → ℕ → Option Call
call_of calling number = map_of.get calling.calls number

abbrev pub is_asked : UnitState → Bool
is_asked Asked = true
is_asked _ = false

abbrev pub is_running : UnitState → Bool
is_running Running = true
is_running _ = false

abbrev pub is_ended : UnitState → Bool
is_ended Ended = true
is_ended _ = false

abbrev pub is_lost : UnitState → Bool
is_lost (Lost at) = true
is_lost _ = false

-- a call is a walk where its pipeline gives its elements one after another, and else a reduction
abbrev pub is_each : End → Bool
is_each ends.Each = true
is_each _ = false

abbrev pub is_walk : Request → Bool
is_walk request = is_each request.pipeline.end

abbrev pub is_exact : Guarantee → Bool
is_exact Exact = true
is_exact _ = false

-- the unit belongs to the call
abbrev pub is_of : ℕ → Unit → Bool
is_of call unit = unit.work.call == call

-- the unit belongs to the call, and reads the segment
abbrev pub is_on : ℕ → ℕ → Unit → Bool
is_on call segment unit = is_of call unit && (unit.work.segment == segment)

-- the unit is asked or runs
abbrev pub is_open_unit : Unit → Bool
is_open_unit unit = is_open unit.work.state

-- the call is there and unanswered, and its originator is live
abbrev pub goes_on : Holding → Option Call → Bool
goes_on holding None = false
goes_on holding (Some call) = is_none call.outcome && lives holding.coord call.originator

-- the unit of that number is changed, and the others stay
abbrev pub with_unit : ℕ → (Unit → Unit) → List Unit → List Unit
with_unit number change units = map (λ (unit : Unit). cond (unit.work.id == number) (change unit) unit) units

-- the unit is lost, at a topology or by a departure, and what flew of it is gone
abbrev pub with_loss : Option ℕ → Unit → Unit
with_loss at unit = record { work = lost unit.work at; flying = None }
