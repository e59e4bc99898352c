-- The pieces that are booked for the segments of a reduction.
use Rattle.std.specs.Prelude.{◌≡◌, ℕ, ◌==◌, Bool, true, false, not, nat_lt, ◌&&◌, ◌||◌, cond, List, [], ◌∷◌, ◌++◌, map, Option, None, Some, is_none, unwrap_or}
use Rattle.std.specs.FinSet as set_of
use Rattle.std.specs.List.{filter, flat_map, range_with_len}
use Rattle.std.specs.Ordering.{nat_cmp}
use Rattle.delivery_mode.specs.Guarantee.{keeps_lost}
use Rattle.grid_base.specs.declared.entry.Entry.{Entry}
use Rattle.grid_event.specs.declared.request.Request.{Request}
use Rattle.local_publisher.specs.declared.unit_state.UnitState.{UnitState}
use Rattle.local_publisher.specs.declared.unit_state.UnitState.TheVariants.{Asked, Running, Refused, Lost, Ended}
use Rattle.pipeline_split.specs.Halves.{local_of, remote_of}
use Rattle.pipeline_split.specs.Pieces.{joined, piece}
use Rattle.pipeline_split.specs.declared.halves.Remote.{Remote}
use Rattle.pipeline_split.specs.declared.piece.Piece.{Piece}
use Rattle.pipeline_split.specs.declared.piece.Piece.TheVariants.{Nothing}
use Rattle.reduce_cluster.specs.Reduced.{nothing_booked, segments_of, with_share}
use Rattle.cluster_model.specs.State.{Call, Calling, Unit, call_of, is_ended, is_lost, is_on, is_open_unit, is_walk, with_loss}
use Rattle.cluster_calls.specs.Calling.{ceases_at}
use Rattle.cluster_calls.specs.declared.parts.Parts.{Parts}

-- the call is a reduction that isn't answered
abbrev pub is_parted : Call → Bool
is_parted call = is_none call.outcome && not (is_walk call.request)

-- what the unit read is booked for the call: where it ended, and where it was lost and the guarantee keeps what lost units read
abbrev pub is_booked : Call → Unit → Bool
is_booked call unit = is_ended unit.work.state || (is_lost unit.work.state && keeps_lost call.request.guarantee)

-- the unit runs or did so, so that something may have been read for it
abbrev pub has_begun : UnitState → Bool
has_begun Asked = false
has_begun Running = true
has_begun (Refused at) = false
has_begun (Lost at) = true
has_begun Ended = true

-- the units of the call on the segment that are booked, in the order of asking
abbrev pub booked_units : List Unit → ℕ → Call → ℕ → List Unit
booked_units units number call segment = filter (λ (unit : Unit). is_on number segment unit && is_booked call unit) units

-- what units read, of one behind the other
abbrev pub read_of : List Unit → List Entry
read_of units = flat_map (λ (unit : Unit). unit.work.entries) units

-- the piece of what units read, where there are any
abbrev pub piece_by : Remote → List Unit → Option Piece
piece_by remote [] = None
piece_by remote (unit ∷ units) = Some (piece remote (read_of (unit ∷ units)))

-- the piece that is booked for the segment of the call
abbrev pub part_on : List Unit → ℕ → Call → ℕ → Option Piece
part_on units number call segment = piece_by (remote_of call.request.pipeline) (booked_units units number call segment)

abbrev pub part_by : List Unit → ℕ → ℕ → Option Call → Option Piece
part_by units number segment None = None
part_by units number segment (Some call) = cond (is_parted call) (part_on units number call segment) None

-- the piece that is booked for the segment, where the call is a reduction that isn't answered
abbrev pub part_in : Calling → ℕ → ℕ → Option Piece
part_in calling number segment = part_by calling.units number segment (call_of calling number)

-- what is to be booked for the segment of a unit that ended or was lost: what is booked there, with what this unit read behind it
abbrev pub booking : List Unit → Unit → Call → Option Piece
booking units unit call =
    cond (is_parted call && is_booked call unit)
    (Some (piece (remote_of call.request.pipeline) (read_of (booked_units units unit.work.call call unit.work.segment ++ unit ∷ [])))) None

abbrev pub booking_by : List Unit → Unit → Option Call → Option Piece
booking_by units unit None = None
booking_by units unit (Some call) = booking units unit call

abbrev pub booking_in : Calling → Unit → Option Piece
booking_in calling unit = booking_by calling.units unit (call_of calling unit.work.call)

-- what is to be booked where the node departs: of a unit that is lost by it
abbrev pub booking_departed : Calling → ℕ → Unit → Option Piece
booking_departed calling node unit =
    cond (is_open_unit unit && (unit.work.node == node)) (booking_in calling (with_loss None unit)) None

-- what is to be booked where the node ceases to read these segments: of a unit that is lost by it
abbrev pub booking_ceased : Calling → ℕ → set_of.FinSet nat_cmp → ℕ → Unit → Option Piece
booking_ceased calling node segments id unit =
    cond (ceases_at node segments unit) (booking_in calling (with_loss (Some id) unit)) None

-- nothing is booked for any of so many segments
abbrev pub no_parts : ℕ → Request → Parts
no_parts segments request = record {
  remote = remote_of request.pipeline;
  local = local_of request.pipeline;
  booked = nothing_booked segments;
}

-- what is kept of a request that was just made: of a walk nothing
abbrev pub made_parts : ℕ → Request → Option Parts
made_parts segments request = cond (is_walk request) None (Some (no_parts segments request))

-- the piece is the one that is booked for the segment
abbrev pub with_part : ℕ → Piece → Parts → Parts
with_part segment part parts = record parts { booked = with_share parts.booked segment part }

abbrev pub with_option : ℕ → Option Piece → Parts → Parts
with_option segment None parts = parts
with_option segment (Some part) parts = with_part segment part parts

-- where there is a piece, it is the one that is booked for the segment
abbrev pub with_booking : ℕ → Option Piece → Option Parts → Option Parts
with_booking segment part None = None
with_booking segment part (Some parts) = Some (with_option segment part parts)

-- the segment is one of those for which pieces are booked
abbrev pub is_within : ℕ → Option Parts → Bool
is_within segment None = true
is_within segment (Some parts) = nat_lt segment (segments_of parts.booked)

-- the join of a piece and all pieces of a list behind it
abbrev pub all_joined : Piece → List (Option Piece) → Piece
all_joined so_far [] = so_far
all_joined so_far (share ∷ shares) = all_joined (joined so_far (unwrap_or share Nothing)) shares

-- the halves are those of the call's pipeline, and for each segment its piece is booked
pub record IsParts (segments : ℕ) (units : List Unit) (number : ℕ) (call : Call) (parts : Parts) : Type 0 where
  pub parted : is_parted call ≡ true
  pub remote : parts.remote ≡ remote_of call.request.pipeline
  pub local : parts.local ≡ local_of call.request.pipeline
  pub wide : segments_of parts.booked ≡ segments
  pub booked : parts.booked.booked ≡ map (part_on units number call) (range_with_len 0 segments)

-- pieces are booked exactly for reductions that aren't answered
abbrev pub HasParts : ℕ → List Unit → ℕ → Call → Option Parts → Type 0
HasParts segments units number call None = is_parted call ≡ false
HasParts segments units number call (Some parts) = IsParts segments units number call parts
