-- The pieces of reductions, by the state.
use Rattle.std.specs.Prelude.{ℕ, ◌==◌, nat_lt, Bool, not, ◌&&◌, cond, find, Option, None, Some}
use Rattle.std.specs.Option.{option_map}
use Rattle.pipeline_split.specs.Halves.{remote_of}
use Rattle.pipeline_split.specs.Pieces.{piece}
use Rattle.pipeline_split.specs.declared.piece.Piece.{Piece}
use Rattle.cluster_model.specs.State.{Call, State, Unit, call_of, is_walk, unit_of}
use Rattle.cluster_model.specs.Units.{can_end_unit, walks}
use Rattle.cluster_calls.specs.Parts.{part_by}

-- the piece that is booked for the segment, where the call is a reduction that isn't answered: that of what those of its
-- units on the segment read, in the order of asking, that ended, or that were lost where the guarantee keeps what lost
-- units read. Where there is no such unit there is none
abbrev pub part_of : State → ℕ → ℕ → Option Piece
part_of st call segment = part_by st.calling.units call segment (call_of st.calling call)

-- the piece of what the unit read, where its call is a reduction
abbrev pub piece_for : Unit → Option Call → Option Piece
piece_for unit None = None
piece_for unit (Some call) =
    cond (is_walk call.request) None (Some (piece (remote_of call.request.pipeline) unit.work.entries))

abbrev pub piece_by : State → Option Unit → Option Piece
piece_by st None = None
piece_by st (Some unit) = piece_for unit (call_of st.calling unit.work.call)

-- the piece of what the unit of that number read, where it is there and its call is a reduction
abbrev pub piece_of : State → ℕ → Option Piece
piece_of st number = piece_by st (unit_of st.calling number)

-- the unit is at the node, its call is a reduction, and it may end
abbrev pub is_ready : State → ℕ → Unit → Bool
is_ready st node unit =
    (unit.work.node == node) && (not (walks (call_of st.calling unit.work.call)) && can_end_unit st (Some unit))

-- it is, and has a number above this one
abbrev pub is_ready_behind : State → ℕ → ℕ → Unit → Bool
is_ready_behind st node number unit = nat_lt number unit.work.id && is_ready st node unit

-- the least unit of a reduction with a number above this one that is at the node and may end, where there is one
abbrev pub ready_behind : State → ℕ → ℕ → Option ℕ
ready_behind st node number = option_map (λ (unit : Unit). unit.work.id) (find (is_ready_behind st node number) st.calling.units)

-- the least unit of a reduction at the node that may end, where there is one; units have numbers from 1 on
abbrev pub ready_at : State → ℕ → Option ℕ
ready_at st node = ready_behind st node 0
