-- The pieces that are booked, and those of units that end, by the state.
use Rattle.std.proofs.Common.{◌≡◌, ℕ, Bool, true, false, cond, None, Some, sym, ap, ◌∙◌}
use Rattle.pipeline_split.specs.Halves.{remote_of}
use Rattle.pipeline_split.specs.Pieces.{piece}
use Rattle.pipeline_split.specs.declared.piece.Piece.{Piece}
use Rattle.cluster_model.specs.State.{Call, State, Unit, call_of, is_walk, unit_of}
use Rattle.cluster_calls.proofs.ListLaws.{same_some}
use Rattle.cluster_core.specs.Parts.{piece_by, piece_for, piece_of}

-- the piece of a unit whose call is there is that of what it read
pub piece_told : (st : State) (number : ℕ) (made : Piece) → piece_of st number ≡ Some made → (unit : Unit) (call : Call) → unit_of st.calling number ≡ Some unit → call_of st.calling unit.work.call ≡ Some call
    → made ≡ piece (remote_of call.request.pipeline) unit.work.entries
piece_told st number made is unit call there called = by (is_walk call.request) (sym (ap (piece_by st) there ∙ ap (piece_for unit) called) ∙ is)
  where
    all : Piece
    all = piece (remote_of call.request.pipeline) unit.work.entries

    by : (b : Bool) → cond b None (Some all) ≡ Some made → made ≡ all
    by true e = absurd (cc)
    by false e = sym (same_some all made e)
