-- The pieces of units of reductions.
use Rattle.std.proofs.Common.{◌≡◌, ℕ, ◌==◌, nat_lt, Bool, true, false, not, cond, List, Option, None, Some, is_some, refl, sym, ap, ◌∙◌}
use Rattle.std.proofs.lemmas.Bool.{and_parts}
use Rattle.grid_base.specs.declared.entry.Entry.{Entry}
use Rattle.pipeline_split.specs.Halves.{remote_of}
use Rattle.pipeline_split.specs.Pieces.{piece}
use Rattle.pipeline_split.specs.declared.halves.Remote.{Remote}
use Rattle.pipeline_split.specs.declared.piece.Piece.{Piece}
use Rattle.cluster_laws.proofs.units.ReadKinds.{same_entries-exact}
use Rattle.cluster_model.specs.Same.{same_entries}
use Rattle.cluster_model.specs.State.{Call, State, Unit, call_of, goes_on, is_walk, unit_of}
use Rattle.cluster_model.specs.Units.{can_end_unit, walks}
use Rattle.cluster_core.specs.Parts.{is_ready_behind, piece_by, piece_for, piece_of}

-- where a half is that of the unit's call, which is a reduction, and entries are the same as those that the unit read, the half
-- makes the unit's own piece of them
pub own_piece : (st : State) (number : ℕ) (unit : Unit) (call : Call) (remote : Remote) (entries : List Entry) → unit_of st.calling number ≡ Some unit →
    call_of st.calling unit.work.call ≡ Some call → is_walk call.request ≡ false → remote_of call.request.pipeline ≡ remote →
    same_entries unit.work.entries entries ≡ true → piece_of st number ≡ Some (piece remote entries)
own_piece st number unit call remote entries there called reduces half same =
    ap (piece_by st) there ∙ ap (piece_for unit) called
    ∙ ap (λ (b : Bool). cond b None (Some (piece (remote_of call.request.pipeline) unit.work.entries))) reduces
    ∙ ap (λ (r : Remote). Some (piece r unit.work.entries)) half
    ∙ ap (λ (es : List Entry). Some (piece remote es)) (same_entries-exact unit.work.entries entries same)

-- a unit that is ready has a piece
pub ready_piece : (st : State) (node number : ℕ) (unit : Unit) → unit_of st.calling unit.work.id ≡ Some unit → is_ready_behind st node number unit ≡ true →
    is_some (piece_of st unit.work.id) ≡ true
ready_piece st node number unit there ready =
    let behind = and_parts (nat_lt number unit.work.id) _ ready in
    let here = and_parts (unit.work.node == node) _ behind.1 in
    let may = and_parts (not (walks (call_of st.calling unit.work.call))) (can_end_unit st (Some unit)) here.1 in
    ap (λ (found : Option Unit). is_some (piece_by st found)) there
    ∙ by_call (call_of st.calling unit.work.call) may.0 (and_parts (goes_on st.holding (call_of st.calling unit.work.call)) _ may.1).0
  where
    by_walk : (b : Bool) (made : Piece) → not b ≡ true → is_some (cond b None (Some made)) ≡ true
    by_walk true made reduces = absurd (cc)
    by_walk false made reduces = refl

    by_call : (found : Option Call) → not (walks found) ≡ true → goes_on st.holding found ≡ true → is_some (piece_for unit found) ≡ true
    by_call None reduces goes = absurd (cc)
    by_call (Some call) reduces goes = by_walk (is_walk call.request) (piece (remote_of call.request.pipeline) unit.work.entries) reduces
