-- Where units are lost by a departure, the same segments are complete as before.
use Rattle.std.proofs.Common.{◌≡◌, ℕ, ◌==◌, Bool, true, false, cond, not, ◌&&◌, ◌||◌, List, [], ◌∷◌, map, filter, is_none, None, refl, sym, ap}
use Rattle.delivery_mode.specs.Guarantee.{asks_again}
use Rattle.local_publisher.specs.Stages.{is_open}
use Rattle.local_publisher.specs.declared.unit_state.UnitState.{UnitState}
use Rattle.local_publisher.specs.declared.unit_state.UnitState.TheVariants.{Asked, Running, Refused, Lost, Ended}
use Rattle.cluster_model.specs.State.{Unit, is_ended, is_on, is_open_unit, with_loss}
use Rattle.cluster_model.specs.Topologies.{all_noted, is_complete, notes_losses, with_departure}
use Rattle.cluster_calls.proofs.BothLaws.{and_left}

-- a unit that is open hasn't ended
open_unended : (state : UnitState) → is_open state ≡ true → is_ended state ≡ false
open_unended Asked e = refl
open_unended Running e = refl
open_unended (Refused at) e = refl
open_unended (Lost at) e = refl
open_unended Ended e = absurd (cc)

-- a unit has ended on the segment after a departure exactly where it had before
ended_departed : (node : ℕ) (unit : Unit) (call segment : ℕ) → (is_on call segment (with_departure node unit) && is_ended (with_departure node unit).work.state) ≡ (is_on call segment unit && is_ended unit.work.state)
ended_departed node unit call segment = by (is_open_unit unit && (unit.work.node == node)) refl
  where
    by : (b : Bool) → (is_open_unit unit && (unit.work.node == node)) ≡ b
        → (is_on call segment (cond b (with_loss None unit) unit) && is_ended (cond b (with_loss None unit) unit).work.state) ≡ (is_on call segment unit && is_ended unit.work.state)
    by true e = ap (λ t. is_on call segment unit && t) (sym (open_unended unit.work.state (and_left (is_open_unit unit) (unit.work.node == node) e)))
    by false e = refl

-- a segment is complete after a departure exactly where it was before
complete_departed : (node : ℕ) (units : List Unit) (call segment : ℕ) → is_complete (map (with_departure node) units) call segment ≡ is_complete units call segment
complete_departed node [] call segment = refl
complete_departed node (unit ∷ units) call segment = λ i. ended_departed node unit call segment i || complete_departed node units call segment i

-- and so calls note the same losses
pub notes_departed : (node : ℕ) (units : List Unit) (lost : List ℕ) → notes_losses (map (with_departure node) units) lost ≡ notes_losses units lost
notes_departed node units lost = λ i number call. record call {
  lost =
      cond (is_none call.outcome && asks_again call.request.guarantee)
      (all_noted (filter (λ segment. not (complete_departed node units number segment i)) lost) call.lost) call.lost;
}
