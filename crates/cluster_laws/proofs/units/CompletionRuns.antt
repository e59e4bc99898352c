-- A running unit's node hands on a batch of the map, and what is known of a topology that is announced.
use Rattle.std.proofs.Common.{◌≡◌, ◌+◌, true, List, subst}
use Rattle.grid_event.specs.declared.config.Config.{Config}
use Rattle.grid_event.specs.declared.event.Event.{Event}
use Rattle.grid_event.specs.declared.event.Event.TheVariants.{Announce}
use Rattle.topology_coord.proofs.NextLaws.{next_follows}
use Rattle.topology_coord.specs.Coordination.{all_installed}
use Rattle.topology_phase.specs.Topologies.{Topology}
use Rattle.cluster_model.specs.Kept.{IsKept}
use Rattle.cluster_model.specs.State.{State, Unit, call_of}
use Rattle.cluster_model.specs.Step.{allowed}
use Rattle.cluster_model.specs.Topologies.{all_copied, can_announce}
use Rattle.cluster_model.specs.Units.{batch_size}
use Rattle.cluster_laws.proofs.units.Batches.{is_batch}
use Rattle.cluster_laws.proofs.copies.Facts.{safe_by}
use Rattle.cluster_laws.proofs.Lists.{each_imply}
use Rattle.cluster_laws.proofs.units.ReadKinds.{Shown, ShownOne}
use Rattle.cluster_laws.proofs.copies.Requests.{may_announce}
use Rattle.cluster_laws.proofs.units.UnitPlaces.{AllPlaced, Placed, running_open}

-- a running unit's node reads its segment, so it holds the map's part of it
pub shown : (config : Config) (past : List Event) (st : State) → IsKept config past st → AllPlaced st.holding.coord st.calling.units → Shown config past st
shown config past st h placed = each_imply (Placed st.holding.coord) (ShownOne config past st) one st.calling.units placed
  where
    one : (unit : Unit) → Placed st.holding.coord unit → ShownOne config past st unit
    one unit p running =
        let lives = p.live (running_open unit.work.state running) in
        let held = (safe_by config.segments st.holding.coord h.parts.topologies unit.work.node).read_is_held unit.work.node unit.work.segment lives (p.reading running) in
        is_batch config past st.holding.copying.cells unit.work.segment unit.work.node (batch_size (call_of st.calling unit.work.call)) unit.work.entries
        (h.parts.copies unit.work.node unit.work.segment lives held)

-- what is known of the next topology where one is announced
pub next_known : (config : Config) (past : List Event) (st : State) (event : Event) → allowed st event ≡ true → IsKept config past st →
    (next : Topology) → event ≡ Announce next → (all_installed st.holding.coord ≡ true) × (next.id ≡ st.holding.coord.newest.id + 1)
next_known config past st event may h next e =
    let can : can_announce st.holding next ≡ true = subst (λ x. allowed st x ≡ true) e may in
    let is = may_announce config.segments st next h.parts.topologies can in
    (is.installed, (next_follows (all_copied st.holding) st.holding.coord next h.parts.topologies.some_live h.parts.topologies.owned is).next_id)
