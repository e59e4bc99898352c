-- The next topology is announced where it gives up the rebalance.
use Rattle.std.proofs.Common.{◌≡◌, true, Option, ap, subst, sym, ◌∙◌}
use Rattle.std.proofs.lemmas.Bool.{and_from}
use Rattle.std.specs.Result.{IfOk}
use Rattle.grid_event.specs.declared.event.Event.{Event}
use Rattle.topology_coord.specs.Coordination.{Coordination}
use Rattle.topology_coord.specs.Following.{cancels}
use Rattle.topology_phase.specs.Phases.{same_phase}
use Rattle.topology_phase.specs.Topologies.{Topology}
use Rattle.topology_phase.specs.declared.phase.Phase.TheVariants.{NoRebalance, ReadOld}
use Rattle.cluster_store.proofs.EventLaws.{cancel_event-some}
use Rattle.cluster_store.proofs.store.Store.cancel_event.Goals as goal

pub returns : goal.returns
returns c =
    let st = c.args.self.now in
    let newest = c.phase.ensures ∙ ap (λ (t : Topology). t.phase) c.newest.ensures.newest ∙ ap (λ (coord : Coordination). coord.newest.phase) c.coord.ensures.coord in
    let gives : cancels st.coord c.in-Some.next ≡ true =
    and_from (same_phase st.coord.newest.phase ReadOld) (same_phase c.in-Some.next.phase NoRebalance) (sym (c.if-not-is.ensures ∙ ap (λ phase. same_phase phase ReadOld) newest))
    (sym (c.if-not-is-2.ensures ∙ ap (λ phase. same_phase phase NoRebalance) c.phase-2.ensures)) in
    subst (λ (x : Option Event). IfOk c.announcement.result (λ event. event ≡ x)) (sym (cancel_event-some st c.in-Some.next (sym c.in_ok-next.ensures ∙ c.in-Some.is) gives)) c.announcement.ensures
