-- No chunk is sent in another phase, nor where a live node lacks the newest topology.
use Rattle.std.proofs.Common.{ap, sym, ◌∙◌}
use Rattle.topology_coord.specs.Coordination.{all_installed}
use Rattle.topology_phase.specs.Phases.{same_phase}
use Rattle.topology_phase.specs.declared.phase.Phase.TheVariants.{ReadOld}
use Rattle.topology_phase.specs.Topologies.{Topology}
use Rattle.cluster_model.specs.State.{Holding}
use Rattle.cluster_store.proofs.SendingLaws.{uninstalled_sends, unphased_sends}
use Rattle.cluster_store.proofs.store.Store.may_send.Goals as goal

pub returns-then-is : goal.returns-then-is
returns-then-is c off r s = uninstalled_sends c.args.self.now (ap (λ (st : Holding). all_installed st.coord) (sym c.self.view_is) ∙ sym c.all_installed.ensures ∙ off) r s

pub returns-else-is : goal.returns-else-is
returns-else-is c off r s =
    let phase = c.phase.ensures ∙ ap (λ (t : Topology). t.phase) c.newest.ensures.newest ∙ ap (λ (st : Holding). st.coord.newest.phase) c.self.view_is in
    unphased_sends c.args.self.now (ap (λ p. same_phase p ReadOld) (sym phase) ∙ sym c.is.ensures ∙ off) r s
