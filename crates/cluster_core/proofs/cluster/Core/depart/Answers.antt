-- Open units at the node are lost, and the segments that are lost are noted.
use Rattle.std.proofs.Common.{subst, ap, ◌∙◌}
use Rattle.topology_coord.specs.Coordination.{Coordination, lost_segments}
use Rattle.topology_phase.specs.Topologies.{IsTopology}
use Rattle.cluster_core.proofs.LostFacts.{loses_listed}
use Rattle.cluster_core.proofs.StoreRows.{depart_may, depart_row}
use Rattle.cluster_core.proofs.cluster.Core.depart.Goals as goal

pub depart-lost-requires : goal.depart-lost-requires
depart-lost-requires c = depart_may c.self.inside c.args.self.now c.args.node c.self.view_is c.requires

pub invariant_of-self-2 : goal.invariant_of-self-2
invariant_of-self-2 c =
    let coord = c.self.inside.store.coord in
    let newest = c.newest.ensures.newest ∙ ap (λ (x : Coordination). x.newest) c.coord.ensures.coord in
    let kept : IsTopology coord.newest = subst IsTopology newest c.segments.ensures.kept in
    let notes = c.note_losses.ensures (lost_segments coord c.args.node) (λ s. c.depart-lost.ensures.lost s ∙ loses_listed coord c.args.node s kept) in
    (depart_row c.self.inside c.args.self.now c.args.node c.depart-lost.new.self c.lose_at.new.self c.note_losses.new.self c.self.invariant c.self.view_is c.requires c.depart-lost.ensures.departed c.in_ok-lose_at.ensures.ok notes).core

pub returns-clause-ok : goal.returns-clause-ok
returns-clause-ok c =
    let coord = c.self.inside.store.coord in
    let newest = c.newest.ensures.newest ∙ ap (λ (x : Coordination). x.newest) c.coord.ensures.coord in
    let kept : IsTopology coord.newest = subst IsTopology newest c.segments.ensures.kept in
    let notes = c.note_losses.ensures (lost_segments coord c.args.node) (λ s. c.depart-lost.ensures.lost s ∙ loses_listed coord c.args.node s kept) in
    (depart_row c.self.inside c.args.self.now c.args.node c.depart-lost.new.self c.lose_at.new.self c.note_losses.new.self c.self.invariant c.self.view_is c.requires c.depart-lost.ensures.departed c.in_ok-lose_at.ensures.ok notes).seen
