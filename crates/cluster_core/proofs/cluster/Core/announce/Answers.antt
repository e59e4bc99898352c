-- The topology is the newest.
use Rattle.std.proofs.Common.{ap, ◌∙◌}
use Rattle.cluster_model.specs.Topologies.{announced, can_announce}
use Rattle.cluster_core.proofs.StoreRows.{announce_may, announce_row}
use Rattle.cluster_core.proofs.cluster.Core.announce.Goals as goal

pub announce-requires : goal.announce-requires
announce-requires c = ap (can_announce c.self.inside.store) c.in_ok-topology.ensures ∙ announce_may c.self.inside c.args.self.now c.args.topology.now c.self.view_is c.requires

pub invariant_of-self : goal.invariant_of-self
invariant_of-self c =
    (announce_row c.self.inside c.args.self.now c.args.topology.now c.announce.new.self c.self.invariant c.self.view_is c.requires
    (c.announce.ensures ∙ ap (announced c.self.inside.store) c.in_ok-topology.ensures)).core

pub returns-clause-ok : goal.returns-clause-ok
returns-clause-ok c =
    (announce_row c.self.inside c.args.self.now c.args.topology.now c.announce.new.self c.self.invariant c.self.view_is c.requires
    (c.announce.ensures ∙ ap (announced c.self.inside.store) c.in_ok-topology.ensures)).seen
