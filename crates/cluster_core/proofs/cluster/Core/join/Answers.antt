-- The node is a member.
use Rattle.cluster_core.proofs.StoreRows.{join_may, join_row}
use Rattle.cluster_core.proofs.cluster.Core.join.Goals as goal

pub join-requires : goal.join-requires
join-requires c = join_may c.self.inside c.args.self.now c.args.node c.self.view_is c.requires

pub invariant_of-self-2 : goal.invariant_of-self-2
invariant_of-self-2 c = (join_row c.self.inside c.args.self.now c.args.node c.join.new.self c.self.invariant c.self.view_is c.requires c.in_ok-join.ensures.ok).core

pub returns-clause-ok : goal.returns-clause-ok
returns-clause-ok c = (join_row c.self.inside c.args.self.now c.args.node c.join.new.self c.self.invariant c.self.view_is c.requires c.in_ok-join.ensures.ok).seen
