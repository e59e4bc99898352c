-- A node that was never a member isn't there, and provides nothing.
use Rattle.cluster_store.proofs.Rows.{join_absent, join_may, join_provides, join_row}
use Rattle.cluster_store.proofs.store.Store.join.Goals as goal

pub join-requires-clause-absent : goal.join-requires-clause-absent
join-requires-clause-absent c = join_absent c.self.inside c.args.node c.self.invariant (join_may c.self.inside c.args.self.now c.args.node c.self.view_is c.requires)

pub join-requires-clause-provides_none : goal.join-requires-clause-provides_none
join-requires-clause-provides_none c = join_provides c.self.inside c.args.node c.self.invariant (join_may c.self.inside c.args.self.now c.args.node c.self.view_is c.requires)

pub join-requires-2 : goal.join-requires-2
join-requires-2 c = join_may c.self.inside c.args.self.now c.args.node c.self.view_is c.requires

pub invariant_of-self-2 : goal.invariant_of-self-2
invariant_of-self-2 c =
    (join_row c.self.inside c.args.self.now c.args.node c.join-2.new.self c.join.new.self c.change.new.self c.of-ahead.result c.self.invariant c.self.view_is c.requires c.join-2.ensures c.in_ok-join.ensures.ok c.change.ensures c.of-ahead.ensures).store

pub returns-clause-ok : goal.returns-clause-ok
returns-clause-ok c =
    (join_row c.self.inside c.args.self.now c.args.node c.join-2.new.self c.join.new.self c.change.new.self c.of-ahead.result c.self.invariant c.self.view_is c.requires c.join-2.ensures c.in_ok-join.ensures.ok c.change.ensures c.of-ahead.ensures).seen
