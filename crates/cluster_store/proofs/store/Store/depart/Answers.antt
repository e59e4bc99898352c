-- The node goes with its transfers, its copies and the lost segments.
use Rattle.std.specs.FinSet as set_of
use Rattle.cluster_store.proofs.Departures.{depart_may, depart_row, left_step, no_provider_left, no_receiver_left}
use Rattle.cluster_store.proofs.store.Store.depart.Goals as goal

pub depart-lost-requires : goal.depart-lost-requires
depart-lost-requires c = depart_may c.self.inside c.args.self.now c.args.node c.self.view_is c.requires

pub depart-requires-clause-no_receiver : goal.depart-requires-clause-no_receiver
depart-requires-clause-no_receiver c = no_receiver_left c.self.inside.copies c.forget_all.new.copies c.args.node (set_of.contains c.depart-lost.result) (left_step c.self.inside.copies c.cancel.new.self c.restart.new.self c.forget_all.new.copies c.args.node (set_of.contains c.depart-lost.result) c.cancel.ensures c.restart.ensures c.forget_all.ensures)

pub depart-requires-clause-no_provider : goal.depart-requires-clause-no_provider
depart-requires-clause-no_provider c = no_provider_left c.self.inside.copies c.forget_all.new.copies c.args.node (set_of.contains c.depart-lost.result) (left_step c.self.inside.copies c.cancel.new.self c.restart.new.self c.forget_all.new.copies c.args.node (set_of.contains c.depart-lost.result) c.cancel.ensures c.restart.ensures c.forget_all.ensures)

pub invariant_of-self : goal.invariant_of-self
invariant_of-self c =
    (depart_row c.self.inside c.args.self.now c.args.node (set_of.contains c.depart-lost.result) c.depart-lost.new.self c.forget_all.new.copies c.depart.new.self c.change.new.self c.self.invariant c.self.view_is c.requires c.depart-lost.ensures.lost
    c.depart-lost.ensures.departs (left_step c.self.inside.copies c.cancel.new.self c.restart.new.self c.forget_all.new.copies c.args.node (set_of.contains c.depart-lost.result) c.cancel.ensures c.restart.ensures c.forget_all.ensures) c.depart.ensures c.change.ensures).store

pub returns-clause-departed : goal.returns-clause-departed
returns-clause-departed c =
    (depart_row c.self.inside c.args.self.now c.args.node (set_of.contains c.depart-lost.result) c.depart-lost.new.self c.forget_all.new.copies c.depart.new.self c.change.new.self c.self.invariant c.self.view_is c.requires c.depart-lost.ensures.lost
    c.depart-lost.ensures.departs (left_step c.self.inside.copies c.cancel.new.self c.restart.new.self c.forget_all.new.copies c.args.node (set_of.contains c.depart-lost.result) c.cancel.ensures c.restart.ensures c.forget_all.ensures) c.depart.ensures c.change.ensures).seen
