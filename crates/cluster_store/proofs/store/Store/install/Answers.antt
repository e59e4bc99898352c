-- The node drops what it doesn't write by the newest topology.
use Rattle.std.proofs.Common.{◌∙◌}
use Rattle.cluster_store.proofs.Departures.{install_may, install_newest, install_provider, install_receiver, install_row}
use Rattle.cluster_store.proofs.store.Store.install.Goals as goal

pub install-requires : goal.install-requires
install-requires c = install_may c.self.inside c.args.self.now c.args.node c.args.id c.self.view_is c.requires

pub drop_unwritten-requires-clause-no_receiver : goal.drop_unwritten-requires-clause-no_receiver
drop_unwritten-requires-clause-no_receiver c = install_receiver c.self.inside c.args.node c.newest.result.now c.self.invariant (c.newest.ensures.newest ∙ install_newest c.self.inside.coord c.install.new.self c.args.node c.install.ensures.installs)

pub drop_unwritten-requires-clause-no_provider : goal.drop_unwritten-requires-clause-no_provider
drop_unwritten-requires-clause-no_provider c = install_provider c.self.inside c.args.node c.newest.result.now c.self.invariant (c.newest.ensures.newest ∙ install_newest c.self.inside.coord c.install.new.self c.args.node c.install.ensures.installs) (install_may c.self.inside c.args.self.now c.args.node c.args.id c.self.view_is c.requires)

pub invariant_of-self : goal.invariant_of-self
invariant_of-self c =
    (install_row c.self.inside c.args.self.now c.args.node c.args.id c.newest.result.now c.install.new.self c.drop_unwritten.new.copies c.change.new.self c.of-ahead.result c.self.invariant c.self.view_is c.requires c.install.ensures.installs
    (c.newest.ensures.newest ∙ install_newest c.self.inside.coord c.install.new.self c.args.node c.install.ensures.installs) c.drop_unwritten.ensures.kept c.drop_unwritten.ensures.dropped c.change.ensures c.of-ahead.ensures).store

pub returns : goal.returns
returns c =
    (install_row c.self.inside c.args.self.now c.args.node c.args.id c.newest.result.now c.install.new.self c.drop_unwritten.new.copies c.change.new.self c.of-ahead.result c.self.invariant c.self.view_is c.requires c.install.ensures.installs
    (c.newest.ensures.newest ∙ install_newest c.self.inside.coord c.install.new.self c.args.node c.install.ensures.installs) c.drop_unwritten.ensures.kept c.drop_unwritten.ensures.dropped c.change.ensures c.of-ahead.ensures).seen
