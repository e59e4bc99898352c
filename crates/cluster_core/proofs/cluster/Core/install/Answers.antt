-- Running units of segments that the node reads no longer are lost.
use Rattle.cluster_core.proofs.StoreRows.{install_may, install_row}
use Rattle.cluster_core.proofs.cluster.Core.install.Goals as goal

pub install-requires : goal.install-requires
install-requires c = install_may c.self.inside c.args.self.now c.args.node c.args.id c.self.view_is c.requires

pub invariant_of-self-2 : goal.invariant_of-self-2
invariant_of-self-2 c =
    (install_row c.self.inside c.args.self.now c.args.node c.args.id c.install.new.self c.unread-unread.result c.cease.new.self c.self.invariant c.self.view_is c.requires c.install.ensures c.unread-unread.ensures c.in_ok-cease.ensures.ok).core

pub returns-clause-ok : goal.returns-clause-ok
returns-clause-ok c =
    (install_row c.self.inside c.args.self.now c.args.node c.args.id c.install.new.self c.unread-unread.result c.cease.new.self c.self.invariant c.self.view_is c.requires c.install.ensures c.unread-unread.ensures c.in_ok-cease.ensures.ok).seen
