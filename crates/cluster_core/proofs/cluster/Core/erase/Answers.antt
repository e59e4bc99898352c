-- Nothing stands at the key.
use Rattle.cluster_core.proofs.StoreRows.{erase_may, erase_row}
use Rattle.cluster_core.proofs.cluster.Core.erase.Goals as goal

pub erase-requires : goal.erase-requires
erase-requires c = erase_may c.self.inside c.args.self.now c.args.erase.now c.self.view_is c.requires

pub invariant_of-self-2 : goal.invariant_of-self-2
invariant_of-self-2 c = (erase_row c.self.inside c.args.self.now c.args.erase.now c.erase.new.self c.self.invariant c.self.view_is c.requires c.in_ok-erase.ensures.ok).core

pub returns-clause-ok : goal.returns-clause-ok
returns-clause-ok c = (erase_row c.self.inside c.args.self.now c.args.erase.now c.erase.new.self c.self.invariant c.self.view_is c.requires c.in_ok-erase.ensures.ok).seen
