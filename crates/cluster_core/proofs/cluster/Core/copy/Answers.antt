-- The chunk flies.
use Rattle.cluster_core.proofs.StoreRows.{copy_may, copy_row}
use Rattle.cluster_core.proofs.cluster.Core.copy.Goals as goal

pub copy-requires : goal.copy-requires
copy-requires c = copy_may c.self.inside c.args.self.now c.args.copy.now c.self.view_is c.requires

pub invariant_of-self-2 : goal.invariant_of-self-2
invariant_of-self-2 c = (copy_row c.self.inside c.args.self.now c.args.copy.now c.copy.new.self c.self.invariant c.self.view_is c.requires c.in_ok-copy.ensures.ok).core

pub returns-clause-ok : goal.returns-clause-ok
returns-clause-ok c = (copy_row c.self.inside c.args.self.now c.args.copy.now c.copy.new.self c.self.invariant c.self.view_is c.requires c.in_ok-copy.ensures.ok).seen
