-- The value stands at the key.
use Rattle.cluster_core.proofs.StoreRows.{write_may, write_row}
use Rattle.cluster_core.proofs.cluster.Core.write.Goals as goal

pub write-requires : goal.write-requires
write-requires c = write_may c.self.inside c.args.self.now c.args.write.now c.self.view_is c.requires

pub invariant_of-self-2 : goal.invariant_of-self-2
invariant_of-self-2 c = (write_row c.self.inside c.args.self.now c.args.write.now c.write.new.self c.self.invariant c.self.view_is c.requires c.in_ok-write.ensures.ok).core

pub returns-clause-ok : goal.returns-clause-ok
returns-clause-ok c = (write_row c.self.inside c.args.self.now c.args.write.now c.write.new.self c.self.invariant c.self.view_is c.requires c.in_ok-write.ensures.ok).seen
