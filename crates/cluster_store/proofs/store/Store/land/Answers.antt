-- What flew stands at the receiver.
use Rattle.cluster_store.proofs.Rows.{land_row}
use Rattle.cluster_store.proofs.store.Store.land.Goals as goal

pub invariant_of-self-2 : goal.invariant_of-self-2
invariant_of-self-2 c = (land_row c.self.inside c.args.self.now c.args.receiver c.args.segment c.apply_chunk.new.self c.land.new.self c.self.invariant c.self.view_is c.requires c.in_ok-apply_chunk.ensures.ok c.land.ensures).store

pub returns-clause-ok : goal.returns-clause-ok
returns-clause-ok c = (land_row c.self.inside c.args.self.now c.args.receiver c.args.segment c.apply_chunk.new.self c.land.new.self c.self.invariant c.self.view_is c.requires c.in_ok-apply_chunk.ensures.ok c.land.ensures).seen
