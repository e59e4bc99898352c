-- What flew stands at the receiver.
use Rattle.cluster_core.proofs.StoreRows.{land_may, land_row}
use Rattle.cluster_core.proofs.cluster.Core.land.Goals as goal

pub land-requires : goal.land-requires
land-requires c = land_may c.self.inside c.args.self.now c.args.receiver c.args.segment c.self.view_is c.requires

pub invariant_of-self-2 : goal.invariant_of-self-2
invariant_of-self-2 c = (land_row c.self.inside c.args.self.now c.args.receiver c.args.segment c.land.new.self c.self.invariant c.self.view_is c.requires c.in_ok-land.ensures.ok).core

pub returns-clause-ok : goal.returns-clause-ok
returns-clause-ok c = (land_row c.self.inside c.args.self.now c.args.receiver c.args.segment c.land.new.self c.self.invariant c.self.view_is c.requires c.in_ok-land.ensures.ok).seen
