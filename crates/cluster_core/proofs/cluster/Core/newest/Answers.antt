-- The newest unit is one of the core's.
use Rattle.cluster_core.proofs.UnitPlaces.{newest_there}
use Rattle.cluster_core.proofs.cluster.Core.newest.Goals as goal

pub returns-clause-there : goal.returns-clause-there
returns-clause-there c = λ unit is. newest_there c.self.inside c.args.self.now c.args.call c.args.segment unit c.self.invariant c.self.view_is is
