use Rattle.iterate_batch.proofs.FlyingLaws.{flown-put}
use Rattle.iterate_batch.proofs.flights.Flights.put.Goals as goal

pub returns-clause-ok : goal.returns-clause-ok
returns-clause-ok c = flown-put c.self.inside.batches.entries c.insert.new.self.entries c.args.self.now c.args.unit c.args.flying c.self.view_is c.in_ok-insert.ensures.updates.0
