use Rattle.std.proofs.Common.{◌∙◌}
use Rattle.iterate_batch.proofs.FlyingLaws.{found_flown, flown-remove}
use Rattle.iterate_batch.proofs.flights.Flights.remove.Goals as goal

pub returns-clause-before : goal.returns-clause-before
returns-clause-before c = c.remove.ensures.value ∙ found_flown c.self.inside.batches.entries c.args.self.now c.args.unit c.self.view_is

pub returns-clause-rest : goal.returns-clause-rest
returns-clause-rest c = flown-remove c.self.inside.batches.entries c.remove.new.self.entries c.args.self.now c.args.unit c.self.view_is c.remove.ensures.updates.0
