use Rattle.std.proofs.Common.{◌∙◌}
use Rattle.iterate_batch.proofs.FlyingLaws.{found_flown}
use Rattle.iterate_batch.proofs.flights.Flights.get.Goals as goal

pub returns : goal.returns
returns c = c.get.ensures.value ∙ found_flown c.self.inside.batches.entries c.args.self.now c.args.unit c.self.view_is
