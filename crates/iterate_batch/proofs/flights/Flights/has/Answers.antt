use Rattle.std.proofs.Common.{◌∙◌, ap, is_some}
use Rattle.iterate_batch.proofs.FlyingLaws.{found_flown}
use Rattle.iterate_batch.proofs.flights.Flights.has.Goals as goal

pub returns : goal.returns
returns c = c.contains_key.ensures ∙ ap is_some (found_flown c.self.inside.batches.entries c.args.self.now c.args.unit c.self.view_is)
