use Rattle.history_units.proofs.ScanLaws.{places_told}
use Rattle.history_units.proofs.laws.places_tell_events.Goals as goal

pub returns : goal.returns
returns c = places_told
