-- What is kept of units in every run is completion.
use Rattle.cluster_laws.proofs.units.StageRuns.{completion}
use Rattle.cluster_laws.proofs.laws.units_are_completed.Goals as goal

pub returns : goal.returns
returns c = completion
