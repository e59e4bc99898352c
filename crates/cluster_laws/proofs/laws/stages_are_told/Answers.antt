-- What is kept of units and calls in every run tells their stages and noted segments.
use Rattle.cluster_laws.proofs.units.StageRuns.{stages_told}
use Rattle.cluster_laws.proofs.laws.stages_are_told.Goals as goal

pub returns : goal.returns
returns c = stages_told
