-- What is kept of calls in every run gives each outcome its cause.
use Rattle.cluster_laws.proofs.causes.CauseRuns.{all_caused}
use Rattle.cluster_laws.proofs.laws.outcomes_are_caused.Goals as goal

pub returns : goal.returns
returns c = all_caused
