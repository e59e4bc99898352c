use Rattle.cluster_model.proofs.Steps.{functional}
use Rattle.cluster_model.proofs.laws.steps_are_functional.Goals as goal

pub returns : goal.returns
returns c = functional
