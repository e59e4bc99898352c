use Rattle.cluster_model.proofs.ChosenSteps.{chosen_may}
use Rattle.cluster_model.proofs.laws.chosen_events_may_happen.Goals as goal

pub returns : goal.returns
returns c = chosen_may
