use Rattle.cluster_model.proofs.CauseLaws.{exclude}
use Rattle.cluster_model.proofs.laws.causes_exclude_one_another.Goals as goal

pub returns : goal.returns
returns c = exclude
