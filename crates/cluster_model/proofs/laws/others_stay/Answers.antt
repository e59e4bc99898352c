use Rattle.cluster_model.proofs.Frames.{others_stay}
use Rattle.cluster_model.proofs.laws.others_stay.Goals as goal

pub returns : goal.returns
returns c = others_stay
