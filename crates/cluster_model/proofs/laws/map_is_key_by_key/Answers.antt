use Rattle.cluster_model.proofs.MapLaws.{key_by_key}
use Rattle.cluster_model.proofs.laws.map_is_key_by_key.Goals as goal

pub returns : goal.returns
returns c = key_by_key
