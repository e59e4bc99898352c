use Rattle.cluster_model.proofs.EvidenceLaws.{its_own}
use Rattle.cluster_model.proofs.laws.evidence_is_its_own.Goals as goal

pub returns : goal.returns
returns c = its_own
