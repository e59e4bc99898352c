-- All is kept in every run.
use Rattle.cluster_laws.proofs.Runs.{always_kept}
use Rattle.cluster_laws.proofs.laws.events_keep_all.Goals as goal

pub returns : goal.returns
returns c = always_kept
