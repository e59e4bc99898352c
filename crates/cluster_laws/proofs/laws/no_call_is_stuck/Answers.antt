-- What is kept in every run, within the limits of a journal, leaves nothing stuck.
use Rattle.cluster_laws.proofs.stuck.StuckRuns.{never_stuck}
use Rattle.cluster_laws.proofs.laws.no_call_is_stuck.Goals as goal

pub returns : goal.returns
returns c = never_stuck
