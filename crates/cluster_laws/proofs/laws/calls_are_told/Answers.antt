-- All is kept in every run, and this follows from it.
use Rattle.cluster_laws.proofs.answers.AnswerRuns.{calls_told_by}
use Rattle.cluster_laws.proofs.laws.calls_are_told.Goals as goal

pub returns : goal.returns
returns c = calls_told_by
