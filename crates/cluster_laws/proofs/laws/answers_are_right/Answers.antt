-- All that is right is kept in every run.
use Rattle.cluster_laws.proofs.answers.AnswerRuns.{calls_right}
use Rattle.cluster_laws.proofs.laws.answers_are_right.Goals as goal

pub returns : goal.returns
returns c = calls_right
