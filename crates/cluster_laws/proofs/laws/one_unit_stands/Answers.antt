-- All is kept in every run, and this follows from it.
use Rattle.cluster_laws.proofs.answers.AnswerRuns.{units_alone}
use Rattle.cluster_laws.proofs.laws.one_unit_stands.Goals as goal

pub returns : goal.returns
returns c = units_alone
