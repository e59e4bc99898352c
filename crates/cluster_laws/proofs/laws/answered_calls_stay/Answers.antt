-- All is kept in every run, and an event that may happen is of no answered call.
use Rattle.cluster_laws.proofs.answers.AnswerRuns.{answered_stay}
use Rattle.cluster_laws.proofs.laws.answered_calls_stay.Goals as goal

pub returns : goal.returns
returns c = answered_stay
