use Rattle.pipeline_split.proofs.SplitLaws.{finished_nothing}
use Rattle.pipeline_split.proofs.laws.finished_nothing_is_the_empty_answer.Goals as goal

pub returns : goal.returns
returns c = finished_nothing c.args.pipeline.now
