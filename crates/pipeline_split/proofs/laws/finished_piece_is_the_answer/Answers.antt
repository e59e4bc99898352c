use Rattle.pipeline_split.proofs.SplitLaws.{finished-piece}
use Rattle.pipeline_split.proofs.laws.finished_piece_is_the_answer.Goals as goal

pub returns : goal.returns
returns c = finished-piece c.args.pipeline.now c.args.entries.now
