use Rattle.pipeline_split.proofs.SplitLaws.{piece-append}
use Rattle.pipeline_split.proofs.laws.pieces_join.Goals as goal

pub returns : goal.returns
returns c = piece-append c.args.pipeline.now c.args.first.now c.args.more.now
