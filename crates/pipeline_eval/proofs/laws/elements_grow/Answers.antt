use Rattle.pipeline_eval.proofs.Growth.{pipe_items_grow}
use Rattle.pipeline_eval.proofs.laws.elements_grow.Goals as goal

pub returns : goal.returns
returns c = pipe_items_grow c.args.pipeline.now c.args.taken.now c.args.more.now
