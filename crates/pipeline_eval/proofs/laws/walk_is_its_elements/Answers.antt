use Rattle.std.proofs.Common.{ap}
use Rattle.pipeline_eval.specs.Pipes.{end_answer, pipe_items}
use Rattle.pipeline_eval.proofs.laws.walk_is_its_elements.Goals as goal

pub returns : goal.returns
returns c = ap (λ end. end_answer end (pipe_items c.args.pipeline.now c.args.entries.now)) c.requires
