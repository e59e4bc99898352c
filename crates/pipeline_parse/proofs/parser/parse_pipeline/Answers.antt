use Rattle.std.proofs.Common.{◌+◌, length, arith}
use Rattle.pipeline_parse.proofs.Exactness.{found, left_within, same_pipeline, stops}
use Rattle.pipeline_parse.proofs.parser.parse_pipeline.Goals as goal

pub overflow_sub-result : goal.overflow_sub-result
overflow_sub-result c = left_within (length c.args.text.now + 1) c.args.text.now c.in-Err-Left.left (rw c.in-Err-Left.field-0-is at c.in-Err-Left.ensures)

pub returns-in-Ok-clause-found : goal.returns-in-Ok-clause-found
returns-in-Ok-clause-found c = found (length c.args.text.now + 1) c.args.text.now c.in-Ok.pipeline c.in-Ok.ensures

pub returns-in-Ok-clause-only : goal.returns-in-Ok-clause-only
returns-in-Ok-clause-only c = λ p fit text. same_pipeline (length c.args.text.now + 1) c.args.text.now c.in-Ok.pipeline p (omega arith) c.in-Ok.ensures fit text

pub returns-in-Err-Left-clause-only : goal.returns-in-Err-Left-clause-only
returns-in-Err-Left-clause-only c =
    (stops (length c.args.text.now + 1) c.args.text.now c.in-Err-Left.left (omega arith) (rw c.in-Err-Left.field-0-is at c.in-Err-Left.ensures)).other

pub returns-in-Err-Left-clause-stops : goal.returns-in-Err-Left-clause-stops
returns-in-Err-Left-clause-stops c = stops (length c.args.text.now + 1) c.args.text.now c.in-Err-Left.left (omega arith) (rw c.in-Err-Left.field-0-is at c.in-Err-Left.ensures)
