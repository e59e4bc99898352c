use Rattle.event_texts.proofs.CallLaws.{pipeline_found, pipeline_none}
use Rattle.event_texts.proofs.read_calls.read_pipeline.Goals as goal

pub returns-in-Ok : goal.returns-in-Ok
returns-in-Ok c = pipeline_found c.args.text.now c.in-Ok.pipeline c.if-text-gt-LONGEST_LINE.false c.in-Ok.ensures.found.0 c.in-Ok.ensures.found.1

pub returns-in-Err-Syntax : goal.returns-in-Err-Syntax
returns-in-Err-Syntax c = pipeline_none c.args.text.now c.in-Err-Syntax.field-0 c.in-Err-Syntax.field-0-0 c.in-Err-Syntax.field-0-is c.in-Err-Syntax.ensures.stops
