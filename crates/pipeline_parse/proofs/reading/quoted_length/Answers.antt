use Rattle.pipeline_parse.proofs.Steps.{quoted_whole}
use Rattle.pipeline_parse.proofs.reading.quoted_length.Goals as goal

pub loop-place-init : goal.loop-place-init
loop-place-init c = quoted_whole c.args.room c.args.text.now
