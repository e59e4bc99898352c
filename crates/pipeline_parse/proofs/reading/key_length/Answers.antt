use Rattle.pipeline_parse.proofs.Steps.{key_whole}
use Rattle.pipeline_parse.proofs.reading.key_length.Goals as goal

pub loop-place-init : goal.loop-place-init
loop-place-init c = key_whole c.args.room c.args.text.now
