use Rattle.pipeline_split.proofs.SoundLaws as sound
use Rattle.pipeline_split.proofs.laws.typed_pieces_fit.Goals as goal

pub returns : goal.returns
returns c =
    sound.typed_pieces_fit c.args.pipeline.now c.args.values c.args.kind c.args.first.now c.args.more.now c.requires.typed c.requires.first_values c.requires.more_values c.requires.few
