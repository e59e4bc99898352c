use Rattle.pipeline_split.specs.PieceLaws.{joined-assoc}
use Rattle.pipeline_split.proofs.laws.pieces_join_in_any_groups.Goals as goal

pub returns : goal.returns
returns c = joined-assoc c.args.a.now c.args.b.now c.args.c.now c.requires.first c.requires.second
