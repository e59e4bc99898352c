use Rattle.pipeline_split.specs.FitLaws.{fits_front}
use Rattle.pipeline_split.proofs.laws.pieces_fit_in_any_groups.Goals as goal

pub returns-clause-behind : goal.returns-clause-behind
returns-clause-behind c = (fits_front c.args.a.now c.args.b.now c.args.c.now c.requires.first c.requires.second).0

pub returns-clause-around : goal.returns-clause-around
returns-clause-around c = (fits_front c.args.a.now c.args.b.now c.args.c.now c.requires.first c.requires.second).1
