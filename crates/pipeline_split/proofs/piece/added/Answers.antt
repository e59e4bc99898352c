use Rattle.std.proofs.Common.{rules, FitsSigned}
use Rattle.std.specs.Int.{w64}
use Rattle.std.proofs.lemmas.Int.{wrapping_add_is}
use Rattle.pipeline_split.proofs.piece.added.Goals as goal

pub returns : goal.returns
returns c =
    let first : FitsSigned w64 c.args.sum = search rules in
    let second : FitsSigned w64 c.args.more = search rules in
    wrapping_add_is w64 c.args.sum c.args.more first second
