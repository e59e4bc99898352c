use Rattle.std.proofs.Common.{rules, ◌∙◌, ◌+ℤ◌, ap, FitsSigned}
use Rattle.std.specs.Int.{w64}
use Rattle.std.proofs.lemmas.Int.{wrapping_add_is}
use Rattle.pipeline_eval.specs.Values.{wrapped}
use Rattle.pipeline_eval.proofs.values.added.Goals as goal

pub returns : goal.returns
returns c =
    let first : FitsSigned w64 c.args.sum = search rules in
    let second : FitsSigned w64 c.number.result = search rules in
    wrapping_add_is w64 c.args.sum c.number.result first second
    ∙ ap (λ n. wrapped (c.args.sum +ℤ n)) c.number.ensures
