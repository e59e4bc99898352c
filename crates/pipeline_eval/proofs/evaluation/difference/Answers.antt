use Rattle.std.proofs.Common.{rules, ◌∙◌, ◌-ℤ◌, ap₂, FitsSigned}
use Rattle.std.specs.Int.{w64}
use Rattle.std.proofs.lemmas.Int.{wrapping_sub_is}
use Rattle.pipeline_eval.specs.Values.{wrapped}
use Rattle.pipeline_eval.proofs.evaluation.difference.Goals as goal

pub returns : goal.returns
returns c =
    let first : FitsSigned w64 c.number.result = search rules in
    let second : FitsSigned w64 c.number-2.result = search rules in
    wrapping_sub_is w64 c.number.result c.number-2.result first second
    ∙ ap₂ (λ m n. wrapped (m -ℤ n)) c.number.ensures c.number-2.ensures
