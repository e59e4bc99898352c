use Rattle.std.proofs.Common.{rules, FitsSigned, ◌∙◌, ◌+ℤ◌, take, sym, ap, ap₂}
use Rattle.std.specs.Int.{w64}
use Rattle.std.proofs.lemmas.Int.{to_z-of_z}
use Rattle.pipeline_eval.specs.Lists.{total}
use Rattle.pipeline_eval.specs.Values.{number_of, wrapped}
use Rattle.pipeline_eval.proofs.ListLemmas.{taken, total_more}
use Rattle.pipeline_eval.proofs.ends.sum.Goals as goal

pub loop-item-preserved : goal.loop-item-preserved
loop-item-preserved c =
    let items = c.args.items.now in
    let i = c.loop-item.item-index in
    let x = c.item-item.result in
    let fits : FitsSigned w64 c.added-sum.result = search rules in
    to_z-of_z w64 c.added-sum.result fits
    ∙ c.added-sum.ensures
    ∙ ap₂ (λ m n. wrapped (m +ℤ n)) c.loop-item.invariant (ap number_of c.datum.ensures)
    ∙ total_more (take i items) x
    ∙ ap (λ ys. wrapped (total ys)) (sym (taken items i x c.loop-item-test.true c.item-item.is))
