use Rattle.std.proofs.Common.{◌∙◌, take, sym, ap, ap₂, Some}
use Rattle.pipeline_eval.specs.Lists.{greatest, greater}
use Rattle.pipeline_eval.proofs.ListLemmas.{taken, greatest_more}
use Rattle.pipeline_eval.proofs.ends.greatest.Goals as goal

pub loop-item-preserved : goal.loop-item-preserved
loop-item-preserved c =
    let items = c.args.items.now in
    let i = c.loop-item.item-index in
    let x = c.item-item.result in
    c.greater.ensures
    ∙ ap₂ greater c.loop-item.invariant (ap (λ d. Some d) c.datum.ensures)
    ∙ greatest_more (take i items) x
    ∙ sym (ap greatest (taken items i x c.loop-item-test.true c.item-item.is))
