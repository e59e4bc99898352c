use Rattle.std.proofs.Common.{◌∙◌, take, sym, ap, ap₂, Some}
use Rattle.pipeline_eval.specs.Lists.{least, lesser}
use Rattle.pipeline_eval.proofs.ListLemmas.{taken, least_more}
use Rattle.pipeline_eval.proofs.ends.least.Goals as goal

pub loop-item-preserved : goal.loop-item-preserved
loop-item-preserved c =
    let items = c.args.items.now in
    let i = c.loop-item.item-index in
    let x = c.item-item.result in
    c.lesser.ensures
    ∙ ap₂ lesser c.loop-item.invariant (ap (λ d. Some d) c.datum.ensures)
    ∙ least_more (take i items) x
    ∙ sym (ap least (taken items i x c.loop-item-test.true c.item-item.is))
