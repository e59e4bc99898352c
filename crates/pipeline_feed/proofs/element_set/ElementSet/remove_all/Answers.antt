use Rattle.std.proofs.Common.{take, sym, ap, ◌∙◌}
use Rattle.std.specs.FinSet as set
use Rattle.pipeline_eval.proofs.ListLemmas.{taken}
use Rattle.pipeline_feed.proofs.SetLaws.{difference_none, difference_more}
use Rattle.pipeline_feed.proofs.element_set.ElementSet.remove_all.Goals as goal

pub loop-item-init : goal.loop-item-init
loop-item-init c = difference_none c.args.self.now

pub loop-item-preserved : goal.loop-item-preserved
loop-item-preserved c =
    let items = c.args.items.now in
    let i = c.loop-item.item-index in
    let x = c.item-item.result in
    difference_more c.args.self.now c.loop-item.self c.remove.new.self (take i items) x c.loop-item.invariant c.remove.ensures
    ∙ ap (λ xs. set.difference c.args.self.now (set.from_list xs)) (sym (taken items i x c.loop-item-test.true c.item-item.is))
