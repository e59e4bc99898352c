use Rattle.std.proofs.Common.{take, sym, ap, ◌∙◌}
use Rattle.std.specs.FinSet as set
use Rattle.pipeline_eval.proofs.ListLemmas.{taken}
use Rattle.pipeline_feed.proofs.Outcomes.{at_err, at_ok}
use Rattle.pipeline_feed.proofs.SetLaws.{union_none, union_more, lacks_front, undone}
use Rattle.pipeline_feed.proofs.element_set.ElementSet.add_all.Goals as goal

pub loop-place-init : goal.loop-place-init
loop-place-init c = union_none c.args.self.now

pub returns-then-is_err-clause-err : goal.returns-then-is_err-clause-err
returns-then-is_err-clause-err c =
    let items = c.args.items.now in
    let i = c.loop-place.place in
    c.remove_all.ensures
    ∙ ap (λ s. set.difference s (set.from_list (take i items))) (at_err c.add.result (sym c.is_err.ensures.value ∙ c.if-is_err.true) c.add.ensures.err)
    ∙ undone c.args.self.now c.loop-place.self (take i items) (lacks_front c.args.self.now items i c.requires) c.loop-place.invariant

pub loop-place-preserved : goal.loop-place-preserved
loop-place-preserved c =
    let items = c.args.items.now in
    let i = c.loop-place.place in
    let x = c.index-items-place.result in
    union_more c.args.self.now c.loop-place.self c.add.new.self (take i items) x c.loop-place.invariant
    (at_ok c.add.result (sym c.is_err.ensures.value ∙ c.if-is_err.false) c.add.ensures.ok)
    ∙ ap (λ xs. set.union c.args.self.now (set.from_list xs)) (sym (taken items i x c.loop-place-test.true c.index-items-place.is))
