use Rattle.std.proofs.Common.{◌∙◌, ◌++◌, ◌∷◌, [], map, take, sym, ap, ap₂}
use Rattle.std.proofs.lemmas.List.{map-append}
use Rattle.grid_base.specs.declared.item.Item.TheVariants as items
use Rattle.pipeline_eval.specs.Evaluation.{value_of}
use Rattle.pipeline_eval.proofs.ListLemmas.{taken}
use Rattle.pipeline_eval.proofs.operations.mapped.Goals as goal

pub loop-item-preserved : goal.loop-item-preserved
loop-item-preserved c =
    let all = c.args.items.now in
    let i = c.loop-item.item-index in
    let x = c.item-item.result in
    c.in_ok-push.ensures.items
    ∙ ap₂ (λ made d. made ++ items.Datum d ∷ []) c.loop-item.invariant c.in_ok-eval.ensures
    ∙ sym (map-append (λ y. items.Datum (value_of c.args.expr.now y)) (take i all) (x ∷ []))
    ∙ ap (map (λ y. items.Datum (value_of c.args.expr.now y))) (sym (taken all i x c.loop-item-test.true c.item-item.is))
