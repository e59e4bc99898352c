use Rattle.std.proofs.Common.{◌≡◌, ◌∷◌, ◌++◌, map, take}
use Rattle.grid_base.specs.declared.item.Item.TheVariants as items
use Rattle.pipeline_eval.specs.Evaluation.{value_of}
use Rattle.pipeline_eval.proofs.operations.push_each.Given as goal

abbrev pub invariant-loop-expr : goal.invariant-loop-expr
invariant-loop-expr l =
    l.out.items ≡ l.fn.out.items ++ map (λ e. items.Datum (value_of e l.item)) (l.exprs.first ∷ take l.expr-index l.exprs.rest)
