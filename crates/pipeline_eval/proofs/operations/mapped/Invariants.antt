use Rattle.std.proofs.Common.{◌≡◌, map, take}
use Rattle.grid_base.specs.declared.item.Item.TheVariants as items
use Rattle.pipeline_eval.specs.Evaluation.{value_of}
use Rattle.pipeline_eval.proofs.operations.mapped.Given as goal

abbrev pub invariant-loop-item : goal.invariant-loop-item
invariant-loop-item l = l.made.items ≡ map (λ x. items.Datum (value_of l.expr x)) (take l.item-index l.items)
