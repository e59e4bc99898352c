use Rattle.std.proofs.Common.{◌≡◌, take}
use Rattle.pipeline_expr.proofs.lists.copy_list.Given as goal

abbrev pub invariant-loop-item : goal.invariant-loop-item
invariant-loop-item g l = (l.copied.items ≡ take l.item-index l.item-items) × (l.item-items ≡ l.list)
