use Rattle.std.proofs.Common.{◌≡◌, take}
use Rattle.pipeline_eval.specs.Lists.{total}
use Rattle.pipeline_eval.specs.Values.{wrapped}
use Rattle.pipeline_eval.proofs.ends.sum.Given as goal

abbrev pub invariant-loop-item : goal.invariant-loop-item
invariant-loop-item l = l.sum ≡ wrapped (total (take l.item-index l.items))
