use Rattle.std.proofs.Common.{◌≡◌, take}
use Rattle.std.specs.Option.{option_copied}
use Rattle.pipeline_eval.specs.Lists.{greatest}
use Rattle.pipeline_eval.proofs.ends.greatest.Given as goal

abbrev pub invariant-loop-item : goal.invariant-loop-item
invariant-loop-item l = option_copied l.best ≡ greatest (take l.item-index l.items)
