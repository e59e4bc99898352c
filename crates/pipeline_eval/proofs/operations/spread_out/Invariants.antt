use Rattle.std.proofs.Common.{◌≡◌, take}
use Rattle.std.specs.List.{flat_map}
use Rattle.pipeline_eval.specs.Pipes.{spread_items}
use Rattle.pipeline_eval.proofs.operations.spread_out.Given as goal

abbrev pub invariant-loop-item : goal.invariant-loop-item
invariant-loop-item l = l.made.items ≡ flat_map (spread_items l.spread) (take l.item-index l.items)
