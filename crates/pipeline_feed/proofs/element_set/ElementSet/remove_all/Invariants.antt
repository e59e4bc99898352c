use Rattle.std.proofs.Common.{◌≡◌, take}
use Rattle.std.specs.FinSet as set
use Rattle.pipeline_feed.proofs.element_set.ElementSet.remove_all.Given as goal

abbrev pub invariant-loop-item : goal.invariant-loop-item
invariant-loop-item l = l.self ≡ set.difference l.fn.self (set.from_list (take l.item-index l.items))
