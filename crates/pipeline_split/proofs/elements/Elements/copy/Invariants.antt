use Rattle.std.proofs.Common.{◌≡◌, take}
use Rattle.pipeline_split.proofs.elements.Elements.copy.Given as goal

abbrev pub invariant-loop-item : goal.invariant-loop-item
invariant-loop-item l = l.copied.items ≡ take l.item-index l.item-items
