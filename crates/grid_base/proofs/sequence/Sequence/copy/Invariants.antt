use Rattle.std.proofs.Common.{◌≡◌, take}
use Rattle.grid_base.proofs.sequence.Sequence.copy.Given as goal

abbrev pub invariant-loop-item : goal.invariant-loop-item
invariant-loop-item g l = l.copied.items ≡ take l.item-index l.self.list
