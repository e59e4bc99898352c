use Rattle.std.proofs.Common.{◌≡◌, ℕ, ◌-◌, length}
use Rattle.state_transfer.specs.Slots.{slot_at}
use Rattle.state_transfer.proofs.slots.grow.Given as goal

abbrev pub invariant-loop-slots : goal.invariant-loop-slots
invariant-loop-slots l = (n : ℕ) → slot_at l.slots.items n ≡ slot_at l.initial.slots.items n

abbrev pub decreases-loop-slots : goal.decreases-loop-slots
decreases-loop-slots l = 256 - length l.slots.items
