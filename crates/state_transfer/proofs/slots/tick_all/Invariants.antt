use Rattle.std.proofs.Common.{◌≡◌, ℕ, length}
use Rattle.state_transfer.specs.Slots.{ticked, slot_at}
use Rattle.state_transfer.proofs.SlotLaws.{so_far}
use Rattle.state_transfer.proofs.slots.tick_all.Given as goal

abbrev pub invariant-loop-at : goal.invariant-loop-at
invariant-loop-at l = record {
  same_length : length l.slots.items ≡ length l.fn.slots.items;
  changed : (n : ℕ) → slot_at l.slots.items n ≡ so_far (ticked l.clock) l.fn.slots.items l.at n;
}
