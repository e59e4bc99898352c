-- The nodes so far are there, and hold nothing.
use Rattle.std.proofs.Common.{◌≡◌}
use Rattle.std.specs.FinSet as set_of
use Rattle.std.specs.List.{range_with_len}
use Rattle.state_transfer.specs.Copying.{nothing_held}
use Rattle.cluster_store.proofs.store.first_copies.Given as goal

abbrev pub invariant-loop-number : goal.invariant-loop-number
invariant-loop-number l = l.copies ≡ record { nodes = set_of.from_list (range_with_len 0 l.number); copying = nothing_held }
