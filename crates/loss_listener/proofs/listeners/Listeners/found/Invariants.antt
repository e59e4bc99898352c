use Rattle.std.proofs.Common.{◌≡◌, ℕ, nat_cmp}
use Rattle.std.specs.BTreeSet.{contains}
use Rattle.loss_listener.proofs.LostLaws.{is_lost_below}
use Rattle.loss_listener.proofs.listeners.Listeners.found.Given as goal

abbrev pub invariant-loop-number : goal.invariant-loop-number
invariant-loop-number l = (u : ℕ) → contains nat_cmp l.found u ≡ is_lost_below l.fn.self l.fn.node l.fn.segments l.number u
