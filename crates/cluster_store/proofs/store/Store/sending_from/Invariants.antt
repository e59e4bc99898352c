-- No chunk may be sent of the segments so far.
use Rattle.std.proofs.Common.{◌≡◌, ℕ, ◌<◌, ◌≤◌, None}
use Rattle.cluster_store.specs.Sending.{sender}
use Rattle.cluster_store.proofs.store.Store.sending_from.Given as goal

abbrev pub invariant-loop-number : goal.invariant-loop-number
invariant-loop-number l = (s : ℕ) → l.start ≤ s → s < l.number → sender l.self l.receiver s ≡ None
