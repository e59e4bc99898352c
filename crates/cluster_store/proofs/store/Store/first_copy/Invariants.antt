-- No segment before this one has a copy.
use Rattle.std.proofs.Common.{◌≡◌, drop}
use Rattle.cluster_model.specs.Commands.{copy_event, first_some}
use Rattle.cluster_model.specs.State.{segments_of}
use Rattle.cluster_store.proofs.store.Store.first_copy.Given as goal

abbrev pub invariant-loop-number : goal.invariant-loop-number
invariant-loop-number l = first_some (copy_event l.self l.node) (drop l.number (segments_of l.self)) ≡ first_some (copy_event l.self l.node) (segments_of l.self)
