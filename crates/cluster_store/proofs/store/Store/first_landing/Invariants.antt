-- No segment before this one has a landing.
use Rattle.std.proofs.Common.{◌≡◌, drop}
use Rattle.cluster_model.specs.Commands.{first_some, land_event}
use Rattle.cluster_model.specs.State.{segments_of}
use Rattle.cluster_store.proofs.store.Store.first_landing.Given as goal

abbrev pub invariant-loop-number : goal.invariant-loop-number
invariant-loop-number l = first_some (land_event l.self l.node) (drop l.number (segments_of l.self)) ≡ first_some (land_event l.self l.node) (segments_of l.self)
