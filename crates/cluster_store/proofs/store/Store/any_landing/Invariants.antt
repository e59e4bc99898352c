-- No node before the place has one.
use Rattle.std.proofs.Common.{◌≡◌, drop}
use Rattle.topology_coord.specs.Coordination.{live_nodes}
use Rattle.cluster_model.specs.Commands.{land_event, first_some}
use Rattle.cluster_model.specs.State.{segments_of}
use Rattle.cluster_store.proofs.store.Store.any_landing.Given as goal

abbrev pub invariant-loop-place : goal.invariant-loop-place
invariant-loop-place l =
    first_some (λ node. first_some (land_event l.self node) (segments_of l.self)) (drop l.place l.nodes)
    ≡ first_some (λ node. first_some (land_event l.self node) (segments_of l.self)) (live_nodes l.self.coord)
