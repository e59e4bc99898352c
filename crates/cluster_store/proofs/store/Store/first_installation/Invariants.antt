-- No node before the place lacks the newest topology.
use Rattle.std.proofs.Common.{◌≡◌, drop}
use Rattle.topology_coord.specs.Coordination.{live_nodes}
use Rattle.cluster_model.specs.Commands.{first_some, install_event}
use Rattle.cluster_store.proofs.store.Store.first_installation.Given as goal

abbrev pub invariant-loop-place : goal.invariant-loop-place
invariant-loop-place l = first_some (install_event l.self) (drop l.place l.nodes) ≡ first_some (install_event l.self) (live_nodes l.self.coord)
