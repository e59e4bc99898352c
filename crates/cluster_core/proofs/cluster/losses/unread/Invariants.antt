-- The segments so far that the node doesn't read.
use Rattle.std.proofs.Common.{not}
use Rattle.topology_coord.proofs.SoFar.{IsSoFar}
use Rattle.topology_phase.specs.Owners.{among}
use Rattle.topology_phase.specs.Topologies.{read_owners}
use Rattle.cluster_core.proofs.cluster.losses.unread.Given as goal

abbrev pub invariant-loop-number : goal.invariant-loop-number
invariant-loop-number l = IsSoFar (λ q. not (among l.node (read_owners l.store.coord.newest q))) l.number l.unread
