-- The segments so far that the node doesn't write are dropped.
use Rattle.std.proofs.Common.{◌≡◌, ◌&&◌, nat_lt, not}
use Rattle.state_transfer.specs.Leaving.{drops}
use Rattle.topology_phase.specs.Owners.{among}
use Rattle.topology_phase.specs.Topologies.{write_owners}
use Rattle.cluster_store.proofs.store.topologies.drop_unwritten.Given as goal

abbrev pub invariant-loop-number : goal.invariant-loop-number
invariant-loop-number l =
    l.copies ≡ record l.fn.copies { copying = drops l.node (λ s. nat_lt s l.number && not (among l.node (write_owners l.topology s))) l.fn.copies.copying }
