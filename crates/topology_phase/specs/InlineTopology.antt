-- How a topology is held: its pending hash is there exactly in a rebalance.
use Rattle.std.specs.Prelude.{◌≡◌, [], not, Option, is_some}
use Rattle.std.specs.Option.{unwrap_or}
use Rattle.topology_phase.specs.Owners.{Hash}
use Rattle.topology_phase.specs.Phases.{NoRebalance, same_phase}
use Rattle.topology_phase.specs.Topologies.{Topology, IsTopology}
use Rattle.topology_phase.specs.declared.topology.Topology.TheInside.{Inside}

-- a missing pending hash is seen as one without segments
abbrev pub hash_or_none : Option Hash → Hash
hash_or_none pending = unwrap_or pending []

-- the topology that is held
abbrev pub topology_of : Inside → Topology
topology_of a = record { id = a.id; phase = a.phase; current = a.current; pending = hash_or_none a.pending }

-- a pending hash is there exactly in a rebalance, and the rest is what each topology keeps
pub record HoldsTopology (a : Inside) : Type 0 where
  pub in_rebalance : is_some a.pending ≡ not (same_phase a.phase NoRebalance)
  pub kept : IsTopology (topology_of a)
