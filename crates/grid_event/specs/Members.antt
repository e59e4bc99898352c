-- Who is a member of a cluster, and which topologies are in force, as the events alone tell it. A past lists events, the newest first.
use Rattle.std.specs.Prelude.{ℕ, ◌==◌, Bool, true, false, not, nat_lt, ◌&&◌, ◌||◌, if◌then◌else◌, List, [], ◌∷◌, length}
use Rattle.std.specs.List.{filter, list_all, list_any, range_with_len}
use Rattle.grid_event.specs.declared.config.Config.{Config}
use Rattle.grid_event.specs.declared.event.Event.{Event}
use Rattle.grid_event.specs.declared.event.Event.TheVariants.{Join, Depart, Announce, Install}
use Rattle.hash_factory.specs.Formulas.{created}
use Rattle.topology_phase.specs.declared.phase.Phase.TheVariants.{NoRebalance}
use Rattle.topology_phase.specs.Topologies.{Topology, holders}

-- a node was ever a member: one of the first nodes, or a node that joined
abbrev pub was_member : Config → List Event → ℕ → Bool
was_member config [] node = nat_lt node config.nodes
was_member config (Join other ∷ past) node = (other == node) || was_member config past node
was_member config (_ ∷ past) node = was_member config past node

-- a node is live: one of the first nodes, or it joined; and it didn't depart since
abbrev pub is_live : Config → List Event → ℕ → Bool
is_live config [] node = nat_lt node config.nodes
is_live config (Join other ∷ past) node = (other == node) || is_live config past node
is_live config (Depart other ∷ past) node = not (other == node) && is_live config past node
is_live config (_ ∷ past) node = is_live config past node

-- the live nodes, ascending
abbrev pub live_members : Config → List Event → List ℕ
live_members config past = filter (is_live config past) (range_with_len 0 16)

-- the first topology: nothing moves, and the owners are those of the formula for the first nodes
abbrev pub opening_topology : Config → Topology
opening_topology config = record {
  id = 1;
  phase = NoRebalance;
  current = created (range_with_len 0 config.nodes) config.segments config.owners;
  pending = [];
}

-- the newest topology: the first one, or the one that was announced last
abbrev pub newest_topology : Config → List Event → Topology
newest_topology config [] = opening_topology config
newest_topology config (Announce topology ∷ past) = topology
newest_topology config (_ ∷ past) = newest_topology config past

-- the number of the topology that a live node has installed: the first one, the newest when it joined, or the one it installed last
abbrev pub installed_topology : Config → List Event → ℕ → ℕ
installed_topology config [] node = 1
installed_topology config (Join other ∷ past) node =
    if other == node then (newest_topology config past).id else installed_topology config past node
installed_topology config (Install other id ∷ past) node = if other == node then id else installed_topology config past node
installed_topology config (_ ∷ past) node = installed_topology config past node

-- the departure of a node loses a segment: a holder by the newest topology is live, and but for the node none is
abbrev pub loses_segment : Config → List Event → ℕ → ℕ → Bool
loses_segment config past node segment =
    list_any (is_live config past) (holders (newest_topology config past) segment)
    && not (list_any (λ other. is_live config past other && not (other == node)) (holders (newest_topology config past) segment))
