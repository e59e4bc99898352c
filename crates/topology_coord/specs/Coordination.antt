-- What a coordinator knows of a cluster: its members, and the topologies in force.
use Rattle.std.specs.Prelude.{◌≡◌, ◌⊎◌, ℕ, ◌==◌, Bool, not, ◌&&◌, cond, List, [], map, length, Option, Some, find, unwrap_or}
use Rattle.std.specs.List.{filter, list_all, list_any, range_with_len}
use Rattle.std.specs.FinMap as map_of
use Rattle.std.specs.FinSet as set_of
use Rattle.std.specs.Ordering.{nat_cmp}
use Rattle.grid_base.specs.Nodes.{Nodes}
use Rattle.hash_factory.specs.Formulas.{created}
use Rattle.topology_phase.specs.declared.phase.Phase.TheVariants.{NoRebalance}
use Rattle.topology_phase.specs.declared.aim.Aim.{Aim}
use Rattle.topology_phase.specs.Topologies.{Topology, holders}

-- how many owners a segment is to have, and what a rebalance aims at; the nodes that were ever members; the live ones, each with the number
-- of the topology that it has installed; the newest topology, and the one before it
pub record Coordination : Type 0 where
  pub owners : ℕ
  pub aim : Aim
  pub ever : Nodes
  pub installed : map_of.FinMap nat_cmp ℕ
  pub newest : Topology
  pub before : Topology

-- the first topology: nothing moves, and the owners are those of the formula for the first nodes
abbrev pub first_topology : ℕ → ℕ → ℕ → Topology
first_topology nodes segments owners =
    record { id = 1; phase = NoRebalance; current = created (range_with_len 0 nodes) segments owners; pending = [] }

-- the first nodes, from 0 on, are live, and each has installed the first topology
abbrev pub first_installed : ℕ → map_of.FinMap nat_cmp ℕ
first_installed nodes = map_of.from_entries (map (λ node. (node, 1)) (range_with_len 0 nodes))

-- the start of a cluster of so many nodes, segments and owners, with this aim
unfoldable pub first_coordination : ℕ → ℕ → ℕ → Aim → Coordination
first_coordination nodes segments owners aim = record {
  owners = owners;
  aim = aim;
  ever = set_of.from_list (range_with_len 0 nodes);
  installed = first_installed nodes;
  newest = first_topology nodes segments owners;
  before = first_topology nodes segments owners;
}

-- a node is live
abbrev pub lives : Coordination → ℕ → Bool
lives c node = map_of.contains_key c.installed node

-- the live nodes, ascending
abbrev pub live_nodes : Coordination → List ℕ
live_nodes c = map_of.keys c.installed

-- the number of the topology that a live node has installed
abbrev pub installed_id : Coordination → ℕ → ℕ
installed_id c node = unwrap_or (map_of.get c.installed node) 0

-- the topology that a live node has installed: the newest, or the one before it
abbrev pub topology_of : Coordination → ℕ → Topology
topology_of c node = cond (installed_id c node == c.newest.id) c.newest c.before

-- each live node has installed one of the topologies of two numbers
abbrev pub HaveEither : map_of.FinMap nat_cmp ℕ → ℕ → ℕ → Type 0
HaveEither installed one other = (node id : ℕ) → map_of.get installed node ≡ Some id → (id ≡ one) ⊎ (id ≡ other)

-- every live node has installed the newest topology
abbrev pub all_installed : Coordination → Bool
all_installed c = list_all (λ node. installed_id c node == c.newest.id) (live_nodes c)

-- some of the nodes live, and the first of them that does
abbrev pub some_live : Coordination → List ℕ → Bool
some_live c nodes = list_any (lives c) nodes

abbrev pub first_live : Coordination → List ℕ → Option ℕ
first_live c nodes = find (lives c) nodes

-- the nodes of a list that live
abbrev pub live_of : Coordination → List ℕ → List ℕ
live_of c nodes = filter (lives c) nodes

-- the departure of a node loses a segment: a holder by the newest topology lives, and but for the node none does
unfoldable pub loses : Coordination → ℕ → ℕ → Bool
loses c node segment =
    some_live c (holders c.newest segment)
    && not (list_any (λ other. lives c other && not (other == node)) (holders c.newest segment))

-- how many segments there are
abbrev pub segment_count : Coordination → ℕ
segment_count c = length c.newest.current

-- the segments that the departure of a node loses, ascending
abbrev pub lost_segments : Coordination → ℕ → List ℕ
lost_segments c node = filter (loses c node) (range_with_len 0 (segment_count c))
