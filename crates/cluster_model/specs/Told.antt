-- What the events alone tell of a cluster. A past lists events, the newest first.
use Rattle.std.specs.Prelude.{◌≡◌, ℕ, ◌==◌, Bool, true, false, cond, if◌then◌else◌, List, [], ◌∷◌, Option, None, Some}
use Rattle.std.specs.FinMap as map_of
use Rattle.std.specs.FinSet as set_of
use Rattle.grid_base.specs.declared.stamped.Stamped.{Stamped}
use Rattle.segment_hash.specs.Segments.{segment_number}
use Rattle.topology_phase.specs.Topologies.{Topology}
use Rattle.topology_coord.specs.Coordination.{installed_id, lives}
use Rattle.grid_event.specs.declared.config.Config.{Config}
use Rattle.grid_event.specs.declared.event.Event.{Event}
use Rattle.grid_event.specs.declared.event.Event.TheVariants.{Announce}
use Rattle.grid_event.specs.Maps.{clock_of, entries_of}
use Rattle.grid_event.specs.Members.{installed_topology, is_live, newest_topology, opening_topology, was_member}
use Rattle.cluster_model.specs.State.{State}

-- what stands at each key of each segment
abbrev pub Contents : Type 0
Contents = ℕ → List ℕ → Option Stamped

-- the segment is the one that a key has
abbrev pub is_segment : Option ℕ → ℕ → Bool
is_segment None segment = false
is_segment (Some other) segment = segment == other

-- the cluster's map, segment by segment: at a key of the segment what stands there, and nothing at other keys
abbrev pub contents_of : Config → List Event → Contents
contents_of config past segment key =
    cond (is_segment (segment_number config.partition config.segments key) segment) (map_of.get (entries_of config past) key) None

-- the topology that was announced with the number, or else the first one
abbrev pub topology_numbered : Config → List Event → ℕ → Topology
topology_numbered config [] id = opening_topology config
topology_numbered config (Announce topology ∷ past) id = if topology.id == id then topology else topology_numbered config past id
topology_numbered config (_ ∷ past) id = topology_numbered config past id

-- the topology that a live node has installed
abbrev pub installed_by : Config → List Event → ℕ → Topology
installed_by config past node = topology_numbered config past (installed_topology config past node)

-- what the events tell is what the cluster has: its settings, the live nodes, those that were ever members, the newest topology,
-- the topologies that live nodes have installed, and the clock
pub record IsTold (config : Config) (past : List Event) (st : State) : Type 0 where
  pub settings : st.holding.config ≡ config
  pub segments : st.calling.segments ≡ config.segments
  pub live : (node : ℕ) → lives st.holding.coord node ≡ is_live config past node
  pub member : (node : ℕ) → set_of.contains st.holding.coord.ever node ≡ was_member config past node
  pub newest : st.holding.coord.newest ≡ newest_topology config past
  pub installed : (node : ℕ) → lives st.holding.coord node ≡ true → installed_id st.holding.coord node ≡ installed_topology config past node
  pub newest_numbered : topology_numbered config past st.holding.coord.newest.id ≡ st.holding.coord.newest
  pub before_numbered : topology_numbered config past st.holding.coord.before.id ≡ st.holding.coord.before
  pub clock : st.holding.copying.clock ≡ clock_of past
