-- What joins, departures, announcements and installations change for the coordinator.
use Rattle.std.specs.Prelude.{ℕ, ◌==◌, Bool, not, nat_lt, ◌&&◌, length}
use Rattle.std.specs.FinMap as map_of
use Rattle.std.specs.FinSet as set_of
use Rattle.grid_base.specs.declared.limits.TheConstants.{MOST_NODES}
use Rattle.topology_phase.specs.Topologies.{Topology}
use Rattle.topology_coord.specs.Coordination.{Coordination, installed_id, live_nodes, lives}

-- a node may join that was never a member, and whose number is at most 15
abbrev pub may_join : Coordination → ℕ → Bool
may_join c node = not (set_of.contains c.ever node) && nat_lt node MOST_NODES

-- the node is a member, and has installed the newest topology
unfoldable pub joins : Coordination → ℕ → Coordination
joins c node = record c {
  ever = set_of.insert c.ever node;
  installed = map_of.insert c.installed node c.newest.id;
}

-- a live node may depart that isn't the only one
abbrev pub may_depart : Coordination → ℕ → Bool
may_depart c node = lives c node && nat_lt 1 (length (live_nodes c))

-- the node lives no longer
unfoldable pub departs : Coordination → ℕ → Coordination
departs c node = record c { installed = map_of.remove c.installed node }

-- the topology is the newest, and the newest so far is the one before it
unfoldable pub announces : Coordination → Topology → Coordination
announces c next = record c { newest = next; before = c.newest }

-- a live node may install the newest topology, which has this number, where it hasn't yet
abbrev pub may_install : Coordination → ℕ → ℕ → Bool
may_install c node id = lives c node && (not (installed_id c node == c.newest.id) && (id == c.newest.id))

-- the node has installed the newest topology
unfoldable pub installs : Coordination → ℕ → Coordination
installs c node = record c { installed = map_of.insert c.installed node c.newest.id }
