-- Which topology is next.
use Rattle.std.specs.Prelude.{ℕ, ◌+◌, ◌==◌, Bool, not, ◌&&◌, ◌||◌, if◌then◌else◌, Option, None, Some}
use Rattle.grid_base.specs.declared.limits.TheConstants.{LAST_TOPOLOGY}
use Rattle.hash_factory.specs.Formulas.{created}
use Rattle.hash_factory.specs.Least.{least}
use Rattle.topology_phase.specs.Aims.{by_aim}
use Rattle.topology_phase.specs.Owners.{Hash, among, owners_at}
use Rattle.topology_phase.specs.declared.phase.Phase.TheVariants.{NoRebalance, ReadOld, ReadAll, ReadNew}
use Rattle.topology_phase.specs.Phases.{by_phase, same_phase}
use Rattle.topology_phase.specs.Topologies.{Topology, same_hash}
use Rattle.topology_phase.specs.Following.{cancelled, completed, in_phase, names_departed, repaired}
use Rattle.topology_coord.specs.Coordination.{Coordination, all_installed, live_nodes, lives, segment_count}

-- the hash that a rebalance leads to: the one that is created for the live nodes, or the one that balances them and moves least
unfoldable pub aimed : Coordination → Hash
aimed c = by_aim c.aim (created (live_nodes c) (segment_count c) c.owners) (least (live_nodes c) c.owners c.newest.current)

-- a node is to receive a segment: it lives, and will own the segment without owning it yet, in the first phase of a rebalance
abbrev pub receives : Coordination → ℕ → ℕ → Bool
receives c node segment =
    same_phase c.newest.phase ReadOld
    && (lives c node && (among node (owners_at c.newest.pending segment) && not (among node (owners_at c.newest.current segment))))

-- a rebalance towards the aim begins: the current hash stays
abbrev pub rebalanced : Coordination → Topology
rebalanced c = record { id = c.newest.id + 1; phase = ReadOld; current = c.newest.current; pending = aimed c }

-- a topology may be next: every live node has installed the newest, and its number isn't the last
abbrev pub may_follow : Coordination → Bool
may_follow c = all_installed c && not (c.newest.id == LAST_TOPOLOGY)

-- a hash of the newest topology names a departed node
abbrev pub needs_repair : Coordination → Bool
needs_repair c =
    names_departed (live_nodes c) c.newest.current || names_departed (live_nodes c) c.newest.pending

-- without repair, by the phase: a new rebalance where the owners aren't those aimed at; the cancellation of a
-- rebalance that leads elsewhere, else the next phase once all receivers have their copies; the next phase; the end
unfoldable pub unrepaired : Bool → Coordination → Option Topology
unrepaired copied c =
    by_phase c.newest.phase
    (if same_hash c.newest.current (aimed c) then None else Some (rebalanced c))
    (if not (same_hash c.newest.pending (aimed c)) then Some (cancelled c.newest) else if copied then Some (in_phase c.newest ReadAll) else None)
    (Some (in_phase c.newest ReadNew))
    (Some (completed c.newest))

-- the next topology, or none; `copied` says that all receivers have their copies
unfoldable pub following : Bool → Coordination → Option Topology
following copied c =
    if may_follow c
    then if needs_repair c then Some (repaired c.newest (live_nodes c)) else unrepaired copied c
    else None

-- a rebalance is given up by the next topology
abbrev pub cancels : Coordination → Topology → Bool
cancels c next = same_phase c.newest.phase ReadOld && same_phase next.phase NoRebalance
