-- What the rebalances of a history move. A past lists events, the newest first.
use Rattle.std.specs.Prelude.{ℕ, ◌&&◌, if◌then◌else◌, List, [], ◌∷◌, ◌++◌, codes, decimal, map}
use Rattle.std.specs.List.{join_with_byte}
use Rattle.grid_event.specs.declared.config.Config.{Config}
use Rattle.grid_event.specs.declared.event.Event.{Event}
use Rattle.grid_event.specs.declared.event.Event.TheVariants.{Announce}
use Rattle.grid_event.specs.Members.{live_members, newest_topology}
use Rattle.hash_factory.specs.Least.{load, moved}
use Rattle.topology_phase.specs.Aims.{by_aim}
use Rattle.topology_phase.specs.Owners.{Hash}
use Rattle.topology_phase.specs.Phases.{same_phase}
use Rattle.topology_phase.specs.Topologies.{Topology}
use Rattle.topology_phase.specs.declared.phase.Phase.{Phase}
use Rattle.topology_phase.specs.declared.phase.Phase.TheVariants.{NoRebalance, ReadOld}
use Rattle.grid_journal.specs.Reports.{line}
use Rattle.event_texts.specs.Words.{words}

-- a node with its loads by two hashes
unfoldable pub load_text : Hash → Hash → ℕ → List ℕ
load_text hash after node = decimal node ++ (58 ∷ (decimal (load hash node) ++ (62 ∷ decimal (load after node))))

-- the loads of nodes, with a comma between each two
abbrev pub loads_text : Hash → Hash → List ℕ → List ℕ
loads_text hash after nodes = join_with_byte 44 (map (load_text hash after) nodes)

-- a rebalance: its topology, how many primaries move, and the loads of the live nodes
unfoldable pub least_text : List ℕ → Topology → List ℕ
least_text live t = words (codes "least" ∷ decimal t.id ∷ decimal (moved t.current t.pending) ∷ loads_text t.current t.pending live ∷ [])

-- a line where the topology begins a rebalance
abbrev pub least_line : List ℕ → Phase → Topology → List ℕ
least_line live before t = if same_phase before NoRebalance && same_phase t.phase ReadOld then line (least_text live t) else []

-- the rebalances of a past, a line each
abbrev pub least_lines : Config → List Event → List ℕ
least_lines config [] = []
least_lines config (Announce t ∷ past) = least_lines config past ++ least_line (live_members config past) (newest_topology config past).phase t
least_lines config (_ ∷ past) = least_lines config past

-- they are told where the aim is the least hash
abbrev pub told_least : Config → List Event → List ℕ
told_least config past = by_aim config.aim [] (least_lines config past)
