-- When nodes departed and installed topologies, by the places of the events. A past lists events, the newest first; its newest
-- event has the place of its length, and place 0 is none.
use Rattle.std.specs.Prelude.{ℕ, suc, ◌+◌, ◌==◌, not, ◌&&◌, if◌then◌else◌, List, [], ◌∷◌, length}
use Rattle.grid_event.specs.Members.{newest_topology}
use Rattle.grid_event.specs.Spans.{invokes}
use Rattle.grid_event.specs.declared.config.Config.{Config}
use Rattle.grid_event.specs.declared.event.Event.{Event}
use Rattle.grid_event.specs.declared.event.Event.TheVariants.{Depart, Install}
use Rattle.topology_phase.specs.Owners.{among}
use Rattle.topology_phase.specs.Topologies.{read_owners}

-- the place at which a node departed last
abbrev pub departed_at : List Event → ℕ → ℕ
departed_at [] node = 0
departed_at (Depart other ∷ past) node = if other == node then suc (length past) else departed_at past node
departed_at (_ ∷ past) node = departed_at past node

-- the place at which a node last installed a topology by which it doesn't read the segment
abbrev pub unread_at : Config → List Event → ℕ → ℕ → ℕ
unread_at config [] node segment = 0
unread_at config (Install other id ∷ past) node segment =
    if (other == node) && not (among other (read_owners (newest_topology config past) segment))
    then suc (length past)
    else unread_at config past node segment
unread_at config (_ ∷ past) node segment = unread_at config past node segment

-- how many installations and departures there were
abbrev pub moves_of : List Event → ℕ
moves_of [] = 0
moves_of (Depart node ∷ past) = moves_of past + 1
moves_of (Install node id ∷ past) = moves_of past + 1
moves_of (_ ∷ past) = moves_of past

-- how many there were before the call was made
abbrev pub moves_before : List Event → ℕ → ℕ
moves_before [] call = 0
moves_before (event ∷ past) call = if invokes call event then moves_of past else moves_before past call
