-- Joins, departures, announcements and installations.
use Rattle.std.specs.Prelude.{ℕ, ◌==◌, Bool, true, false, not, ◌&&◌, ◌||◌, cond, List, [], ◌∷◌, map, Option, None, Some, is_none}
use Rattle.std.specs.List.{filter, list_all, list_any}
use Rattle.std.specs.FinMap as map_of
use Rattle.std.specs.FinSet as set_of
use Rattle.std.specs.Ordering.{nat_cmp}
use Rattle.delivery_mode.specs.Guarantee.{asks_again}
use Rattle.state_transfer.specs.Copying.{Copying, Transfer, has_ended, transfer_to}
use Rattle.state_transfer.specs.Leaving.{cancels, closes, drops, forgets, restarts}
use Rattle.topology_coord.specs.Changes.{announces, departs, installs, joins, may_depart, may_install, may_join}
use Rattle.topology_coord.specs.Coordination.{loses}
use Rattle.topology_coord.specs.Following.{following, receives}
use Rattle.topology_phase.specs.Owners.{among, owners_at}
use Rattle.topology_phase.specs.declared.phase.Phase.TheVariants.{ReadOld}
use Rattle.topology_phase.specs.Phases.{same_phase}
use Rattle.topology_phase.specs.Topologies.{Topology, read_owners, same_topology, write_owners}
use Rattle.cluster_model.specs.State.{Call, Calling, Holding, Unit, is_ended, is_on, is_open_unit, is_running, segments_of, with_loss}

-- a node that was never a member may join, up to number 15
unfoldable pub can_join : Holding → ℕ → Bool
can_join holding node = may_join holding.coord node

-- the node is live, with the newest topology; nothing else changes
unfoldable pub joined : Holding → ℕ → Holding
joined holding node = record holding { coord = joins holding.coord node }

-- a live node may depart that isn't the only one
unfoldable pub can_depart : Holding → ℕ → Bool
can_depart holding node = may_depart holding.coord node

-- a unit of the call on the segment has ended
abbrev pub is_complete : List Unit → ℕ → ℕ → Bool
is_complete units call segment = list_any (λ unit. is_on call segment unit && is_ended unit.work.state) units

-- these segments are noted too
abbrev pub all_noted : List ℕ → set_of.FinSet nat_cmp → set_of.FinSet nat_cmp
all_noted [] segments = segments
all_noted (segment ∷ others) segments = set_of.insert (all_noted others segments) segment

-- an unanswered call that asks again notes those of the lost segments that aren't complete for it
abbrev pub notes_losses : List Unit → List ℕ → ℕ → Call → Call
notes_losses units lost number call = record call {
  lost =
      cond (is_none call.outcome && asks_again call.request.guarantee)
      (all_noted (filter (λ segment. not (is_complete units number segment)) lost) call.lost) call.lost;
}

-- each call is changed by the function, which is told its number
abbrev pub changed_calls : (ℕ → Call → Call) → List (ℕ × Call) → map_of.FinMap nat_cmp Call
changed_calls change [] = map_of.empty
changed_calls change (call ∷ calls) = map_of.insert (changed_calls change calls) call.0 (change call.0 call.1)

unfoldable pub each_call : (ℕ → Call → Call) → map_of.FinMap nat_cmp Call → map_of.FinMap nat_cmp Call
each_call change calls = changed_calls change (map_of.entries calls)

-- what the departure of a node does to copies and transfers: the transfers to it go, and those that it provides and that haven't
-- ended, the lost segments are forgotten everywhere, and its copies go
abbrev pub left_by : Holding → ℕ → Copying
left_by holding node =
    drops node (λ segment. true) (forgets (loses holding.coord node) (restarts node (cancels node holding.copying)))

-- the node is gone with its copies, and so are the lost segments
unfoldable pub departed : Holding → ℕ → Holding
departed holding node = record holding { coord = departs holding.coord node; copying = left_by holding node }

-- a node departs: its open units are lost
abbrev pub with_departure : ℕ → Unit → Unit
with_departure node unit = cond (is_open_unit unit && (unit.work.node == node)) (with_loss None unit) unit

-- a node departs by which these segments are lost: its open units are lost, and unanswered calls that ask again note the losses
unfoldable pub lost_by_departure : ℕ → List ℕ → Calling → Calling
lost_by_departure node lost calling = record calling {
  units = map (with_departure node) calling.units;
  calls = each_call (notes_losses calling.units lost) calling.calls;
}

-- the transfer has ended
abbrev pub is_over : Option Transfer → Bool
is_over None = false
is_over (Some transfer) = has_ended transfer

-- every receiver of a segment has ended its transfer
abbrev pub all_copied : Holding → Bool
all_copied holding =
    list_all
    (λ segment.
    list_all (λ node. not (receives holding.coord node segment) || is_over (transfer_to holding.copying.transfers node segment))
    (owners_at holding.coord.newest.pending segment))
    (segments_of holding)

-- the next topology, or none
abbrev pub next_topology : Holding → Option Topology
next_topology holding = following (all_copied holding) holding.coord

abbrev pub is_that : Topology → Option Topology → Bool
is_that topology None = false
is_that topology (Some next) = same_topology topology next

-- the next topology may be announced, and no other
unfoldable pub can_announce : Holding → Topology → Bool
can_announce holding topology = is_that topology (next_topology holding)

-- the topology is the newest; all transfers go, unless its phase is the first one of a rebalance
unfoldable pub announced : Holding → Topology → Holding
announced holding topology = record holding {
  coord = announces holding.coord topology;
  copying = cond (same_phase topology.phase ReadOld) holding.copying (closes holding.copying);
}

-- a live node may install the newest topology, where it hasn't yet
unfoldable pub can_install : Holding → ℕ → ℕ → Bool
can_install holding node id = may_install holding.coord node id

-- the unit runs at the node, on a segment that the node doesn't read by the newest topology
abbrev pub ceases : Topology → ℕ → Unit → Bool
ceases newest node unit =
    is_running unit.work.state && ((unit.work.node == node) && not (among node (read_owners newest unit.work.segment)))

-- the node has the newest topology, and drops its copies of segments that it doesn't write
unfoldable pub installed : Holding → ℕ → ℕ → Holding
installed holding node id = record holding {
  coord = installs holding.coord node;
  copying = drops node (λ segment. not (among node (write_owners holding.coord.newest segment))) holding.copying;
}

-- a node installs the newest topology: its running units on segments that it doesn't read by it are lost
unfoldable pub lost_by_installation : Topology → ℕ → ℕ → Calling → Calling
lost_by_installation newest node id calling = record calling {
  units = map (λ unit. cond (ceases newest node unit) (with_loss (Some id) unit) unit) calling.units;
}
