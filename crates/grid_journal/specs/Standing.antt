-- What stands after a past: the tables that the events so far have made, and how one event more changes them. A past lists events, the newest first.
use Rattle.std.specs.Prelude.{ℕ, ◌+◌, ◌==◌, Bool, true, false, not, nat_lt, ◌&&◌, Option, None, Some, List, [], ◌∷◌, length}
use Rattle.std.specs.FinMap as map_of
use Rattle.std.specs.List.{filter, list_any, range_with_len}
use Rattle.std.specs.Option.{unwrap_or}
use Rattle.std.specs.Ordering.{nat_cmp}
use Rattle.grid_event.specs.declared.call_events.Ask.{Ask}
use Rattle.grid_event.specs.declared.config.Config.{Config}
use Rattle.grid_event.specs.declared.event.Event.{Event}
use Rattle.grid_event.specs.declared.event.Event.TheVariants.{Write, Erase, Tick, Join, Depart, Announce, Round, Take, Answer}
use Rattle.grid_event.specs.Maps.{clock_of, entries_of, stays}
use Rattle.grid_event.specs.Members.{opening_topology}
use Rattle.segment_hash.specs.Segments.{segment_number}
use Rattle.topology_phase.specs.declared.phase.Phase.TheVariants.{NoRebalance}
use Rattle.topology_phase.specs.Topologies.{Topology, holders}
use Rattle.grid_journal.specs.Briefs.{outcomes_of}
use Rattle.grid_journal.specs.Rebalances.{least_line}
use Rattle.grid_journal.specs.declared.membership.Membership.{Membership}
use Rattle.grid_journal.specs.declared.standing.Standing.{Standing}

-- a table by numbers
abbrev pub Table : Type 0 → Type 0
Table V = map_of.FinMap nat_cmp V

-- the nodes that joined last (true) or departed last (false)
abbrev pub moves_of : List Event → Table Bool
moves_of [] = map_of.empty
moves_of (Join node ∷ past) = map_of.insert (moves_of past) node true
moves_of (Depart node ∷ past) = map_of.insert (moves_of past) node false
moves_of (_ ∷ past) = moves_of past

-- the topology that was announced last
abbrev pub announced_of : List Event → Option Topology
announced_of [] = None
announced_of (Announce topology ∷ past) = Some topology
announced_of (_ ∷ past) = announced_of past

-- the call asks for these units
abbrev pub with_asks : ℕ → List Ask → Table ℕ → Table ℕ
with_asks call [] askers = askers
with_asks call (ask ∷ asks) askers = with_asks call asks (map_of.insert askers ask.unit call)

-- the call that asked for each unit
abbrev pub askers_of : List Event → Table ℕ
askers_of [] = map_of.empty
askers_of (Round round ∷ past) = with_asks round.call round.asks (askers_of past)
askers_of (_ ∷ past) = askers_of past

-- so many items more for the user of a call, where there is one
abbrev pub with_items : Option ℕ → ℕ → Table ℕ → Table ℕ
with_items None items given = given
with_items (Some call) items given = map_of.insert given call (unwrap_or (map_of.get given call) 0 + items)

-- how many items the user of each call was given
abbrev pub gifts_of : List Event → Table ℕ
gifts_of [] = map_of.empty
gifts_of (Take take ∷ past) = with_items (map_of.get (askers_of past) take.unit) (length take.given) (gifts_of past)
gifts_of (_ ∷ past) = gifts_of past

-- who moved in or out, and the newest topology
unfoldable pub membership_of : Config → List Event → Membership
membership_of config past = record {
  config = config;
  first = (opening_topology config).current;
  newest = announced_of past;
  moves = moves_of past;
}

-- all that stands after a past
unfoldable pub standing_of : Config → List Event → Standing
standing_of config past = record {
  membership = membership_of config past;
  clock = clock_of past;
  keys = entries_of config past;
  askers = askers_of past;
  given = gifts_of past;
  outcomes = outcomes_of past;
}

-- the node is live: it joined or departed last, or is one of the first nodes
abbrev pub stands_live : Membership → ℕ → Bool
stands_live m node = unwrap_or (map_of.get m.moves node) (nat_lt node m.config.nodes)

-- the live nodes, ascending
abbrev pub standing_members : Membership → List ℕ
standing_members m = filter (stands_live m) (range_with_len 0 16)

-- the topology that was announced last, or the first one
abbrev pub standing_topology : Membership → Topology
standing_topology m = unwrap_or m.newest (record { id = 1; phase = NoRebalance; current = m.first; pending = [] })

-- the departure of a node loses a segment
abbrev pub loses : Membership → ℕ → ℕ → Bool
loses m node segment =
    list_any (stands_live m) (holders (standing_topology m) segment)
    && not (list_any (λ other. stands_live m other && not (other == node)) (holders (standing_topology m) segment))

-- the segment of a key, where it has one, is lost
abbrev pub loses_of : Membership → ℕ → Option ℕ → Bool
loses_of m node None = false
loses_of m node (Some segment) = loses m node segment

-- the departure of a node loses a key
abbrev pub loses_key : Membership → ℕ → List ℕ → Bool
loses_key m node key = loses_of m node (segment_number m.config.partition m.config.segments key)

-- a node moves in or out
abbrev pub with_move : Membership → ℕ → Bool → Membership
with_move m node live = record m { moves = map_of.insert m.moves node live }

-- a node departs, and the keys that this loses are gone
abbrev pub with_departed : Standing → ℕ → Standing
with_departed s node = record s {
  membership = with_move s.membership node false;
  keys = map_of.retain_keys s.keys (λ key. not (loses_key s.membership node key));
}

-- the clock goes on, and the keys whose deadline it reaches are gone
abbrev pub with_ticks : Standing → ℕ → Standing
with_ticks s ticks = record s {
  clock = s.clock + ticks;
  keys = map_of.retain_keys s.keys (λ key. stays (s.clock + ticks) (map_of.get s.keys key));
}

-- who moves by one event more, and the topology that it announces
abbrev pub with_member : Membership → Event → Membership
with_member m (Join node) = with_move m node true
with_member m (Depart node) = with_move m node false
with_member m (Announce topology) = record m { newest = Some topology }
with_member m _ = m

-- the line of an event that begins a rebalance
abbrev pub event_line : Membership → Event → List ℕ
event_line m (Announce topology) = least_line (standing_members m) (standing_topology m).phase topology
event_line m _ = []

-- one event more
abbrev pub with_one : Standing → Event → Standing
with_one s (Write w) = record s { keys = map_of.insert s.keys w.key (record { value = w.value; until = w.until }) }
with_one s (Erase e) = record s { keys = map_of.remove s.keys e.key }
with_one s (Tick ticks) = with_ticks s ticks
with_one s (Join node) = record s { membership = with_move s.membership node true }
with_one s (Depart node) = with_departed s node
with_one s (Announce topology) = record s { membership = record s.membership { newest = Some topology } }
with_one s (Round round) = record s { askers = with_asks round.call round.asks s.askers }
with_one s (Take take) = record s { given = with_items (map_of.get s.askers take.unit) (length take.given) s.given }
with_one s (Answer answer) = record s { outcomes = map_of.insert s.outcomes answer.call answer.outcome }
with_one s _ = s
