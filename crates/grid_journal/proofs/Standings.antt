-- What stands after a past says what the past says.
use Rattle.std.proofs.Common.{◌≡◌, ℕ, ◌+◌, ◌==◌, Bool, true, false, cond, not, nat_lt, ◌&&◌, ◌||◌, if◌then◌else◌, List, [], ◌∷◌, length, Option, Some, None, unwrap_or, refl, sym, ap, ◌∙◌}
use Rattle.std.proofs.lemmas.Bool.{eqb-true}
use Rattle.std.specs.Cmp.{nat_cmp_total, unsigned_tied, nat_eq_equiv}
use Rattle.std.specs.FinMap as map_of
use Rattle.std.specs.List.{filter, list_any, range_with_len}
use Rattle.std.specs.Ordering.{nat_cmp}
use Rattle.grid_event.specs.declared.call_events.Ask.{Ask}
use Rattle.grid_event.specs.declared.config.Config.{Config}
use Rattle.grid_event.specs.declared.event.Event.{Event}
use Rattle.grid_event.specs.declared.event.Event.TheVariants.{Write, Erase, Tick, Join, Depart, Announce, Install, Copy, Land, Invoke, Round, Begin, Scan, Fetch, Take, Done, Answer}
use Rattle.grid_event.specs.Maps.{clock_of, entries_of}
use Rattle.grid_event.specs.Maps as maps
use Rattle.grid_event.specs.Members.{is_live, live_members, loses_segment, newest_topology}
use Rattle.segment_hash.specs.Segments.{segment_number}
use Rattle.topology_phase.specs.Topologies.{holders}
use Rattle.grid_event.specs.UnitHistories.{asker_of}
use Rattle.grid_journal.specs.Briefs.{given_of, given_to}
use Rattle.grid_journal.specs.Standing.{Table, askers_of, gifts_of, loses, loses_key, loses_of, membership_of, moves_of, standing_members, standing_of, standing_topology, stands_live, with_asks, with_items, with_one}

-- a table that is changed at one number
at_insert : {V : Type 0} (table : Table V) (k : ℕ) (v : V) (q : ℕ) → map_of.get (map_of.insert table k v) q ≡ cond (k == q) (Some v) (map_of.get table q)
at_insert table k v q =
    map_of.get-insert nat_cmp_total table k v q
    ∙ ap (λ b. cond b (Some v) (map_of.get table q)) (unsigned_tied q k ∙ nat_eq_equiv.symm q k)

-- a node that joined lives
joined_live : (b : Bool) (found : Option Bool) (first live : Bool) → unwrap_or found first ≡ live → unwrap_or (cond b (Some true) found) first ≡ (b || live)
joined_live true found first live h = refl
joined_live false found first live h = h

-- and one that departed doesn't
departed_live : (b : Bool) (found : Option Bool) (first live : Bool) → unwrap_or found first ≡ live → unwrap_or (cond b (Some false) found) first ≡ (not b && live)
departed_live true found first live h = refl
departed_live false found first live h = h

-- the nodes that moved last, and the first nodes, are the live ones
moved_live : (config : Config) (past : List Event) (node : ℕ) → unwrap_or (map_of.get (moves_of past) node) (nat_lt node config.nodes) ≡ is_live config past node
moved_live config [] node = ap (λ found. unwrap_or found (nat_lt node config.nodes)) (map_of.get-empty nat_cmp node)
moved_live config (Join other ∷ past) node =
    ap (λ found. unwrap_or found (nat_lt node config.nodes)) (at_insert (moves_of past) other true node)
    ∙ joined_live (other == node) (map_of.get (moves_of past) node) (nat_lt node config.nodes) (is_live config past node) (moved_live config past node)
moved_live config (Depart other ∷ past) node =
    ap (λ found. unwrap_or found (nat_lt node config.nodes)) (at_insert (moves_of past) other false node)
    ∙ departed_live (other == node) (map_of.get (moves_of past) node) (nat_lt node config.nodes) (is_live config past node) (moved_live config past node)
moved_live config (Write e ∷ past) node = moved_live config past node
moved_live config (Erase e ∷ past) node = moved_live config past node
moved_live config (Tick ticks ∷ past) node = moved_live config past node
moved_live config (Announce topology ∷ past) node = moved_live config past node
moved_live config (Install other id ∷ past) node = moved_live config past node
moved_live config (Copy e ∷ past) node = moved_live config past node
moved_live config (Land receiver segment ∷ past) node = moved_live config past node
moved_live config (Invoke e ∷ past) node = moved_live config past node
moved_live config (Round e ∷ past) node = moved_live config past node
moved_live config (Begin unit runs ∷ past) node = moved_live config past node
moved_live config (Scan e ∷ past) node = moved_live config past node
moved_live config (Fetch e ∷ past) node = moved_live config past node
moved_live config (Take e ∷ past) node = moved_live config past node
moved_live config (Done unit ∷ past) node = moved_live config past node
moved_live config (Answer e ∷ past) node = moved_live config past node

-- who is live
live_stands : (config : Config) (past : List Event) → stands_live (membership_of config past) ≡ is_live config past
unfolding membership_of
live_stands config past = λ i node. moved_live config past node i

-- the live nodes
pub members_stand : (config : Config) (past : List Event) → standing_members (membership_of config past) ≡ live_members config past
members_stand config past = λ i. filter (live_stands config past i) (range_with_len 0 16)

-- the newest topology
pub topology_stands : (config : Config) (past : List Event) → standing_topology (membership_of config past) ≡ newest_topology config past
unfolding membership_of
topology_stands config [] = refl
topology_stands config (Announce topology ∷ past) = refl
topology_stands config (Write e ∷ past) = topology_stands config past
topology_stands config (Erase e ∷ past) = topology_stands config past
topology_stands config (Tick ticks ∷ past) = topology_stands config past
topology_stands config (Join node ∷ past) = topology_stands config past
topology_stands config (Depart node ∷ past) = topology_stands config past
topology_stands config (Install other id ∷ past) = topology_stands config past
topology_stands config (Copy e ∷ past) = topology_stands config past
topology_stands config (Land receiver segment ∷ past) = topology_stands config past
topology_stands config (Invoke e ∷ past) = topology_stands config past
topology_stands config (Round e ∷ past) = topology_stands config past
topology_stands config (Begin unit runs ∷ past) = topology_stands config past
topology_stands config (Scan e ∷ past) = topology_stands config past
topology_stands config (Fetch e ∷ past) = topology_stands config past
topology_stands config (Take e ∷ past) = topology_stands config past
topology_stands config (Done unit ∷ past) = topology_stands config past
topology_stands config (Answer e ∷ past) = topology_stands config past

-- what a departure loses
losses_stand : (config : Config) (past : List Event) (node segment : ℕ) → loses (membership_of config past) node segment ≡ loses_segment config past node segment
losses_stand config past node segment = λ i.
    list_any (live_stands config past i) (holders (topology_stands config past i) segment)
    && not (list_any (λ other. live_stands config past i other && not (other == node)) (holders (topology_stands config past i) segment))

-- what a departure loses is what the past says
lost_of : (config : Config) (past : List Event) (node : ℕ) (segment : Option ℕ) → loses_of (membership_of config past) node segment ≡ maps.loses_key config past node segment
lost_of config past node None = refl
lost_of config past node (Some segment) = losses_stand config past node segment

-- the keys that a departure loses
lost_keys : (config : Config) (past : List Event) (node : ℕ) (key : List ℕ)
    → loses_key (membership_of config past) node key ≡ maps.loses_key config past node (segment_number config.partition config.segments key)
unfolding membership_of
lost_keys config past node key = lost_of config past node (segment_number config.partition config.segments key)

-- one event more
pub one_more : (config : Config) (past : List Event) (event : Event) → standing_of config (event ∷ past) ≡ with_one (standing_of config past) event
unfolding standing_of membership_of entries_of
one_more config past (Write e) = refl
one_more config past (Erase e) = refl
one_more config past (Tick ticks) = refl
one_more config past (Join node) = refl
one_more config past (Depart node) =
    ap (λ test. record (standing_of config (Depart node ∷ past)) { keys = map_of.retain_keys (entries_of config past) test })
    (λ i key. not (sym (lost_keys config past node key) i))
one_more config past (Announce topology) = refl
one_more config past (Install other id) = refl
one_more config past (Copy e) = refl
one_more config past (Land receiver segment) = refl
one_more config past (Invoke e) = refl
one_more config past (Round e) = refl
one_more config past (Begin unit runs) = refl
one_more config past (Scan e) = refl
one_more config past (Fetch e) = refl
one_more config past (Take e) = refl
one_more config past (Done unit) = refl
one_more config past (Answer e) = refl

-- a unit's asker is that of its ask
one_asker : (a b : Bool) (call : ℕ) (found : Option ℕ) → (if b then Some call else cond a (Some call) found) ≡ (if a || b then Some call else found)
one_asker true true call found = refl
one_asker true false call found = refl
one_asker false true call found = refl
one_asker false false call found = refl

-- the asker of each unit of a round is the round's call
asked_for : (call : ℕ) (asks : List Ask) (askers : Table ℕ) (unit : ℕ)
    → map_of.get (with_asks call asks askers) unit ≡ (if list_any (λ (ask : Ask). ask.unit == unit) asks then Some call else map_of.get askers unit)
asked_for call [] askers unit = refl
asked_for call (ask ∷ asks) askers unit =
    asked_for call asks (map_of.insert askers ask.unit call) unit
    ∙ ap (λ found. if list_any (λ (other : Ask). other.unit == unit) asks then Some call else found) (at_insert askers ask.unit call unit)
    ∙ one_asker (ask.unit == unit) (list_any (λ (other : Ask). other.unit == unit) asks) call (map_of.get askers unit)

-- the call that asked for a unit
askers_stand : (past : List Event) (unit : ℕ) → map_of.get (askers_of past) unit ≡ asker_of past unit
askers_stand [] unit = map_of.get-empty nat_cmp unit
askers_stand (Round round ∷ past) unit =
    asked_for round.call round.asks (askers_of past) unit
    ∙ ap (λ found. if list_any (λ (ask : Ask). ask.unit == unit) round.asks then Some round.call else found) (askers_stand past unit)
askers_stand (Write e ∷ past) unit = askers_stand past unit
askers_stand (Erase e ∷ past) unit = askers_stand past unit
askers_stand (Tick ticks ∷ past) unit = askers_stand past unit
askers_stand (Join node ∷ past) unit = askers_stand past unit
askers_stand (Depart node ∷ past) unit = askers_stand past unit
askers_stand (Announce topology ∷ past) unit = askers_stand past unit
askers_stand (Install other id ∷ past) unit = askers_stand past unit
askers_stand (Copy e ∷ past) unit = askers_stand past unit
askers_stand (Land receiver segment ∷ past) unit = askers_stand past unit
askers_stand (Invoke e ∷ past) unit = askers_stand past unit
askers_stand (Begin other runs ∷ past) unit = askers_stand past unit
askers_stand (Scan e ∷ past) unit = askers_stand past unit
askers_stand (Fetch e ∷ past) unit = askers_stand past unit
askers_stand (Take e ∷ past) unit = askers_stand past unit
askers_stand (Done other ∷ past) unit = askers_stand past unit
askers_stand (Answer e ∷ past) unit = askers_stand past unit

-- a choice of a number, or of what stands, by one test
if_same : (b : Bool) (found : Option ℕ) (more : ℕ) → unwrap_or (cond b (Some more) found) 0 ≡ (if b then more else unwrap_or found 0)
if_same true found more = refl
if_same false found more = refl

-- numbers that are equal where a test passes may stand for each other there
where_same : (b : Bool) (m n other : ℕ) → (b ≡ true → m ≡ n) → (if b then m else other) ≡ (if b then n else other)
where_same true m n other same = same refl
where_same false m n other same = refl

-- the items of the unit's call are those of the call
same_call : (asker call : ℕ) (given : Table ℕ) (items : ℕ)
    → (if asker == call then unwrap_or (map_of.get given asker) 0 + items else unwrap_or (map_of.get given call) 0)
    ≡ (if asker == call then unwrap_or (map_of.get given call) 0 + items else unwrap_or (map_of.get given call) 0)
same_call asker call given items =
    where_same (asker == call) _ _ _ (λ same. ap (λ number. unwrap_or (map_of.get given number) 0 + items) (eqb-true asker call same))

-- with more items a call has been given as many more
more_given : (call : ℕ) (asker : Option ℕ) (items : ℕ) (given : Table ℕ) (before : ℕ) → unwrap_or (map_of.get given call) 0 ≡ before
    → unwrap_or (map_of.get (with_items asker items given) call) 0 ≡ given_to call asker items before
more_given call None items given before h = h
more_given call (Some asker) items given before h =
    ap (λ found. unwrap_or found 0) (at_insert given asker (unwrap_or (map_of.get given asker) 0 + items) call)
    ∙ if_same (asker == call) (map_of.get given call) (unwrap_or (map_of.get given asker) 0 + items)
    ∙ same_call asker call given items
    ∙ ap (λ count. if asker == call then count + items else count) h

-- how many items the user of a call was given
pub gifts_stand : (past : List Event) (call : ℕ) → unwrap_or (map_of.get (gifts_of past) call) 0 ≡ given_of past call
gifts_stand [] call = ap (λ found. unwrap_or found 0) (map_of.get-empty nat_cmp call)
gifts_stand (Take take ∷ past) call =
    more_given call (map_of.get (askers_of past) take.unit) (length take.given) (gifts_of past) (given_of past call) (gifts_stand past call)
    ∙ ap (λ asker. given_to call asker (length take.given) (given_of past call)) (askers_stand past take.unit)
gifts_stand (Write e ∷ past) call = gifts_stand past call
gifts_stand (Erase e ∷ past) call = gifts_stand past call
gifts_stand (Tick ticks ∷ past) call = gifts_stand past call
gifts_stand (Join node ∷ past) call = gifts_stand past call
gifts_stand (Depart node ∷ past) call = gifts_stand past call
gifts_stand (Announce topology ∷ past) call = gifts_stand past call
gifts_stand (Install other id ∷ past) call = gifts_stand past call
gifts_stand (Copy e ∷ past) call = gifts_stand past call
gifts_stand (Land receiver segment ∷ past) call = gifts_stand past call
gifts_stand (Invoke e ∷ past) call = gifts_stand past call
gifts_stand (Round e ∷ past) call = gifts_stand past call
gifts_stand (Begin unit runs ∷ past) call = gifts_stand past call
gifts_stand (Scan e ∷ past) call = gifts_stand past call
gifts_stand (Fetch e ∷ past) call = gifts_stand past call
gifts_stand (Done unit ∷ past) call = gifts_stand past call
gifts_stand (Answer e ∷ past) call = gifts_stand past call
