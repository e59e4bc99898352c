-- The event that a command chooses.
use Rattle.std.specs.Prelude.{ℕ, ◌+◌, ◌==◌, Bool, false, ◌&&◌, if◌then◌else◌, List, [], ◌∷◌, map, reverse, Option, None, Some, is_none}
use Rattle.std.specs.Option.{option_map, option_and_then}
use Rattle.std.specs.List.{filter, find, flat_map}
use Rattle.grid_base.specs.declared.entry.Entry.{Entry}
use Rattle.grid_event.specs.declared.command.Command.{Command}
use Rattle.grid_event.specs.declared.command.Command.TheVariants.{Put, Erase, Tick, Join, Depart, Announce, Install, Copy, Land, Call, Round, Begin, Scan, Fetch, Take, Done, Answer, Advance, Drive, Serve}
use Rattle.grid_event.specs.declared.event.Event.{Event}
use Rattle.grid_event.specs.declared.store_events.CopyEvent.{CopyEvent}
use Rattle.grid_event.specs.declared.event.Event.TheVariants as events
use Rattle.topology_coord.specs.Coordination.{installed_id, live_nodes}
use Rattle.topology_coord.specs.Following.{cancels}
use Rattle.topology_phase.specs.Topologies.{Topology}
use Rattle.cluster_model.specs.State.{Calling, Holding, State, Unit, call_of, goes_on, is_of, is_on, is_open_unit, segments_of, segments_read, unit_of}
use Rattle.cluster_model.specs.State as states
use Rattle.cluster_model.specs.Topologies.{can_announce, can_install, next_topology}
use Rattle.cluster_model.specs.Transfers.{can_copy, can_land, next_chunk_of, provider}
use Rattle.cluster_model.specs.Calls.{asks_of}
use Rattle.cluster_model.specs.Units.{further_items, next_batch, passing, reads, walks}
use Rattle.cluster_model.specs.Answers.{outcome_of}
use Rattle.cluster_model.specs.Step.{allowed}

-- the event, where the test passes
abbrev pub if_can : Bool → Event → Option Event
if_can test event = if test then Some event else None

-- the event, where it may happen
abbrev pub if_allowed : State → Event → Option Event
if_allowed st event = if_can (allowed st event) event

-- the event that there may be, where it may happen
abbrev pub if_any_allowed : State → Option Event → Option Event
if_any_allowed st None = None
if_any_allowed st (Some event) = if_allowed st event

-- the first that there is
abbrev pub or_else : {A : Type 0} → Option A → Option A → Option A
or_else None other = other
or_else (Some found) other = Some found

-- the first element for which there is one
abbrev pub first_some : {A B : Type 0} → (A → Option B) → List A → Option B
first_some f [] = None
first_some f (x ∷ xs) = or_else (f x) (first_some f xs)

-- the announcement of the topology, where it may happen
abbrev pub announce_with : Holding → Topology → Option Event
announce_with holding topology = if_can (can_announce holding topology) (events.Announce topology)

-- the announcement of the next topology
abbrev pub announce_event : Holding → Option Event
announce_event holding = option_and_then (announce_with holding) (next_topology holding)

-- the installation of the newest topology at a node
abbrev pub install_event : Holding → ℕ → Option Event
install_event holding node =
    if_can (can_install holding node holding.coord.newest.id) (events.Install node holding.coord.newest.id)

-- the copy of the next chunk of a segment to a receiver from a node
abbrev pub copy_of : Holding → ℕ → ℕ → ℕ → CopyEvent
copy_of holding receiver segment node =
    record { receiver = receiver; segment = segment; provider = node; batch = next_chunk_of holding receiver segment node }

abbrev pub copy_with : Holding → ℕ → ℕ → ℕ → Option Event
copy_with holding receiver segment node =
    if_can (can_copy holding (copy_of holding receiver segment node)) (events.Copy (copy_of holding receiver segment node))

-- the copy of the next chunk of a segment to a receiver
abbrev pub copy_event : Holding → ℕ → ℕ → Option Event
copy_event holding receiver segment = option_and_then (copy_with holding receiver segment) (provider holding receiver segment)

-- the landing of what flies of a segment to a receiver
abbrev pub land_event : Holding → ℕ → ℕ → Option Event
land_event holding receiver segment = if_can (can_land holding receiver segment) (events.Land receiver segment)

-- the next round of a call
abbrev pub round_with : State → ℕ → states.Call → Event
round_with st number call =
    events.Round (record { call = number; id = installed_id st.holding.coord call.originator; asks = asks_of st number call })

abbrev pub round_event : State → ℕ → Option Event
round_event st number = if_any_allowed st (option_map (round_with st number) (call_of st.calling number))

-- the answer of a call
abbrev pub answer_event : State → ℕ → Option Event
answer_event st number =
    if_any_allowed st
    (option_map (λ outcome. events.Answer (record { call = number; outcome = outcome })) (option_and_then (outcome_of st number) (call_of st.calling number)))

-- the beginning of a unit, which runs where its node reads its segment
abbrev pub begin_event : State → Unit → Option Event
begin_event st unit = if_allowed st (events.Begin unit.work.id (reads st.holding unit))

-- the reading of a unit's next batch, by a reduction and by a walk
abbrev pub scan_event : State → Unit → Option Event
scan_event st unit = if_allowed st (events.Scan (record { unit = unit.work.id; batch = next_batch st unit }))

abbrev pub fetch_event : State → Unit → Option Event
fetch_event st unit = if_allowed st (events.Fetch (record { unit = unit.work.id; batch = next_batch st unit }))

-- the taking of what flies of a unit
abbrev pub take_with : Unit → Option states.Call → Option (List Entry) → Option Event
take_with unit (Some call) (Some batch) =
    Some
    (events.Take
    (record { unit = unit.work.id; entries = passing call unit batch; given = further_items call (passing call unit batch) }))
take_with unit _ _ = None

abbrev pub take_event : State → Unit → Option Event
take_event st unit = if_any_allowed st (take_with unit (call_of st.calling unit.work.call) unit.flying)

-- the end of a unit
abbrev pub done_event : State → Unit → Option Event
done_event st unit = if_allowed st (events.Done unit.work.id)

-- the newest unit of a call on a segment
abbrev pub newest_in : List Unit → ℕ → ℕ → Option Unit
newest_in units call segment = find (is_on call segment) (reverse units)

abbrev pub newest_unit : Calling → ℕ → ℕ → Option Unit
newest_unit calling call segment = newest_in calling.units call segment

-- an event of the newest unit of a call on a segment
abbrev pub of_newest : (State → Unit → Option Event) → State → ℕ → ℕ → Option Event
of_newest event_of st call segment = option_and_then (event_of st) (newest_unit st.calling call segment)

-- the receivers and segments of the cluster, by receiver and then by segment
abbrev pub destinations : Holding → List (ℕ × ℕ)
destinations holding = flat_map (λ node. map (λ segment. (node, segment)) (segments_of holding)) (live_nodes holding.coord)

-- the announcement of the next topology, where it gives up the rebalance
abbrev pub cancel_with : Holding → Option Topology → Option Event
cancel_with holding None = None
cancel_with holding (Some next) = if cancels holding.coord next then announce_with holding next else None

abbrev pub cancel_event : Holding → Option Event
cancel_event holding = cancel_with holding (next_topology holding)

-- the first that there is: an installation at the least live node that lacks the newest topology; a cancellation; a landing, and
-- then a copy, of the least receiver and then the least segment; an announcement
unfoldable pub advance_event : Holding → Option Event
advance_event holding =
    or_else (first_some (install_event holding) (live_nodes holding.coord))
    (or_else (cancel_event holding)
    (or_else (first_some (λ d. land_event holding d.0 d.1) (destinations holding))
    (or_else (first_some (λ d. copy_event holding d.0 d.1) (destinations holding)) (announce_event holding))))

-- the open units of a call by ascending segment
abbrev pub open_units : Calling → ℕ → List Unit
open_units calling call =
    flat_map (λ segment. filter (λ unit. is_on call segment unit && is_open_unit unit) calling.units) (segments_read calling)

-- the first that there is of a unit for its call: take, done, scan, fetch, begin
abbrev pub unit_event : State → Unit → Option Event
unit_event st unit =
    or_else (take_event st unit)
    (or_else (done_event st unit) (or_else (scan_event st unit) (or_else (fetch_event st unit) (begin_event st unit))))

-- the call was made and isn't answered
abbrev pub is_unanswered : Option states.Call → Bool
is_unanswered None = false
is_unanswered (Some call) = is_none call.outcome

-- the first that there is for a call that isn't answered: its answer, an event of an open unit, a round, a topology step
unfoldable pub drive_event : State → ℕ → Option Event
drive_event st call =
    if is_unanswered (call_of st.calling call)
    then or_else (answer_event st call)
    (or_else (first_some (unit_event st) (open_units st.calling call)) (or_else (round_event st call) (advance_event st.holding)))
    else None

-- the open units at a node by ascending number
abbrev pub units_at : Calling → ℕ → List Unit
units_at calling node = filter (λ unit. is_open_unit unit && (unit.work.node == node)) calling.units

-- the first that there is of a unit for its node: done of a walk, scan, fetch, begin
abbrev pub served_event : State → Unit → Option Event
served_event st unit =
    or_else (if walks (call_of st.calling unit.work.call) then done_event st unit else None)
    (or_else (scan_event st unit) (or_else (fetch_event st unit) (begin_event st unit)))

-- the first that there is at a node: its installation; the landing, and then a copy, of its least segment; an event of an open unit
unfoldable pub serve_event : State → ℕ → Option Event
serve_event st node =
    or_else (install_event st.holding node)
    (or_else (first_some (land_event st.holding node) (segments_of st.holding))
    (or_else (first_some (copy_event st.holding node) (segments_of st.holding)) (first_some (served_event st) (units_at st.calling node))))

-- a write as said, which stands until the clock has gone on by its lifespan; the other commands by name
unfoldable pub chosen : State → Command → Option Event
chosen st (Put by_ node key datum lifespan) =
    if_allowed st
    (events.Write
    (record { by = by_; node = node; key = key; value = datum; until = option_map (λ ticks. st.holding.copying.clock + ticks) lifespan }))
chosen st (Erase by_ node key) = if_allowed st (events.Erase (record { by = by_; node = node; key = key }))
chosen st (Tick ticks) = if_allowed st (events.Tick ticks)
chosen st (Join node) = if_allowed st (events.Join node)
chosen st (Depart node) = if_allowed st (events.Depart node)
chosen st Announce = announce_event st.holding
chosen st (Install node) = install_event st.holding node
chosen st (Copy receiver segment) = copy_event st.holding receiver segment
chosen st (Land receiver segment) = land_event st.holding receiver segment
chosen st (Call by_ call node request) =
    if_allowed st (events.Invoke (record { by = by_; call = call; node = node; request = request }))
chosen st (Round call) = round_event st call
chosen st (Begin call segment) = of_newest begin_event st call segment
chosen st (Scan call segment) = of_newest scan_event st call segment
chosen st (Fetch call segment) = of_newest fetch_event st call segment
chosen st (Take call segment) = of_newest take_event st call segment
chosen st (Done call segment) = of_newest done_event st call segment
chosen st (Answer call) = answer_event st call
chosen st Advance = advance_event st.holding
chosen st (Drive call) = drive_event st call
chosen st (Serve node) = serve_event st node
