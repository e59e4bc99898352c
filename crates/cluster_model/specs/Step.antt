-- The cluster step: which events may happen, and what each changes.
use Rattle.std.specs.Prelude.{Bool, true, false, ◌&&◌, if◌then◌else◌, List, [], ◌∷◌, Option, None, Some}
use Rattle.grid_event.specs.declared.config.Config.{Config}
use Rattle.grid_event.specs.declared.event.Event.{Event}
use Rattle.grid_event.specs.declared.event.Event.TheVariants.{Write, Erase, Tick, Join, Depart, Announce, Install, Copy, Land, Invoke, Round, Begin, Scan, Fetch, Take, Done, Answer}
use Rattle.grid_event.specs.Histories.{History}
use Rattle.topology_coord.specs.Coordination.{lost_segments}
use Rattle.cluster_model.specs.State.{State, start}
use Rattle.cluster_model.specs.Writes.{can_write, written, can_erase, erased, can_tick, ticked}
use Rattle.cluster_model.specs.Topologies.{can_join, joined, can_depart, departed, lost_by_departure, can_announce, announced, can_install, installed, lost_by_installation}
use Rattle.cluster_model.specs.Transfers.{can_copy, copied, can_land, landed}
use Rattle.cluster_model.specs.Calls.{can_invoke, invoked, can_round, rounded}
use Rattle.cluster_model.specs.Units.{can_begin, begun_unit, can_scan, scanned, can_fetch, fetched, can_take, taken_by, can_end, ended_unit}
use Rattle.cluster_model.specs.Answers.{can_answer, answered}

-- the event may happen now
abbrev pub allowed : State → Event → Bool
allowed st (Write w) = can_write st.holding w
allowed st (Erase e) = can_erase st.holding e
allowed st (Tick ticks) = can_tick st.holding ticks
allowed st (Join node) = can_join st.holding node
allowed st (Depart node) = can_depart st.holding node
allowed st (Announce topology) = can_announce st.holding topology
allowed st (Install node id) = can_install st.holding node id
allowed st (Copy c) = can_copy st.holding c
allowed st (Land receiver segment) = can_land st.holding receiver segment
allowed st (Invoke i) = can_invoke st i
allowed st (Round r) = can_round st r
allowed st (Begin unit runs) = can_begin st unit runs
allowed st (Scan s) = can_scan st s
allowed st (Fetch f) = can_fetch st f
allowed st (Take t) = can_take st t
allowed st (Done unit) = can_end st unit
allowed st (Answer a) = can_answer st a

-- what the event makes of the cluster
abbrev pub changed : State → Event → State
changed st (Write w) = record st { holding = written st.holding w }
changed st (Erase e) = record st { holding = erased st.holding e }
changed st (Tick ticks) = record st { holding = ticked st.holding ticks }
changed st (Join node) = record st { holding = joined st.holding node }
changed st (Depart node) =
    record { holding = departed st.holding node; calling = lost_by_departure node (lost_segments st.holding.coord node) st.calling }
changed st (Announce topology) = record st { holding = announced st.holding topology }
changed st (Install node id) =
    record { holding = installed st.holding node id; calling = lost_by_installation st.holding.coord.newest node id st.calling }
changed st (Copy c) = record st { holding = copied st.holding c }
changed st (Land receiver segment) = record st { holding = landed st.holding receiver segment }
changed st (Invoke i) = record st { calling = invoked st.calling i }
changed st (Round r) = record st { calling = rounded st.calling r }
changed st (Begin unit runs) = record st { calling = begun_unit st.holding st.calling unit runs }
changed st (Scan s) = record st { calling = scanned st.calling s }
changed st (Fetch f) = record st { calling = fetched st.calling f }
changed st (Take t) = record st { calling = taken_by st.calling t }
changed st (Done unit) = record st { calling = ended_unit st.calling unit }
changed st (Answer a) = record st { calling = answered st.calling a }

-- the cluster after the event, or nothing where it may not happen
abbrev pub after : State → Event → Option State
after st event = if allowed st event then Some (changed st event) else None

-- the cluster after the events
abbrev pub state : State → List Event → State
state st [] = st
state st (event ∷ events) = state (changed st event) events

-- each event may happen where it stands
abbrev pub runs : State → List Event → Bool
runs st [] = true
runs st (event ∷ events) = allowed st event && runs (changed st event) events

-- a run of a cluster with the settings: each event may happen where it stands. Before there are settings there is none
abbrev pub is_run_of : Option Config → List Event → Bool
is_run_of None [] = true
is_run_of None (event ∷ events) = false
is_run_of (Some config) events = runs (start config) events

-- the history is a run
abbrev pub is_run : History → Bool
is_run history = is_run_of history.config history.events
