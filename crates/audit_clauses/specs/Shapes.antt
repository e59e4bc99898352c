-- Which event can stand behind a past, as far as the past alone tells. A past lists events, the newest first.
use Rattle.std.specs.Prelude.{ℕ, ◌+◌, ◌==◌, Bool, true, false, not, nat_lt, nat_le, ◌&&◌, ◌||◌, List, [], ◌∷◌, length, Option, None, Some, is_some, is_none}
use Rattle.std.specs.Bool.{beq}
use Rattle.grid_base.specs.declared.limits.TheConstants.{LAST_CALL, LAST_CLOCK, LONGEST_LIFESPAN}
use Rattle.grid_event.specs.Configs.{is_up_to}
use Rattle.grid_event.specs.Maps.{clock_of}
use Rattle.grid_event.specs.Members.{installed_topology, is_live, live_members, newest_topology, was_member}
use Rattle.grid_event.specs.Spans.{invoke_of, outcome_in}
use Rattle.grid_event.specs.UnitHistories.{asker_of, has_begun, has_ended, was_refused}
use Rattle.grid_event.specs.declared.call_events.Ask.{Ask}
use Rattle.grid_event.specs.declared.call_events.InvokeEvent.{InvokeEvent}
use Rattle.grid_event.specs.declared.config.Config.{Config}
use Rattle.grid_event.specs.declared.event.Event.{Event}
use Rattle.grid_event.specs.declared.event.Event.TheVariants.{Write, Tick, Join, Depart, Announce, Install, Invoke, Round, Begin, Scan, Fetch, Take, Done, Answer}
use Rattle.grid_event.specs.declared.outcome.Outcome.{Outcome}
use Rattle.grid_event.specs.declared.outcome.Outcome.TheVariants.{Value, Ended}
use Rattle.topology_phase.specs.Phases.{same_phase}
use Rattle.topology_phase.specs.Topologies.{Topology}
use Rattle.topology_phase.specs.declared.phase.Phase.TheVariants.{NoRebalance}
use Rattle.cluster_model.specs.Calls.{checks}
use Rattle.cluster_model.specs.State.{is_walk}
use Rattle.cluster_model.specs.Writes.{is_deadline}
use Rattle.audit_clauses.specs.Mentions.{names_known}

-- how many units the rounds of all calls asked for
abbrev pub units_asked : List Event → ℕ
units_asked [] = 0
units_asked (Round round ∷ past) = units_asked past + length round.asks
units_asked (_ ∷ past) = units_asked past

-- the units of the asks have the numbers from this one on
abbrev pub are_numbered : ℕ → List Ask → Bool
are_numbered number [] = true
are_numbered number (ask ∷ asks) = (ask.unit == number) && are_numbered (number + 1) asks

-- the call was made, and isn't answered
abbrev pub goes_on : List Event → ℕ → Bool
goes_on past call = is_some (invoke_of past call) && is_none (outcome_in past call)

-- the call was made, and is a walk, or is a reduction
abbrev pub has_form : Bool → Option InvokeEvent → Bool
has_form walk None = false
has_form walk (Some invoke) = beq walk (is_walk invoke.request)

-- a call asked for the unit, and goes on
abbrev pub asker_goes_on : List Event → Option ℕ → Bool
asker_goes_on past None = false
asker_goes_on past (Some call) = goes_on past call

-- a call asked for the unit, and has this form
abbrev pub asker_has_form : List Event → Bool → Option ℕ → Bool
asker_has_form past walk None = false
asker_has_form past walk (Some call) = has_form walk (invoke_of past call)

-- the unit was asked for and neither began to run nor was refused, and its call goes on
abbrev pub is_to_begin : List Event → ℕ → Bool
is_to_begin past unit = asker_goes_on past (asker_of past unit) && (not (has_begun past unit) && not (was_refused past unit))

-- the unit began to run and hasn't ended, and its call goes on
abbrev pub reads_on : List Event → ℕ → Bool
reads_on past unit = asker_goes_on past (asker_of past unit) && (has_begun past unit && not (has_ended past unit))

-- the same, and its call is a walk, or is a reduction
abbrev pub reads_for : Bool → List Event → ℕ → Bool
reads_for walk past unit = reads_on past unit && asker_has_form past walk (asker_of past unit)

-- the originator of the call is live, and has installed the topology of this number
abbrev pub is_at_originator : Config → List Event → ℕ → Option InvokeEvent → Bool
is_at_originator config past id None = false
is_at_originator config past id (Some invoke) =
    is_live config past invoke.node && (installed_topology config past invoke.node == id)

-- each hash of the topology has as many segments as the cluster
abbrev pub has_all_segments : Config → Topology → Bool
has_all_segments config topology =
    (length topology.current == config.segments)
    && (same_phase topology.phase NoRebalance || (length topology.pending == config.segments))

-- a value answers a reduction, and an end a walk
abbrev pub suits : Outcome → Option InvokeEvent → Bool
suits (Value answer) invoke = has_form false invoke
suits Ended invoke = has_form true invoke
suits _ invoke = true

-- what is asked of each kind of event
unfoldable pub fits_past : Config → List Event → Event → Bool
fits_past config past (Write w) = is_deadline (clock_of past) w.until
fits_past config past (Tick ticks) =
    nat_le 1 ticks && (nat_le ticks LONGEST_LIFESPAN && nat_le (clock_of past + ticks) LAST_CLOCK)
fits_past config past (Join node) = not (was_member config past node)
fits_past config past (Depart node) = is_live config past node && nat_lt 1 (length (live_members config past))
fits_past config past (Announce topology) =
    (topology.id == (newest_topology config past).id + 1) && has_all_segments config topology
fits_past config past (Install node id) = is_live config past node && (id == (newest_topology config past).id)
fits_past config past (Invoke i) =
    is_none (invoke_of past i.call)
    && (is_up_to LAST_CALL i.call && (is_live config past i.node && checks i.request.pipeline config.values))
fits_past config past (Round r) =
    goes_on past r.call
    && (is_at_originator config past r.id (invoke_of past r.call) && are_numbered (units_asked past + 1) r.asks)
fits_past config past (Begin unit runs) = is_to_begin past unit
fits_past config past (Scan s) = reads_for false past s.unit
fits_past config past (Fetch f) = reads_for true past f.unit
fits_past config past (Take t) = reads_for true past t.unit
fits_past config past (Done unit) = reads_on past unit
fits_past config past (Answer a) = goes_on past a.call && suits a.outcome (invoke_of past a.call)
fits_past config past _ = true

-- the cluster has what the event names, and the event fits its past
abbrev pub is_shaped : Config → List Event → Event → Bool
is_shaped config past event = names_known config event && fits_past config past event
