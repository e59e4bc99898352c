-- What holds in every run of a cluster. A past lists events, the newest first.
use Rattle.std.specs.Prelude.{◌≡◌, ℕ, ◌≤◌, nat_le, Bool, true, false, ◌&&◌, ◌||◌, List, ◌∷◌, map, length, reverse, None, Some, is_none, is_some}
use Rattle.std.specs.FinSet as set_of
use Rattle.std.specs.List.{AllByRecursion, filter}
use Rattle.delivery_mode.specs.Guarantee.{asks_again}
use Rattle.grid_base.specs.declared.limits.TheConstants.{MOST_EVENTS, MOST_WEIGHT}
use Rattle.grid_event.specs.Configs.{is_config}
use Rattle.grid_event.specs.Members.{is_live, newest_topology}
use Rattle.grid_event.specs.Spans.{outcome_in, span_end}
use Rattle.grid_event.specs.UnitHistories.{asks_of_call, has_ended, has_ended_on, is_gone, was_refused}
use Rattle.grid_event.specs.Weights.{total_weight}
use Rattle.grid_event.specs.declared.call_events.Ask.{Ask}
use Rattle.grid_event.specs.declared.config.Config.{Config}
use Rattle.grid_event.specs.declared.event.Event.{Event}
use Rattle.grid_event.specs.declared.outcome.Outcome.{Outcome}
use Rattle.local_publisher.specs.declared.unit_state.UnitState.{UnitState}
use Rattle.local_publisher.specs.declared.unit_state.UnitState.TheVariants.{Refused}
use Rattle.state_transfer.specs.Copying.{copy_at}
use Rattle.topology_coord.specs.Coordination.{all_installed, lives, topology_of}
use Rattle.topology_phase.specs.Owners.{among}
use Rattle.topology_phase.specs.Phases.{same_phase}
use Rattle.topology_phase.specs.Topologies.{holders, read_owners}
use Rattle.topology_phase.specs.declared.phase.Phase.TheVariants.{NoRebalance}
use Rattle.cluster_model.specs.Answers.{evidence_of}
use Rattle.cluster_model.specs.Causes.{Caused, EnoughRoundsSuffice, QuietCallIsWhole, was_lost}
use Rattle.cluster_model.specs.Commands.{advance_event, drive_event, is_unanswered}
use Rattle.cluster_model.specs.Evidence.{evidence, given_in, how_many, request_of, taken_in}
use Rattle.cluster_model.specs.Guarantees.{rounds_in}
use Rattle.cluster_model.specs.Kept.{IsKept}
use Rattle.cluster_model.specs.Rightness.{IsRight}
use Rattle.cluster_model.specs.State.{Call, State, Unit, call_of, is_ended, is_lost, is_of, is_on, is_open_unit, is_walk, segments_of, start}
use Rattle.cluster_model.specs.Step.{allowed, runs, state}
use Rattle.cluster_model.specs.Told.{IsTold, contents_of, installed_by}
use Rattle.cluster_model.specs.Topologies.{is_complete, next_topology}
use Rattle.cluster_model.specs.Units.{taken_entries}
use Rattle.cluster_model.specs.Writes.{has_reader}

-- a live holder of a segment by the newest topology has exactly the map's part of it, deadlines included; and a live node that
-- reads a segment by the topology that it has installed is such a holder. Live, newest, installed and the map are told by the events
pub record HasCopies (config : Config) (past : List Event) (st : State) : Type 0 where
  pub complete : (node segment : ℕ) → is_live config past node ≡ true → among node (holders (newest_topology config past) segment) ≡ true
      → (key : List ℕ) → copy_at st.holding.copying.cells node segment key ≡ contents_of config past segment key
  pub readers : (node segment : ℕ) → is_live config past node ≡ true → among node (read_owners (installed_by config past node) segment) ≡ true
      → among node (holders (newest_topology config past) segment) ≡ true

-- in every run the copies are what the map says
abbrev pub CopiesHold : Type 0
CopiesHold = (config : Config) (events : List Event) → is_config config ≡ true → runs (start config) events ≡ true
    → HasCopies config (reverse events) (state (start config) events)

-- the events tell what the cluster has, and the topology that each live node has installed
pub record TellsTheState (config : Config) (past : List Event) (st : State) : Type 0 where
  pub told : IsTold config past st
  pub installed : (node : ℕ) → is_live config past node ≡ true → topology_of st.holding.coord node ≡ installed_by config past node

-- in every run the events tell what the cluster has
abbrev pub EventsTellTheState : Type 0
EventsTellTheState = (config : Config) (events : List Event) → is_config config ≡ true → runs (start config) events ≡ true
    → TellsTheState config (reverse events) (state (start config) events)

-- in every run all parts are kept
abbrev pub EventsKeepAll : Type 0
EventsKeepAll = (config : Config) (events : List Event) → is_config config ≡ true → runs (start config) events ≡ true
    → IsKept config (reverse events) (state (start config) events)

abbrev pub is_refused : UnitState → Bool
is_refused (Refused at) = true
is_refused _ = false

-- what was asked for a unit
abbrev pub ask_of : Unit → Ask
ask_of unit = record { unit = unit.work.id; segment = unit.work.segment; node = unit.work.node }

-- a unit's stage is Refused, Lost or Ended exactly where the events say that it was refused, is gone or has ended
pub record TellsStage (config : Config) (past : List Event) (unit : Unit) : Type 0 where
  pub refused : is_refused unit.work.state ≡ was_refused past unit.work.id
  pub lost : is_lost unit.work.state ≡ is_gone config past (ask_of unit)
  pub ended : is_ended unit.work.state ≡ has_ended past unit.work.id

-- an unanswered call that asks again has noted as lost exactly the segments that a departure since it was made lost before they
-- had ended for it
abbrev pub TellsLosses : Config → List Event → ℕ → Call → Type 0
TellsLosses config past number call =
    call.outcome ≡ None → asks_again call.request.guarantee ≡ true → (segment : ℕ) → set_of.contains call.lost segment ≡ was_lost config past number segment

-- the events tell the stages of all units, and the noted segments of all calls
pub record TellsStages (config : Config) (past : List Event) (st : State) : Type 0 where
  pub units : AllByRecursion (TellsStage config past) st.calling.units
  pub calls : (number : ℕ) (call : Call) → call_of st.calling number ≡ Some call → TellsLosses config past number call

-- in every run the events tell stages and noted segments
abbrev pub StagesAreTold : Type 0
StagesAreTold = (config : Config) (events : List Event) → is_config config ≡ true → runs (start config) events ≡ true
    → TellsStages config (reverse events) (state (start config) events)

-- an answered call has its cause; one that was quiet and asks again has a value, or is a walk that ended; and one with enough
-- rounds doesn't give up
pub record HasCause (config : Config) (past : List Event) (call : ℕ) : Type 0 where
  pub caused : Caused config past call
  pub quiet : QuietCallIsWhole config past call
  pub enough : EnoughRoundsSuffice past call

-- in every run all outcomes are caused
abbrev pub OutcomesAreCaused : Type 0
OutcomesAreCaused = (config : Config) (events : List Event) → is_config config ≡ true → runs (start config) events ≡ true
    → (call : ℕ) → HasCause config (reverse events) call

-- a journal holds the events: there are at most 1,000,000, with at most 2,000,000 entries and items
abbrev pub fits_journal : List Event → Bool
fits_journal events = nat_le (length events) MOST_EVENTS && nat_le (total_weight events) MOST_WEIGHT

-- the topology is settled: every live node has installed the newest one, nothing moves, and no topology is next
abbrev pub is_settled : State → Bool
is_settled st = all_installed st.holding.coord && (same_phase st.holding.coord.newest.phase NoRebalance && is_none (next_topology st.holding))

-- a call that isn't answered may be driven on, and so may the topology be until it is settled, and until each live node reaches
-- each segment
pub record NothingIsStuck (st : State) : Type 0 where
  pub drive : (call : ℕ) → is_unanswered (call_of st.calling call) ≡ true → is_some (drive_event st call) ≡ true
  pub advance : is_settled st ≡ false → is_some (advance_event st.holding) ≡ true
  pub reach : (node segment : ℕ) → lives st.holding.coord node ≡ true → among segment (segments_of st.holding) ≡ true
      → has_reader st.holding node segment ≡ false → is_some (advance_event st.holding) ≡ true

-- after every run that a journal holds nothing is stuck
abbrev pub NoCallIsStuck : Type 0
NoCallIsStuck = (config : Config) (events : List Event) → is_config config ≡ true → runs (start config) events ≡ true
    → fits_journal events ≡ true → NothingIsStuck (state (start config) events)

-- of the units of a call on a segment at most one is open or has ended: so at most one is open, and none where one has ended
pub record HasOneUnit (units : List Unit) (call segment : ℕ) : Type 0 where
  pub stands : how_many (λ unit. is_on call segment unit && (is_open_unit unit || is_ended unit.work.state)) units ≤ 1
  pub one_open : how_many (λ unit. is_on call segment unit && is_open_unit unit) units ≤ 1
  pub none_open : is_complete units call segment ≡ true → how_many (λ unit. is_on call segment unit && is_open_unit unit) units ≡ 0

-- in every run a call has at most one open unit on a segment, and none on a complete one
abbrev pub OneUnitStands : Type 0
OneUnitStands = (config : Config) (events : List Event) → is_config config ≡ true → runs (start config) events ≡ true
    → (call segment : ℕ) → HasOneUnit (state (start config) events).calling.units call segment

-- the events tell what the cluster has of a call: what it asks for, the rounds made, its outcome, the entries taken and how many
-- items were given; and the evidence of a reduction is what its units read that count
pub record TellsCall (config : Config) (past : List Event) (st : State) (number : ℕ) (call : Call) : Type 0 where
  pub request : request_of past number ≡ Some call.request
  pub rounds : rounds_in past number ≡ call.rounds
  pub outcome : outcome_in past number ≡ call.outcome
  pub taken : taken_in past number ≡ taken_entries call
  pub given : length (given_in past number) ≡ call.given
  pub evidence : is_walk call.request ≡ false → evidence config past number ≡ evidence_of st.calling number call

-- the events tell all calls, the units that the rounds of a call asked for, in order, and the segments that are complete for it
pub record TellsCalls (config : Config) (past : List Event) (st : State) : Type 0 where
  pub calls : (number : ℕ) (call : Call) → call_of st.calling number ≡ Some call → TellsCall config past st number call
  pub others : (number : ℕ) → call_of st.calling number ≡ None → request_of past number ≡ None
  pub asks : (number : ℕ) → asks_of_call past number ≡ map ask_of (filter (is_of number) st.calling.units)
  pub ended : (number segment : ℕ) → has_ended_on past number segment ≡ is_complete st.calling.units number segment

-- in every run the events tell calls
abbrev pub CallsAreTold : Type 0
CallsAreTold = (config : Config) (events : List Event) → is_config config ≡ true → runs (start config) events ≡ true
    → TellsCalls config (reverse events) (state (start config) events)

-- the later past tells the same of a call: its span, what it asks for, its outcome, its evidence, the items given, the rounds
-- made and the segments that ended
pub record TellsTheSame (config : Config) (past later : List Event) (call : ℕ) : Type 0 where
  pub span : span_end later call ≡ span_end past call
  pub request : request_of later call ≡ request_of past call
  pub outcome : outcome_in later call ≡ outcome_in past call
  pub evidence : evidence config later call ≡ evidence config past call
  pub given : given_in later call ≡ given_in past call
  pub rounds : rounds_in later call ≡ rounds_in past call
  pub ended : (segment : ℕ) → has_ended_on later call segment ≡ has_ended_on past call segment

-- in every run the same is told of an answered call after one more event
abbrev pub AnsweredCallsStay : Type 0
AnsweredCallsStay = (config : Config) (events : List Event) (event : Event) → is_config config ≡ true → runs (start config) events ≡ true
    → allowed (state (start config) events) event ≡ true → (call : ℕ) (outcome : Outcome) → outcome_in (reverse events) call ≡ Some outcome
    → TellsTheSame config (reverse events) (event ∷ reverse events) call

-- in every run the answers of every call are right
abbrev pub AnswersAreRight : Type 0
AnswersAreRight = (config : Config) (events : List Event) → is_config config ≡ true → runs (start config) events ≡ true
    → (call : ℕ) → IsRight config (reverse events) call
