-- Why a call ended as it did. A past lists events, the newest first.
use Rattle.std.specs.Prelude.{◌≡◌, ℕ, ◌+◌, ◌==◌, Bool, true, false, not, nat_lt, ◌&&◌, ◌||◌, if◌then◌else◌, List, [], ◌∷◌, ◌++◌, Option, None, Some}
use Rattle.std.specs.Bool.{⊤}
use Rattle.std.specs.List.{list_all, list_any, range_with_len}
use Rattle.delivery_mode.specs.Guarantee.{asks_again}
use Rattle.grid_event.specs.Members.{installed_topology, is_live, live_members, loses_segment, newest_topology}
use Rattle.grid_event.specs.Spans.{before_answer, invoke_of, invokes, outcome_in, since_invoke, span_end}
use Rattle.grid_event.specs.UnitHistories.{asks_of_call, has_ended_on, is_closed, is_gone, was_refused}
use Rattle.grid_event.specs.declared.call_events.Ask.{Ask}
use Rattle.grid_event.specs.declared.call_events.InvokeEvent.{InvokeEvent}
use Rattle.grid_event.specs.declared.call_events.RoundEvent.{RoundEvent}
use Rattle.grid_event.specs.declared.config.Config.{Config}
use Rattle.grid_event.specs.declared.event.Event.{Event}
use Rattle.grid_event.specs.declared.event.Event.TheVariants.{Announce, Begin, Depart, Install, Round}
use Rattle.grid_event.specs.declared.outcome.Outcome.{Outcome}
use Rattle.grid_event.specs.declared.outcome.Outcome.TheVariants.{Value, Ended, Again, SegmentLost, OriginatorLeft}
use Rattle.suspect_retry.specs.Rounds.{granted_rounds}
use Rattle.topology_phase.specs.Topologies.{holders}
use Rattle.cluster_model.specs.Guarantees.{rounds_in}

-- why a call ends: its originator left; a segment was lost; what it asked for is whole; or it gave up after so many rounds, for want of a segment
pub data Cause : Type 0 where
  Left : Cause
  Lost : ℕ → Cause
  Whole : Cause
  GaveUp : ℕ → ℕ → Cause

-- the cause that an outcome names
abbrev pub named_cause : Outcome → Cause
named_cause (Value answer) = Whole
named_cause Ended = Whole
named_cause (Again rounds suspect) = GaveUp rounds suspect
named_cause (SegmentLost segment) = Lost segment
named_cause OriginatorLeft = Left

-- the node departed since the call was made
abbrev pub left_since : List Event → ℕ → ℕ → Bool
left_since [] call node = false
left_since (Depart other ∷ past) call node = (other == node) || left_since past call node
left_since (event ∷ past) call node = if invokes call event then false else left_since past call node

-- a departure since the call was made lost the segment before it had ended for the call
abbrev pub was_lost : Config → List Event → ℕ → ℕ → Bool
was_lost config [] call segment = false
was_lost config (Depart node ∷ past) call segment =
    (loses_segment config past node segment && not (has_ended_on past call segment)) || was_lost config past call segment
was_lost config (event ∷ past) call segment = if invokes call event then false else was_lost config past call segment

-- the segments of the cluster, ascending
abbrev pub all_segments : Config → List ℕ
all_segments config = range_with_len 0 config.segments

-- the least of the segments that pass the test
abbrev pub least_such : (ℕ → Bool) → List ℕ → Option ℕ
least_such test [] = None
least_such test (segment ∷ segments) = if test segment then Some segment else least_such test segments

-- every segment has ended for the call
abbrev pub all_ended : Config → List Event → ℕ → Bool
all_ended config past call = list_all (has_ended_on past call) (all_segments config)

-- each unit of the call was refused, is gone, or has ended
abbrev pub all_closed : Config → List Event → ℕ → Bool
all_closed config past call = list_all (is_closed config past) (asks_of_call past call)

-- every segment has ended; for a call that doesn't ask again, in place of that, there is a round and each unit is closed
abbrev pub is_satisfied : Config → List Event → ℕ → InvokeEvent → Bool
is_satisfied config past call invoke =
    if asks_again invoke.request.guarantee
    then all_ended config past call
    else nat_lt 0 (rounds_in past call) && all_closed config past call

-- a call that asks again made all its granted rounds, and each unit is closed
abbrev pub has_given_up : Config → List Event → ℕ → InvokeEvent → Bool
has_given_up config past call invoke =
    asks_again invoke.request.guarantee
    && ((rounds_in past call == granted_rounds invoke.request.guarantee invoke.request.rounds) && all_closed config past call)

-- the segment that a call misses, where it has given up
abbrev pub gave_up : ℕ → Option ℕ → Option Cause
gave_up rounds None = None
gave_up rounds (Some suspect) = Some (GaveUp rounds suspect)

abbrev pub later_cause : Config → List Event → ℕ → InvokeEvent → Option ℕ → Option Cause
later_cause config past call invoke (Some segment) = Some (Lost segment)
later_cause config past call invoke None =
    if is_satisfied config past call invoke
    then Some Whole
    else if has_given_up config past call invoke
    then gave_up (rounds_in past call) (least_such (λ segment. not (has_ended_on past call segment)) (all_segments config))
    else None

-- the least segment that was lost, for a call that asks again
abbrev pub lost_for : Config → List Event → ℕ → InvokeEvent → Option ℕ
lost_for config past call invoke =
    if asks_again invoke.request.guarantee then least_such (was_lost config past call) (all_segments config) else None

-- the first cause that applies: the originator departed; a segment was lost, the least one; the call is satisfied; it gave up
unfoldable pub first_cause : Config → List Event → ℕ → InvokeEvent → Option Cause
first_cause config past call invoke =
    if left_since past call invoke.node
    then Some Left
    else later_cause config past call invoke (lost_for config past call invoke)

-- after each departure since the call was made that lost the segment before it had ended, no holder of it lives
abbrev pub nobody_holds : Config → List Event → ℕ → ℕ → Bool
nobody_holds config [] call segment = true
nobody_holds config (Depart node ∷ past) call segment =
    (not (loses_segment config past node segment && not (has_ended_on past call segment))
    || not (list_any (is_live config (Depart node ∷ past)) (holders (newest_topology config past) segment)))
    && nobody_holds config past call segment
nobody_holds config (event ∷ past) call segment = if invokes call event then true else nobody_holds config past call segment

-- the rounds of a call, in order
abbrev pub rounds_of : List Event → ℕ → List RoundEvent
rounds_of [] call = []
rounds_of (Round round ∷ past) call = if round.call == call then rounds_of past call ++ round ∷ [] else rounds_of past call
rounds_of (_ ∷ past) call = rounds_of past call

-- the unit was refused, or is gone
abbrev pub failed : Config → List Event → Ask → Bool
failed config past ask = was_refused past ask.unit || is_gone config past ask

-- each round has a unit that failed
abbrev pub each_round_failed : Config → List Event → ℕ → Bool
each_round_failed config past call = list_all (λ (round : RoundEvent). list_any (failed config past) round.asks) (rounds_of past call)

-- the asks of the last of some rounds
abbrev pub last_asks : List RoundEvent → List Ask
last_asks [] = []
last_asks (round ∷ []) = round.asks
last_asks (round ∷ other ∷ rounds) = last_asks (other ∷ rounds)

-- where there is a round, the last one has a unit on the segment that failed
abbrev pub last_round_failed : Config → List Event → ℕ → ℕ → Bool
last_round_failed config past call segment =
    (rounds_in past call == 0)
    || list_any (λ (ask : Ask). (ask.segment == segment) && failed config past ask) (last_asks (rounds_of past call))

-- since the newest round of the call, the node installed a topology or a node departed
abbrev pub moved_since_round : List Event → ℕ → ℕ → Bool
moved_since_round [] call node = false
moved_since_round (Round round ∷ past) call node = if round.call == call then false else moved_since_round past call node
moved_since_round (Depart other ∷ past) call node = true
moved_since_round (Install other id ∷ past) call node = (other == node) || moved_since_round past call node
moved_since_round (_ ∷ past) call node = moved_since_round past call node

-- between two successive rounds of the call the node installed a topology, or a node departed
abbrev pub moved_between_rounds : List Event → ℕ → ℕ → Bool
moved_between_rounds [] call node = true
moved_between_rounds (Round round ∷ past) call node =
    ((not (round.call == call) || ((rounds_in past call == 0) || moved_since_round past call node)))
    && moved_between_rounds past call node
moved_between_rounds (_ ∷ past) call node = moved_between_rounds past call node

-- the node of the unit is live, and had installed a higher topology than each round that asked for it
abbrev pub is_ahead_of_rounds : Config → List Event → ℕ → List RoundEvent → Bool
is_ahead_of_rounds config past unit rounds =
    list_all
    (λ (round : RoundEvent).
    list_all
    (λ (ask : Ask).
    not (ask.unit == unit) || (is_live config past ask.node && nat_lt round.id (installed_topology config past ask.node)))
    round.asks)
    rounds

-- each node that refused a unit of the call was live, and had installed a higher topology than the unit's round
abbrev pub refused_ahead : Config → List Event → ℕ → Bool
refused_ahead config [] call = true
refused_ahead config (Begin unit runs ∷ past) call =
    (runs || is_ahead_of_rounds config past unit (rounds_of past call)) && refused_ahead config past call
refused_ahead config (_ ∷ past) call = refused_ahead config past call

-- what is further true where a call gave up: each round failed, the last one on the segment that is missed; between two
-- rounds the originator installed a topology or a node departed; and nodes refused for a higher topology alone
pub record GaveUpRightly (config : Config) (past : List Event) (call node suspect : ℕ) : Type 0 where
  pub each_round : each_round_failed config past call ≡ true
  pub last_round : last_round_failed config past call suspect ≡ true
  pub moved : moved_between_rounds past call node ≡ true
  pub ahead : refused_ahead config past call ≡ true

-- what is further true of a cause
abbrev pub Further : Config → List Event → ℕ → InvokeEvent → Cause → Type 0
Further config past call invoke Left = ⊤
Further config past call invoke (Lost segment) = nobody_holds config past call segment ≡ true
Further config past call invoke Whole = ⊤
Further config past call invoke (GaveUp rounds suspect) = GaveUpRightly config past call invoke.node suspect

-- the outcome of a call is caused: the past before the answer has its cause as the first that applies, and what is further true of it
pub record IsCaused (config : Config) (past : List Event) (call : ℕ) (invoke : InvokeEvent) (outcome : Outcome) : Type 0 where
  pub first : first_cause config past call invoke ≡ Some (named_cause outcome)
  pub further : Further config past call invoke (named_cause outcome)

-- an answered call has its cause
abbrev pub Caused : Config → List Event → ℕ → Type 0
Caused config past call =
    (before : List Event) (invoke : InvokeEvent) (outcome : Outcome) → before_answer past call ≡ Some before
    → invoke_of past call ≡ Some invoke → outcome_in past call ≡ Some outcome → IsCaused config before call invoke outcome

-- every live node has installed the newest topology
abbrev pub is_even : Config → List Event → Bool
is_even config past =
    list_all (λ node. installed_topology config past node == (newest_topology config past).id) (live_members config past)

-- when the call was made, every live node had installed the newest topology
abbrev pub was_even : Config → List Event → ℕ → Bool
was_even config [] call = false
was_even config (event ∷ past) call = if invokes call event then is_even config past else was_even config past call

-- the event announces or installs a topology, or is a departure
abbrev pub disturbs : Event → Bool
disturbs (Announce topology) = true
disturbs (Install node id) = true
disturbs (Depart node) = true
disturbs _ = false

-- a call is quiet: every live node had the newest topology when it was made, and nothing in its span disturbs it
abbrev pub is_quiet : Config → List Event → ℕ → Bool
is_quiet config past call =
    was_even config (span_end past call) call && (since_invoke disturbs (span_end past call) call == 0)

-- the event is a departure, or an installation at the node
abbrev pub moves_at : ℕ → Event → Bool
moves_at node (Depart other) = true
moves_at node (Install other id) = other == node
moves_at node _ = false

-- a call's rounds are enough: more than one plus the departures of its span and the installations at its originator
abbrev pub has_enough_rounds : List Event → ℕ → InvokeEvent → Bool
has_enough_rounds past call invoke = nat_lt (1 + since_invoke (moves_at invoke.node) (span_end past call) call) invoke.request.rounds

-- a quiet call that asks again and is answered is answered by a value, or a walk by its end
abbrev pub QuietCallIsWhole : Config → List Event → ℕ → Type 0
QuietCallIsWhole config past call =
    (invoke : InvokeEvent) (outcome : Outcome) → invoke_of past call ≡ Some invoke → asks_again invoke.request.guarantee ≡ true
    → is_quiet config past call ≡ true → outcome_in past call ≡ Some outcome → named_cause outcome ≡ Whole

-- the outcome isn't that the call gave up
abbrev pub is_not_again : Outcome → Bool
is_not_again (Again rounds suspect) = false
is_not_again _ = true

-- where the rounds are enough, the call doesn't give up
abbrev pub EnoughRoundsSuffice : List Event → ℕ → Type 0
EnoughRoundsSuffice past call =
    (invoke : InvokeEvent) (outcome : Outcome) → invoke_of past call ≡ Some invoke → has_enough_rounds past call invoke ≡ true
    → outcome_in past call ≡ Some outcome → is_not_again outcome ≡ true
