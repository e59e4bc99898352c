-- How a call is answered.
use Rattle.std.specs.Prelude.{ℕ, ◌==◌, Bool, false, not, ◌&&◌, ◌||◌, if◌then◌else◌, List, [], ◌∷◌, Option, None, Some, is_none}
use Rattle.std.specs.List.{filter, flat_map, range_with_len}
use Rattle.std.specs.FinMap as map_of
use Rattle.std.specs.FinSet as set_of
use Rattle.std.specs.Ordering.{nat_cmp}
use Rattle.delivery_mode.specs.Guarantee.{asks_again, keeps_lost}
use Rattle.grid_base.specs.declared.entry.Entry.{Entry}
use Rattle.grid_base.specs.declared.limits.TheConstants.{MOST_SEGMENTS}
use Rattle.grid_event.specs.declared.call_events.AnswerEvent.{AnswerEvent}
use Rattle.grid_event.specs.declared.outcome.Outcome.{Outcome}
use Rattle.grid_event.specs.declared.outcome.Outcome.TheVariants.{Value, Ended, Again, SegmentLost, OriginatorLeft}
use Rattle.pipeline_eval.specs.Pipes.{pipe}
use Rattle.topology_coord.specs.Coordination.{lives}
use Rattle.cluster_model.specs.Calls.{all_complete, granted, has_open, incomplete}
use Rattle.cluster_model.specs.Same.{same_outcome}
use Rattle.cluster_model.specs.State.{Call, Calling, State, Unit, call_of, is_ended, is_on, is_walk, segments_read}

-- what a unit read counts: with exactly once where it ended, else in any case
abbrev pub counts : Call → Unit → Bool
counts call unit = keeps_lost call.request.guarantee || is_ended unit.work.state

-- the evidence of a reduction: segments ascending, of each what its units read that count, in the order of asking
abbrev pub evidence_of : Calling → ℕ → Call → List Entry
evidence_of calling number call =
    flat_map
    (λ segment.
    flat_map (λ (unit : Unit). unit.work.entries)
    (filter (λ (unit : Unit). is_on number segment unit && counts call unit) calling.units))
    (segments_read calling)

-- the first segment of a list, where it has one
abbrev pub first_of : List ℕ → Option ℕ
first_of [] = None
first_of (segment ∷ segments) = Some segment

-- the least segment of a set, where it has one
unfoldable pub least_of : set_of.FinSet nat_cmp → Option ℕ
least_of segments = first_of (filter (set_of.contains segments) (range_with_len 0 MOST_SEGMENTS))

-- a call has a value, or a walk ends, once every segment is complete; a call that doesn't ask again, in place of that, once its
-- round was made and no unit is open
abbrev pub is_whole : Calling → ℕ → Call → Bool
is_whole calling number call =
    if asks_again call.request.guarantee then all_complete calling number else not (call.rounds == 0) && not (has_open calling number)

abbrev pub whole_outcome : Calling → ℕ → Call → Outcome
whole_outcome calling number call =
    if is_walk call.request then Ended else Value (pipe call.request.pipeline (evidence_of calling number call))

-- a call that asks again gives up where all granted rounds were made and no unit is open; it names the least incomplete segment
abbrev pub given_up : Calling → ℕ → Call → Option ℕ → Option Outcome
given_up calling number call None = None
given_up calling number call (Some suspect) =
    if asks_again call.request.guarantee && ((call.rounds == granted call) && not (has_open calling number))
    then Some (Again call.rounds suspect)
    else None

-- a noted segment is lost, the least one; else the call is whole, or gives up
abbrev pub outcome_by : Calling → ℕ → Call → Option ℕ → Option Outcome
outcome_by calling number call (Some segment) = Some (SegmentLost segment)
outcome_by calling number call None =
    if is_whole calling number call
    then Some (whole_outcome calling number call)
    else given_up calling number call (first_of (incomplete calling number))

-- the outcome of a call at this moment, the first that applies: its originator left, a segment is lost, it is whole, it gives up
unfoldable pub outcome_of : State → ℕ → Call → Option Outcome
outcome_of st number call =
    if not (lives st.holding.coord call.originator)
    then Some OriginatorLeft
    else outcome_by st.calling number call (least_of call.lost)

abbrev pub is_that_outcome : Outcome → Option Outcome → Bool
is_that_outcome outcome None = false
is_that_outcome outcome (Some other) = same_outcome outcome other

-- the call is there and unanswered, and this is its outcome
abbrev pub can_answer_call : State → AnswerEvent → Option Call → Bool
can_answer_call st a None = false
can_answer_call st a (Some call) = is_none call.outcome && is_that_outcome a.outcome (outcome_of st a.call call)

unfoldable pub can_answer : State → AnswerEvent → Bool
can_answer st a = can_answer_call st a (call_of st.calling a.call)

abbrev pub with_outcome : Calling → AnswerEvent → Option Call → map_of.FinMap nat_cmp Call
with_outcome calling a None = calling.calls
with_outcome calling a (Some call) = map_of.insert calling.calls a.call (record call { outcome = Some a.outcome })

-- the call is answered
unfoldable pub answered : Calling → AnswerEvent → Calling
answered calling a = record calling { calls = with_outcome calling a (call_of calling a.call) }
