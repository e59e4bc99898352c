-- The brief of a history: its settings, the calls with their outcomes, and what stands at its end. A past lists events, the newest first.
use Rattle.std.specs.Prelude.{ℕ, ◌+◌, ◌==◌, if◌then◌else◌, Option, None, Some, List, [], ◌∷◌, ◌++◌, length, reverse, codes, decimal, map}
use Rattle.std.specs.FinMap as map_of
use Rattle.std.specs.Ordering.{nat_cmp}
use Rattle.grid_event.specs.declared.config.Config.{Config}
use Rattle.grid_event.specs.declared.event.Event.{Event}
use Rattle.grid_event.specs.declared.event.Event.TheVariants.{Answer, Take}
use Rattle.grid_event.specs.declared.outcome.Outcome.{Outcome}
use Rattle.grid_event.specs.declared.outcome.Outcome.TheVariants as outcomes
use Rattle.grid_event.specs.Histories.{History}
use Rattle.grid_event.specs.Maps.{entries_of}
use Rattle.grid_event.specs.Members.{live_members, newest_topology}
use Rattle.grid_event.specs.UnitHistories.{asker_of}
use Rattle.topology_phase.specs.Topologies.{Topology}
use Rattle.serde_json.specs.Data.{Data, array, member, no_members, number, object, string, unsigned}
use Rattle.serde_json.specs.View.{items_of}
use Rattle.serde_json.specs.Written.{compact_text}
use Rattle.event_texts.specs.Events.{outcome_text}
use Rattle.grid_journal.specs.Rebalances.{told_least}
use Rattle.grid_journal.specs.Reports.{config_text, line}
use Rattle.event_texts.specs.Topologies.{hash_text, owners_text, phase_text}
use Rattle.event_texts.specs.Words.{words}

-- so many items more for the call, where it is the one that asked
abbrev pub given_to : ℕ → Option ℕ → ℕ → ℕ → ℕ
given_to call None items before = before
given_to call (Some asker) items before = if asker == call then before + items else before

-- how many items the user of a call was given: those of all that was taken of units for which the call had asked
abbrev pub given_of : List Event → ℕ → ℕ
given_of [] call = 0
given_of (Take take ∷ past) call = given_to call (asker_of past take.unit) (length take.given) (given_of past call)
given_of (_ ∷ past) call = given_of past call

-- the outcomes of the calls that were answered, by the calls' numbers
abbrev pub outcomes_of : List Event → map_of.FinMap nat_cmp Outcome
outcomes_of [] = map_of.empty
outcomes_of (Answer answer ∷ past) = map_of.insert (outcomes_of past) answer.call answer.outcome
outcomes_of (_ ∷ past) = outcomes_of past

-- how a call ended; behind the end of a walk stands how many items its user was given
unfoldable pub result_text : Outcome → ℕ → List ℕ
result_text (outcomes.Value answer) given = outcome_text (outcomes.Value answer)
result_text outcomes.Ended given = words (outcome_text outcomes.Ended ∷ decimal given ∷ [])
result_text (outcomes.Again rounds suspect) given = outcome_text (outcomes.Again rounds suspect)
result_text (outcomes.SegmentLost segment) given = outcome_text (outcomes.SegmentLost segment)
result_text outcomes.OriginatorLeft given = outcome_text outcomes.OriginatorLeft

-- a call: its number, and how it ended
abbrev pub call_text : ℕ → List ℕ → List ℕ
call_text call result = words (codes "call" ∷ decimal call ∷ result ∷ [])

-- the calls of some outcomes, a line each
abbrev pub calls_text : (ℕ → ℕ) → List (ℕ × Outcome) → List ℕ
calls_text given [] = []
calls_text given (call ∷ calls) = line (call_text call.0 (result_text call.1 (given call.0))) ++ calls_text given calls

-- a topology by its phase and its current owners
unfoldable pub standing_text : Topology → List ℕ
standing_text topology = words (phase_text topology.phase ∷ hash_text topology.current ∷ [])

-- what stands at the end: the live nodes, the newest topology, and how many keys there are
abbrev pub ends_text : List ℕ → Topology → ℕ → List ℕ
ends_text nodes topology keys =
    line (words (codes "nodes" ∷ owners_text nodes ∷ []))
    ++ (line (words (codes "topology" ∷ standing_text topology ∷ []))
    ++ (line (words (codes "keys" ∷ decimal keys ∷ [])) ++ line (codes "end")))

-- the brief of a past, with its settings
abbrev pub brief_of : Config → List Event → List ℕ
brief_of config past =
    line (config_text config)
    ++ (calls_text (given_of past) (map_of.entries (outcomes_of past))
    ++ (told_least config past
    ++ ends_text (live_members config past) (newest_topology config past) (map_of.len (entries_of config past))))

-- a call as JSON: its number, and how it ended
abbrev pub call_data : ℕ → List ℕ → Data
call_data call result = object (member (codes "call") (number (unsigned call)) (member (codes "outcome") (string result) no_members))

-- the calls of some outcomes as JSON
abbrev pub calls_data : (ℕ → ℕ) → List (ℕ × Outcome) → Data
calls_data given calls = array (items_of (map (λ call. call_data call.0 (result_text call.1 (given call.0))) calls))

-- nodes as JSON
abbrev pub nodes_data : List ℕ → Data
nodes_data nodes = array (items_of (map (λ node. number (unsigned node)) nodes))

-- calls, keys, nodes and topology as JSON, in this order
abbrev pub told_data : Data → ℕ → Data → Data → Data
told_data calls keys nodes topology =
    object (
    member (codes "calls") calls (
    member (codes "keys") (number (unsigned keys)) (member (codes "nodes") nodes (member (codes "topology") topology no_members))))

-- the brief of a past as JSON
abbrev pub data_of : Config → List Event → Data
data_of config past =
    told_data (calls_data (given_of past) (map_of.entries (outcomes_of past))) (map_of.len (entries_of config past))
    (nodes_data (live_members config past)) (string (standing_text (newest_topology config past)))

-- what a text of the settings and the past is, where there are settings
abbrev pub of_started : (Config → List Event → List ℕ) → Option Config → List Event → List ℕ
of_started text None past = []
of_started text (Some config) past = text config past

-- the whole brief
abbrev pub brief_text : History → List ℕ
brief_text history = of_started brief_of history.config (reverse history.events)

-- JSON without blanks
unfoldable pub json_text : Data → List ℕ
json_text value = compact_text value

-- the whole brief as JSON, on one line
abbrev pub brief_json_text : History → List ℕ
brief_json_text history = of_started (λ config past. line (json_text (data_of config past))) history.config (reverse history.events)
