-- The report of a history: its settings, its first topology, its events with the notes of idle lines, and its end.
use Rattle.std.specs.Prelude.{ℕ, ◌+◌, ◌-◌, Option, None, Some, List, [], ◌∷◌, ◌++◌, length, take, drop, codes, decimal}
use Rattle.std.specs.List.{range_with_len}
use Rattle.grid_event.specs.declared.config.Config.{Config}
use Rattle.grid_event.specs.declared.event.Event.{Event}
use Rattle.grid_event.specs.declared.idle.Idle.{Idle}
use Rattle.segment_hash.specs.declared.partition.Partition.{Partition}
use Rattle.segment_hash.specs.declared.partition.Partition.TheVariants.{Plain, Grouped}
use Rattle.pipeline_expr.specs.declared.kind.ValueKind.{ValueKind}
use Rattle.pipeline_expr.specs.declared.kind.ValueKind.TheVariants.{Int, Text, Flag}
use Rattle.grid_event.specs.Histories.{History}
use Rattle.hash_factory.specs.Formulas.{created}
use Rattle.topology_phase.specs.Owners.{Hash}
use Rattle.topology_phase.specs.declared.aim.Aim.{Aim}
use Rattle.topology_phase.specs.declared.aim.Aim.TheVariants.{Create, Least}
use Rattle.event_texts.specs.Topologies.{hash_text}
use Rattle.event_texts.specs.Words.{words}
use Rattle.event_texts.specs.Events.{event_text}

-- the text and the line feed that ends it
abbrev pub line : List ℕ → List ℕ
line text = text ++ 10 ∷ []

-- the word of a partition
abbrev pub partition_text : Partition → List ℕ
partition_text Plain = codes "plain"
partition_text Grouped = codes "grouped"

-- the word of a kind of values
abbrev pub kind_text : ValueKind → List ℕ
kind_text Int = codes "int"
kind_text Text = codes "text"
kind_text Flag = codes "flag"

-- how many nodes, segments and owners there are
unfoldable pub sizes_text : Config → List ℕ
sizes_text config = words (
    codes "grid nodes" ∷ decimal config.nodes ∷ codes "segments" ∷ decimal config.segments ∷ codes "owners" ∷ decimal config.owners ∷ [])

-- how keys are divided, and the kind of the values
unfoldable pub kinds_text : Config → List ℕ
kinds_text config = words (codes "partition" ∷ partition_text config.partition ∷ codes "values" ∷ kind_text config.values ∷ [])

-- the aim, where it isn't the created hash
abbrev pub aim_text : Aim → List ℕ
aim_text Create = []
aim_text Least = codes " hash least"

-- the settings, each behind its name
abbrev pub config_text : Config → List ℕ
config_text config = words (sizes_text config ∷ kinds_text config ∷ codes "chunk" ∷ decimal config.chunk ∷ []) ++ aim_text config.aim

-- the first nodes, which are numbered from 0
abbrev pub first_nodes : Config → List ℕ
first_nodes config = range_with_len 0 config.nodes

-- the first hash: that of the first nodes
abbrev pub first_hash : Config → Hash
first_hash config = created (first_nodes config) config.segments config.owners

-- the first topology, which stands before all events
abbrev pub first_text : Config → List ℕ
first_text config = codes "0 topology 1 NO_REBALANCE " ++ hash_text (first_hash config)

-- events with their places, the first of which comes behind `place` other events
abbrev pub events_text : ℕ → List Event → List ℕ
events_text place [] = []
events_text place (event ∷ events) = line (words (decimal (place + 1) ∷ event_text event ∷ [])) ++ events_text (place + 1) events

-- a script line that had no event
abbrev pub idle_text : Idle → List ℕ
idle_text note = line (words (codes "- idle" ∷ decimal note.line ∷ []))

-- events and notes: each note stands behind the notes before it and behind as many events as it says, or all of them
-- where there are fewer; the other events stand behind the last note
abbrev pub run_text : ℕ → List Event → List Idle → List ℕ
run_text place events [] = events_text place events
run_text place events (note ∷ notes) =
    let before = take (note.place - place) events in
    events_text place before ++ (idle_text note ++ run_text (place + length before) (drop (note.place - place) events) notes)

-- the last line counts the events
abbrev pub end_line : ℕ → List ℕ
end_line count = line (words (codes "end" ∷ decimal count ∷ []))

-- the settings and the first topology, where there are settings
abbrev pub head_text : Option Config → List ℕ
head_text None = []
head_text (Some config) = line (config_text config) ++ line (first_text config)

-- the whole report
abbrev pub report_text : History → List ℕ
report_text history =
    head_text history.config ++ (run_text 0 history.events history.idle ++ end_line (length history.events))
