-- Which nodes, segments, keys and values an event names, and that a cluster has them.
use Rattle.std.specs.Prelude.{ℕ, Bool, nat_lt, ◌&&◌, List, [], ◌∷◌, ◌++◌, map, is_some}
use Rattle.std.specs.List.{flat_map, list_all}
use Rattle.grid_base.specs.declared.datum.Datum.{Datum}
use Rattle.grid_base.specs.declared.entry.Entry.{Entry}
use Rattle.grid_base.specs.declared.item.Item.{Item}
use Rattle.grid_base.specs.declared.item.Item.TheVariants as items
use Rattle.grid_base.specs.declared.limits.TheConstants.{MOST_NODES}
use Rattle.grid_base.specs.declared.stamped_entry.StampedEntry.{StampedEntry}
use Rattle.grid_event.specs.declared.call_events.Ask.{Ask}
use Rattle.grid_event.specs.declared.config.Config.{Config}
use Rattle.grid_event.specs.declared.event.Event.{Event}
use Rattle.grid_event.specs.declared.event.Event.TheVariants as events
use Rattle.grid_event.specs.declared.outcome.Outcome.{Outcome}
use Rattle.grid_event.specs.declared.outcome.Outcome.TheVariants as outcomes
use Rattle.pipeline_expr.specs.declared.answer.Answer.{Answer}
use Rattle.pipeline_expr.specs.declared.answer.Answer.TheVariants as answers
use Rattle.segment_hash.specs.Segments.{segment_number}
use Rattle.topology_phase.specs.Owners.{Hash}
use Rattle.cluster_model.specs.Writes.{is_of_kind}

-- the key of an item, where the item is an entry
abbrev pub key_in : Item → List (List ℕ)
key_in (items.Entry e) = e.key ∷ []
key_in (items.Datum datum) = []

abbrev pub keys_in : List Item → List (List ℕ)
keys_in given = flat_map key_in given

-- the segments that an outcome names
abbrev pub segments_of : Outcome → List ℕ
segments_of (outcomes.Again rounds suspect) = suspect ∷ []
segments_of (outcomes.SegmentLost segment) = segment ∷ []
segments_of _ = []

-- the keys of the items that an answer lists, and those that an outcome names
abbrev pub keys_listed : Answer → List (List ℕ)
keys_listed (answers.List given) = keys_in given
keys_listed _ = []

abbrev pub keys_of : Outcome → List (List ℕ)
keys_of (outcomes.Value answer) = keys_listed answer
keys_of _ = []

-- the keys and the values of entries
abbrev pub entry_keys : List Entry → List (List ℕ)
entry_keys entries = map (λ (e : Entry). e.key) entries

abbrev pub entry_values : List Entry → List Datum
entry_values entries = map (λ (e : Entry). e.value) entries

-- all nodes that own a segment by a hash
abbrev pub owners_in : Hash → List ℕ
owners_in hash = flat_map (λ owners. owners) hash

-- all nodes that an event names
unfoldable pub nodes_named : Event → List ℕ
nodes_named (events.Write w) = w.node ∷ []
nodes_named (events.Erase e) = e.node ∷ []
nodes_named (events.Join node) = node ∷ []
nodes_named (events.Depart node) = node ∷ []
nodes_named (events.Announce topology) = owners_in topology.current ++ owners_in topology.pending
nodes_named (events.Install node id) = node ∷ []
nodes_named (events.Copy c) = c.receiver ∷ c.provider ∷ []
nodes_named (events.Land receiver segment) = receiver ∷ []
nodes_named (events.Invoke i) = i.node ∷ []
nodes_named (events.Round r) = map (λ (ask : Ask). ask.node) r.asks
nodes_named _ = []

-- all segments that an event names
unfoldable pub segments_named : Event → List ℕ
segments_named (events.Copy c) = c.segment ∷ []
segments_named (events.Land receiver segment) = segment ∷ []
segments_named (events.Round r) = map (λ (ask : Ask). ask.segment) r.asks
segments_named (events.Answer a) = segments_of a.outcome
segments_named _ = []

-- all keys that an event names
unfoldable pub keys_named : Event → List (List ℕ)
keys_named (events.Write w) = w.key ∷ []
keys_named (events.Erase e) = e.key ∷ []
keys_named (events.Copy c) = map (λ (e : StampedEntry). e.key) c.batch.entries
keys_named (events.Scan s) = entry_keys s.batch.entries
keys_named (events.Fetch f) = entry_keys f.batch.entries
keys_named (events.Take t) = entry_keys t.entries ++ keys_in t.given
keys_named (events.Answer a) = keys_of a.outcome
keys_named _ = []

-- all values that an event writes, copies or reads; items given and answers may have another kind
unfoldable pub values_named : Event → List Datum
values_named (events.Write w) = w.value ∷ []
values_named (events.Copy c) = map (λ (e : StampedEntry). e.stamped.value) c.batch.entries
values_named (events.Scan s) = entry_values s.batch.entries
values_named (events.Fetch f) = entry_values f.batch.entries
values_named (events.Take t) = entry_values t.entries
values_named _ = []

-- the cluster has what the event names: nodes below 16, segments in their limits, keys that have a segment, and values of its kind
abbrev pub names_known : Config → Event → Bool
names_known config event =
    list_all (λ node. nat_lt node MOST_NODES) (nodes_named event)
    && (list_all (λ segment. nat_lt segment config.segments) (segments_named event)
    && (list_all (λ key. is_some (segment_number config.partition config.segments key)) (keys_named event)
    && list_all (is_of_kind config.values) (values_named event)))
