-- Which events keep the ranges of their fields' types.
use Rattle.std.specs.Prelude.{ℕ, Bool, true, false, ◌&&◌, not, ◌==◌, nat_le, nat_lt, Option, None, Some, List, [], ◌∷◌, ◌++◌, length}
use Rattle.std.specs.List.{list_all}
use Rattle.grid_base.specs.Key.{is_key}
use Rattle.grid_base.specs.declared.datum.Datum.{Datum}
use Rattle.grid_base.specs.declared.entry.Entry.{Entry}
use Rattle.grid_base.specs.declared.item.Item.{Item}
use Rattle.grid_base.specs.declared.item.Item.TheVariants as items
use Rattle.grid_base.specs.declared.stamped.Stamped.{Stamped}
use Rattle.grid_base.specs.declared.stamped_entry.StampedEntry.{StampedEntry}
use Rattle.grid_event.specs.declared.call_events.Ask.{Ask}
use Rattle.grid_event.specs.declared.event.Event.{Event}
use Rattle.grid_event.specs.declared.event.Event.TheVariants as events
use Rattle.grid_event.specs.declared.outcome.Outcome.{Outcome}
use Rattle.grid_event.specs.declared.outcome.Outcome.TheVariants as outcomes
use Rattle.grid_event.specs.declared.request.Request.{Request}
use Rattle.pipeline_expr.specs.declared.answer.Answer.{Answer}
use Rattle.pipeline_expr.specs.declared.answer.Answer.TheVariants as answers
use Rattle.pipeline_expr.specs.declared.pipeline.Pipeline.{Pipeline}
use Rattle.pipeline_parse.specs.Grammar.{datum_fits, fits, int_fits, text_of}
use Rattle.topology_phase.specs.Owners.{Hash, among}
use Rattle.topology_phase.specs.Topologies.{Topology}
use Rattle.topology_phase.specs.declared.phase.Phase.{Phase}
use Rattle.topology_phase.specs.declared.phase.Phase.TheVariants.{NoRebalance, ReadOld, ReadAll, ReadNew}

-- whether a number has 8, 16, 32 or 64 bits
abbrev pub is_u8 : ℕ → Bool
is_u8 n = nat_le n 255

abbrev pub is_u16 : ℕ → Bool
is_u16 n = nat_le n 65535

abbrev pub is_u32 : ℕ → Bool
is_u32 n = nat_le n 4294967295

abbrev pub is_u64 : ℕ → Bool
is_u64 n = nat_le n 18446744073709551615

-- a list of so many items as 64 bits count, each of which fits
abbrev pub all_fit : {T : Type 0} → (T → Bool) → List T → Bool
all_fit one list = is_u64 (length list) && list_all one list

-- no deadline, or one of 32 bits
abbrev pub until_fits : Option ℕ → Bool
until_fits None = true
until_fits (Some deadline) = is_u32 deadline

-- a value and its deadline
abbrev pub stamped_fits : Stamped → Bool
stamped_fits stamped = datum_fits stamped.value && until_fits stamped.until

-- a key and its value
abbrev pub entry_fits : Entry → Bool
entry_fits entry = is_key entry.key && datum_fits entry.value

-- a key and its value with its deadline
abbrev pub stamped_entry_fits : StampedEntry → Bool
stamped_entry_fits entry = is_key entry.key && stamped_fits entry.stamped

-- an entry or a value
abbrev pub item_fits : Item → Bool
item_fits (items.Entry entry) = entry_fits entry
item_fits (items.Datum datum) = datum_fits datum

-- none of some things is barred by those before it
abbrev pub none_barred : {T : Type 0} → (T → List T → Bool) → List T → List T → Bool
none_barred bars before [] = true
none_barred bars before (t ∷ list) = not (bars t before) && none_barred bars (before ++ t ∷ []) list

-- owners of whom none stands among those before him
abbrev pub are_owners : List ℕ → Bool
are_owners owners = none_barred among [] owners && list_all is_u8 owners

-- at most four owners, none of which stands among those before it
abbrev pub owners_fit : List ℕ → Bool
owners_fit owners = nat_le (length owners) 4 && are_owners owners

-- 1 to 256 segments, each with owners that fit
abbrev pub hash_fits : Hash → Bool
hash_fits hash = nat_lt 0 (length hash) && (nat_le (length hash) 256 && list_all owners_fit hash)

-- whether a hash has no segment
abbrev pub is_no_hash : Hash → Bool
is_no_hash [] = true
is_no_hash (owners ∷ hash) = false

-- a pending hash is there exactly in a rebalance, with as many segments as the current one
abbrev pub pending_fits : Phase → Hash → Hash → Bool
pending_fits NoRebalance current pending = is_no_hash pending
pending_fits ReadOld current pending = hash_fits pending && (length pending == length current)
pending_fits ReadAll current pending = hash_fits pending && (length pending == length current)
pending_fits ReadNew current pending = hash_fits pending && (length pending == length current)

-- a topology: its number, its hash, and the pending hash
abbrev pub topology_fits : Topology → Bool
topology_fits topology =
    is_u32 topology.id && (hash_fits topology.current && pending_fits topology.phase topology.current topology.pending)

-- a pipeline whose text has at most 1,024 bytes
abbrev pub pipeline_fits : Pipeline → Bool
pipeline_fits pipeline = fits pipeline && nat_le (length (text_of pipeline)) 1024

-- what a call asks for
abbrev pub request_fits : Request → Bool
request_fits request = is_u8 request.rounds && (is_u16 request.batch && pipeline_fits request.pipeline)

-- a unit, its segment and the asked node
abbrev pub ask_fits : Ask → Bool
ask_fits ask = is_u32 ask.unit && (is_u16 ask.segment && is_u8 ask.node)

-- no element, or one that fits
abbrev pub best_fits : Option Datum → Bool
best_fits None = true
best_fits (Some best) = datum_fits best

-- the answer of a pipeline
abbrev pub answer_fits : Answer → Bool
answer_fits (answers.Count number) = is_u64 number
answer_fits (answers.Sum number) = int_fits number
answer_fits (answers.Best best) = best_fits best
answer_fits (answers.List list) = all_fit item_fits list

-- how a call ended
abbrev pub outcome_fits : Outcome → Bool
outcome_fits (outcomes.Value answer) = answer_fits answer
outcome_fits outcomes.Ended = true
outcome_fits (outcomes.Again rounds suspect) = is_u8 rounds && is_u16 suspect
outcome_fits (outcomes.SegmentLost segment) = is_u16 segment
outcome_fits outcomes.OriginatorLeft = true

-- each field of the event is in the range of its type, and the text of a pipeline has at most 1,024 bytes
unfoldable pub event_fits : Event → Bool
event_fits (events.Write write) = is_u16 write.by && (is_u8 write.node && (is_key write.key && (datum_fits write.value && until_fits write.until)))
event_fits (events.Erase erase) = is_u16 erase.by && (is_u8 erase.node && is_key erase.key)
event_fits (events.Tick ticks) = is_u32 ticks
event_fits (events.Join node) = is_u8 node
event_fits (events.Depart node) = is_u8 node
event_fits (events.Announce topology) = topology_fits topology
event_fits (events.Install node id) = is_u8 node && is_u32 id
event_fits (events.Copy copy) =
    is_u8 copy.receiver && (is_u16 copy.segment && (is_u8 copy.provider && all_fit stamped_entry_fits copy.batch.entries))
event_fits (events.Land receiver segment) = is_u8 receiver && is_u16 segment
event_fits (events.Invoke invoke) = is_u16 invoke.by && (is_u32 invoke.call && (is_u8 invoke.node && request_fits invoke.request))
event_fits (events.Round round) = is_u32 round.call && (is_u32 round.id && list_all ask_fits round.asks)
event_fits (events.Begin unit runs) = is_u32 unit
event_fits (events.Scan scan) = is_u32 scan.unit && all_fit entry_fits scan.batch.entries
event_fits (events.Fetch fetch) = is_u32 fetch.unit && all_fit entry_fits fetch.batch.entries
event_fits (events.Take take) = is_u32 take.unit && (all_fit entry_fits take.entries && all_fit item_fits take.given)
event_fits (events.Done unit) = is_u32 unit
event_fits (events.Answer answer) = is_u32 answer.call && outcome_fits answer.outcome

-- the text of the event's pipeline, where it has one, has at most 1,024 bytes
abbrev pub is_short : Event → Bool
is_short (events.Invoke invoke) = nat_le (length (text_of invoke.request.pipeline)) 1024
is_short _ = true
