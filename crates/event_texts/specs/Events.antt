-- The text of an event: the word of its kind, and its fields in their order.
use Rattle.std.specs.Prelude.{ℕ, Bool, true, false, Option, None, Some, List, [], ◌∷◌, ◌++◌, codes, decimal, map}
use Rattle.std.specs.Fmt.{signed_decimal}
use Rattle.std.specs.List.{join_with_byte}
use Rattle.grid_base.specs.Portion.{Portion}
use Rattle.grid_base.specs.declared.datum.Datum.{Datum}
use Rattle.grid_base.specs.declared.entry.Entry.{Entry}
use Rattle.delivery_mode.specs.declared.guarantee.Guarantee.{Guarantee}
use Rattle.delivery_mode.specs.declared.guarantee.Guarantee.TheVariants as guarantees
use Rattle.grid_event.specs.Taking.{Taking}
use Rattle.grid_event.specs.declared.call_events.Ask.{Ask}
use Rattle.grid_event.specs.declared.call_events.InvokeEvent.{InvokeEvent}
use Rattle.grid_event.specs.declared.call_events.RoundEvent.{RoundEvent}
use Rattle.grid_event.specs.declared.event.Event.{Event}
use Rattle.grid_event.specs.declared.event.Event.TheVariants as events
use Rattle.grid_event.specs.declared.outcome.Outcome.{Outcome}
use Rattle.grid_event.specs.declared.outcome.Outcome.TheVariants as outcomes
use Rattle.grid_event.specs.declared.request.Request.{Request}
use Rattle.grid_event.specs.declared.store_events.CopyEvent.{CopyEvent}
use Rattle.grid_event.specs.declared.store_events.EraseEvent.{EraseEvent}
use Rattle.grid_event.specs.declared.store_events.WriteEvent.{WriteEvent}
use Rattle.pipeline_expr.specs.declared.answer.Answer.{Answer}
use Rattle.pipeline_expr.specs.declared.answer.Answer.TheVariants as answers
use Rattle.pipeline_parse.specs.Grammar.{datum_text, text_of}
use Rattle.event_texts.specs.Topologies.{topology_text}
use Rattle.event_texts.specs.Words.{counted_text, entry_text, item_text, stamped_entry_text, until_text, words}

-- the word of a guarantee
abbrev pub guarantee_text : Guarantee → List ℕ
guarantee_text guarantees.Exact = codes "exact"
guarantee_text guarantees.AtLeast = codes "atleast"
guarantee_text guarantees.AtMost = codes "atmost"

-- a unit, its segment and the asked node
abbrev pub ask_text : Ask → List ℕ
ask_text ask = decimal ask.unit ++ (58 ∷ (decimal ask.segment ++ (64 ∷ decimal ask.node)))

-- the asks of a round, with a comma between each two
unfoldable pub asks_text : List Ask → List ℕ
asks_text asks = join_with_byte 44 (map ask_text asks)

-- whether more entries come after a batch
abbrev pub last_text : Bool → List ℕ
last_text true = codes "last"
last_text false = codes "more"

-- whether an asked unit runs
abbrev pub runs_text : Bool → List ℕ
runs_text true = codes "run"
runs_text false = codes "refuse"

-- the least or the greatest element, where there is one
abbrev pub best_text : Option Datum → List ℕ
best_text None = codes "none"
best_text (Some best) = datum_text best

-- the answer of a pipeline, by its end
unfoldable pub answer_text : Answer → List ℕ
answer_text (answers.Count number) = words (codes "count" ∷ decimal number ∷ [])
answer_text (answers.Sum number) = words (codes "sum" ∷ signed_decimal number ∷ [])
answer_text (answers.Best best) = words (codes "best" ∷ best_text best ∷ [])
answer_text (answers.List list) = words (codes "list" ∷ counted_text item_text list ∷ [])

-- how a call ended
unfoldable pub outcome_text : Outcome → List ℕ
outcome_text (outcomes.Value answer) = words (codes "value" ∷ answer_text answer ∷ [])
outcome_text outcomes.Ended = codes "ended"
outcome_text (outcomes.Again rounds suspect) = words (codes "again" ∷ decimal rounds ∷ decimal suspect ∷ [])
outcome_text (outcomes.SegmentLost segment) = words (codes "segment_lost" ∷ decimal segment ∷ [])
outcome_text outcomes.OriginatorLeft = codes "originator_left"

-- a write: who wrote it, at which node, its key, and its value with the deadline that it may have
unfoldable pub write_text : WriteEvent → List ℕ
write_text write =
    words (codes "write" ∷ decimal write.by ∷ decimal write.node ∷ write.key ∷ (datum_text write.value ++ until_text write.until) ∷ [])

-- an erasing: who erased, at which node, and the key
unfoldable pub erase_text : EraseEvent → List ℕ
erase_text erase = words (codes "erase" ∷ decimal erase.by ∷ decimal erase.node ∷ erase.key ∷ [])

-- a chunk: its receiver, its segment, its provider, the entries, and whether more come
unfoldable pub copy_text : CopyEvent → List ℕ
copy_text copy =
    words (
    codes "copy" ∷ decimal copy.receiver ∷ decimal copy.segment ∷ decimal copy.provider ∷ counted_text stamped_entry_text copy.batch.entries
    ∷ last_text copy.batch.last ∷ [])

-- what a call asks for
unfoldable pub request_text : Request → List ℕ
request_text request = words (guarantee_text request.guarantee ∷ decimal request.rounds ∷ decimal request.batch ∷ text_of request.pipeline ∷ [])

-- a call: who made it, its number, its originator, and what it asks for
unfoldable pub invoke_text : InvokeEvent → List ℕ
invoke_text invoke = words (codes "invoke" ∷ decimal invoke.by ∷ decimal invoke.call ∷ decimal invoke.node ∷ request_text invoke.request ∷ [])

-- a round: its call, the topology that the originator had installed, and its asks
unfoldable pub round_text : RoundEvent → List ℕ
round_text round = words (codes "round" ∷ decimal round.call ∷ decimal round.id ∷ asks_text round.asks ∷ [])

-- entries that a unit read or handed on, and whether more come
unfoldable pub batch_text : List ℕ → ℕ → Portion Entry → List ℕ
batch_text kind unit batch = words (kind ∷ decimal unit ∷ counted_text entry_text batch.entries ∷ last_text batch.last ∷ [])

-- what a call took of a unit, and what it gave to the user for it
unfoldable pub take_text : Taking → List ℕ
take_text take = words (codes "take" ∷ decimal take.unit ∷ counted_text entry_text take.entries ∷ counted_text item_text take.given ∷ [])

-- the word of the event's kind, and its fields
unfoldable pub event_text : Event → List ℕ
event_text (events.Write write) = write_text write
event_text (events.Erase erase) = erase_text erase
event_text (events.Tick ticks) = words (codes "tick" ∷ decimal ticks ∷ [])
event_text (events.Join node) = words (codes "join" ∷ decimal node ∷ [])
event_text (events.Depart node) = words (codes "depart" ∷ decimal node ∷ [])
event_text (events.Announce topology) = words (codes "announce" ∷ topology_text topology ∷ [])
event_text (events.Install node id) = words (codes "install" ∷ decimal node ∷ decimal id ∷ [])
event_text (events.Copy copy) = copy_text copy
event_text (events.Land receiver segment) = words (codes "land" ∷ decimal receiver ∷ decimal segment ∷ [])
event_text (events.Invoke invoke) = invoke_text invoke
event_text (events.Round round) = round_text round
event_text (events.Begin unit runs) = words (codes "begin" ∷ decimal unit ∷ runs_text runs ∷ [])
event_text (events.Scan scan) = batch_text (codes "scan") scan.unit scan.batch
event_text (events.Fetch fetch) = batch_text (codes "fetch") fetch.unit fetch.batch
event_text (events.Take take) = take_text take
event_text (events.Done unit) = words (codes "done" ∷ decimal unit ∷ [])
event_text (events.Answer answer) = words (codes "answer" ∷ decimal answer.call ∷ outcome_text answer.outcome ∷ [])
