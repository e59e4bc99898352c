-- The lines of a script of a stepped run: a definition for each kind of line, in the order in which its faults are told.
use Rattle.std.specs.Prelude.{ℕ, ◌+◌, ◌≤◌, List, [], ◌∷◌, ◌++◌, Option, Some, None, Ok, codes}
use Rattle.std.specs.FinSet as set
use Rattle.grid_base.specs.declared.limits.TheConstants.{LAST_CALL, LAST_CLOCK}
use Rattle.grid_event.specs.declared.command.Command.TheVariants as command
use Rattle.pipeline_parse.specs.Reading.{datum_at, literal_at}
use Rattle.grid_script.specs.declared.asked.Asked.{Asked}
use Rattle.grid_script.specs.declared.known.Known.{Known}
use Rattle.grid_script.specs.declared.members.Members.{Members}
use Rattle.grid_script.specs.declared.order.Order.{Order}
use Rattle.grid_script.specs.declared.order.Order.TheVariants.{One, Settle, Finish}
use Rattle.grid_script.specs.declared.put_words.PutWords.{PutWords}
use Rattle.grid_script.specs.declared.call_words.CallWords.{CallWords}
use Rattle.grid_script.specs.declared.words.StepWord.{StepWord}
use Rattle.grid_script.specs.declared.words.StepWord.TheVariants as step
use Rattle.grid_script.specs.declared.words.CopyWord.{CopyWord}
use Rattle.grid_script.specs.declared.words.CopyWord.TheVariants as copies
use Rattle.grid_script.specs.declared.words.CallWord.{CallWord}
use Rattle.grid_script.specs.declared.words.CallWord.TheVariants as calls
use Rattle.grid_script.specs.declared.words.UnitWord.{UnitWord}
use Rattle.grid_script.specs.declared.words.UnitWord.TheVariants as units
use Rattle.grid_script.specs.declared.words.BareWord.{BareWord}
use Rattle.grid_script.specs.declared.words.BareWord.TheVariants as bare
use Rattle.grid_script.specs.Fields.{end_at, key_field, last_key, last_number, number_field, pipeline_of}
use Rattle.grid_script.specs.Judging.{Judged, ◌>>=◌, spelt}
use Rattle.grid_script.specs.Rules.{call_within, needs_kind, needs_segment, needs_live, needs_made, needs_new, needs_typed, lifespan_within, may_depart, may_join, node_within, request_within, segment_within, ticks_within, with_departed, with_joined}
use Rattle.grid_script.specs.Sets.{Calls}
use Rattle.grid_script.specs.Words.{guarantee_at, step_word_at}

-- behind a value stands nothing, or ` for ` and a lifespan
abbrev pub lifespan_in : List ℕ → Judged (Option ℕ)
lifespan_in [] = Ok None
lifespan_in (b ∷ s) = spelt (literal_at (codes " for ") (b ∷ s)) >>= (λ rest. spelt (last_number rest) >>= (λ n. Ok (Some n)))

-- the fields of a put: a node, a key, a value and perhaps a lifespan
unfoldable pub put_words : List ℕ → Judged PutWords
put_words s = do
  node ← spelt (number_field s)
  key ← spelt (key_field node.1)
  datum ← spelt (datum_at key.1)
  lifespan ← lifespan_in datum.1
  Ok (record { node = node.0; key = key.0; datum = datum.0; lifespan = lifespan })

-- `put NODE KEY DATUM`, or that with ` for LIFESPAN`
unfoldable pub put_in : Known → List ℕ → Judged Order
put_in known s = do
  words ← put_words s
  node ← node_within words.node
  lifespan ← lifespan_within words.lifespan
  live ← needs_live known.members node
  segment ← needs_segment known.config words.key
  kind ← needs_kind known.config words.datum
  Ok (One (command.Put 0 node words.key words.datum lifespan))

-- `erase NODE KEY`
unfoldable pub erase_in : Known → List ℕ → Judged Order
erase_in known s = do
  number ← spelt (number_field s)
  key ← spelt (last_key number.1)
  node ← node_within number.0
  live ← needs_live known.members node
  segment ← needs_segment known.config key
  Ok (One (command.Erase 0 node key))

-- what a call asks for: `GUARANTEE ROUNDS BATCH PIPELINE`
unfoldable pub asked_in : List ℕ → Judged Asked
asked_in s = do
  word ← spelt (guarantee_at s)
  rounds ← spelt (number_field word.1)
  batch ← spelt (number_field rounds.1)
  pipeline ← spelt (pipeline_of batch.1)
  Ok (record { guarantee = word.0.guarantee; rounds = rounds.0; batch = batch.0; pipeline = pipeline })

-- the fields of a call: `CALL NODE`, and what it asks for
unfoldable pub call_words : List ℕ → Judged CallWords
call_words s = do
  call ← spelt (number_field s)
  node ← spelt (number_field call.1)
  asked ← asked_in node.1
  Ok (record { call = call.0; node = node.0; asked = asked })

-- `call CALL NODE GUARANTEE ROUNDS BATCH PIPELINE`
unfoldable pub call_in : Known → List ℕ → Judged Order
call_in known s = do
  words ← call_words s
  call ← call_within words.call
  node ← node_within words.node
  request ← request_within words.asked
  live ← needs_live known.members node
  new ← needs_new known.calls call
  typed ← needs_typed known.config request.pipeline
  Ok (One (command.Call 0 call node request))

-- `tick NUMBER`
unfoldable pub tick_in : Known → List ℕ → Judged Order
tick_in known s = do
  number ← spelt (last_number s)
  ticks ← ticks_within known.ticks number
  Ok (One (command.Tick ticks))

-- `join NODE`
unfoldable pub join_in : Known → List ℕ → Judged Order
join_in known s = do
  number ← spelt (last_number s)
  node ← node_within number
  new ← may_join known.members node
  Ok (One (command.Join node))

-- `depart NODE`
unfoldable pub depart_in : Known → List ℕ → Judged Order
depart_in known s = do
  number ← spelt (last_number s)
  node ← node_within number
  further ← may_depart known.members node
  Ok (One (command.Depart node))

-- `install NODE`
unfoldable pub install_in : Known → List ℕ → Judged Order
install_in known s = do
  number ← spelt (last_number s)
  node ← node_within number
  live ← needs_live known.members node
  Ok (One (command.Install node))

abbrev pub copy_order : CopyWord → ℕ → ℕ → Order
copy_order copies.Copy node segment = One (command.Copy node segment)
copy_order copies.Land node segment = One (command.Land node segment)

-- `copy NODE SEGMENT`, `land NODE SEGMENT`
unfoldable pub copy_in : Known → CopyWord → List ℕ → Judged Order
copy_in known word s = do
  first ← spelt (number_field s)
  second ← spelt (last_number first.1)
  node ← node_within first.0
  segment ← segment_within known.config second
  live ← needs_live known.members node
  Ok (copy_order word node segment)

abbrev pub call_order : CallWord → ℕ → Order
call_order calls.Round call = One (command.Round call)
call_order calls.Answer call = One (command.Answer call)
call_order calls.Drive call = One (command.Drive call)
call_order calls.Finish call = Finish call

-- `round CALL`, `answer CALL`, `drive CALL`, `finish CALL`
unfoldable pub made_call_in : Known → CallWord → List ℕ → Judged Order
made_call_in known word s = do
  number ← spelt (last_number s)
  call ← call_within number
  made ← needs_made known.calls call
  Ok (call_order word call)

abbrev pub unit_order : UnitWord → ℕ → ℕ → Order
unit_order units.Begin call segment = One (command.Begin call segment)
unit_order units.Scan call segment = One (command.Scan call segment)
unit_order units.Fetch call segment = One (command.Fetch call segment)
unit_order units.Take call segment = One (command.Take call segment)
unit_order units.Done call segment = One (command.Done call segment)

-- `begin CALL SEGMENT`, `scan CALL SEGMENT`, `fetch CALL SEGMENT`, `take CALL SEGMENT`, `done CALL SEGMENT`
unfoldable pub unit_in : Known → UnitWord → List ℕ → Judged Order
unit_in known word s = do
  first ← spelt (number_field s)
  second ← spelt (last_number first.1)
  call ← call_within first.0
  segment ← segment_within known.config second
  made ← needs_made known.calls call
  Ok (unit_order word call segment)

abbrev pub bare_order : BareWord → Order
bare_order bare.Announce = One command.Announce
bare_order bare.Advance = One command.Advance
bare_order bare.Settle = Settle

-- `announce`, `advance`, `settle`
unfoldable pub bare_in : BareWord → List ℕ → Judged Order
bare_in word s = do
  nothing ← spelt (end_at s)
  Ok (bare_order word)

-- the order of a line, behind its first word
abbrev pub fields_in : Known → StepWord → List ℕ → Judged Order
fields_in known step.Put s = put_in known s
fields_in known step.Erase s = erase_in known s
fields_in known step.Call s = call_in known s
fields_in known step.Tick s = tick_in known s
fields_in known step.Join s = join_in known s
fields_in known step.Depart s = depart_in known s
fields_in known step.Install s = install_in known s
fields_in known (step.Copies word) s = copy_in known word s
fields_in known (step.Calls word) s = made_call_in known word s
fields_in known (step.Units word) s = unit_in known word s
fields_in known (step.Bare word) s = bare_in word s

-- the order of a line
unfoldable pub order_in : Known → List ℕ → Judged Order
order_in known s = do
  word ← spelt (step_word_at s)
  fields_in known word.0 word.1

-- the members behind an order
abbrev pub members_after : Members → Order → Members
members_after members (One (command.Join node)) = with_joined members node
members_after members (One (command.Depart node)) = with_departed members node
members_after members _ = members

-- the calls that were made, behind an order
abbrev pub calls_after : Calls → Order → Calls
calls_after calls (One (command.Call by call node request)) = set.insert calls call
calls_after calls _ = calls

-- the sum of the ticks, behind an order
abbrev pub ticks_after : ℕ → Order → ℕ
ticks_after before (One (command.Tick ticks)) = before + ticks
ticks_after before _ = before

-- what an order changes: the members, the calls that were made, and the ticks
unfoldable pub noted : Known → Order → Known
noted known order = record {
  config = known.config;
  members = members_after known.members order;
  calls = calls_after known.calls order;
  ticks = ticks_after known.ticks order;
  lines = known.lines;
}

-- what is known behind the line of this number with this order
unfoldable pub with_order : Known → ℕ → Order → Known
with_order known n order = record {
  config = known.config;
  members = members_after known.members order;
  calls = calls_after known.calls order;
  ticks = ticks_after known.ticks order;
  lines = known.lines ++ record { line = n; order = order } ∷ [];
}

-- the numbers that are noted of an order are in their limits
abbrev pub IsNoted : ℕ → Order → Type 0
IsNoted before (One (command.Join node)) = node ≤ 15
IsNoted before (One (command.Call by call node request)) = call ≤ LAST_CALL
IsNoted before (One (command.Tick ticks)) = before + ticks ≤ LAST_CLOCK
IsNoted before _ = Unit {0}
