-- Readers of events: what stands at the front of some bytes, and what is left behind it.
use Rattle.std.specs.Prelude.{ℕ, zero, suc, Bool, true, false, nat_le, Option, None, Some, Result, Ok, Err, List, [], ◌∷◌, ◌++◌, length, codes, if◌then◌else◌}
use Rattle.std.specs.Option.{unwrap_or}
use Rattle.grid_base.specs.Portion.{Portion}
use Rattle.grid_base.specs.declared.datum.Datum.{Datum}
use Rattle.grid_base.specs.declared.entry.Entry.{Entry}
use Rattle.grid_base.specs.declared.item.Item.{Item}
use Rattle.grid_base.specs.declared.item.Item.TheVariants as items
use Rattle.grid_base.specs.declared.stamped_entry.StampedEntry.{StampedEntry}
use Rattle.delivery_mode.specs.declared.guarantee.Guarantee.{Guarantee}
use Rattle.delivery_mode.specs.declared.guarantee.Guarantee.TheVariants as guarantees
use Rattle.grid_event.specs.Taking.{Taking}
use Rattle.grid_event.specs.declared.call_events.AnswerEvent.{AnswerEvent}
use Rattle.grid_event.specs.declared.call_events.Ask.{Ask}
use Rattle.grid_event.specs.declared.call_events.InvokeEvent.{InvokeEvent}
use Rattle.grid_event.specs.declared.call_events.RoundEvent.{RoundEvent}
use Rattle.grid_event.specs.declared.event.Event.{Event}
use Rattle.grid_event.specs.declared.event.Event.TheVariants as events
use Rattle.grid_event.specs.declared.outcome.Outcome.{Outcome}
use Rattle.grid_event.specs.declared.outcome.Outcome.TheVariants as outcomes
use Rattle.grid_event.specs.declared.request.Request.{Request}
use Rattle.grid_event.specs.declared.store_events.CopyEvent.{CopyEvent}
use Rattle.grid_event.specs.declared.store_events.EraseEvent.{EraseEvent}
use Rattle.grid_event.specs.declared.store_events.WriteEvent.{WriteEvent}
use Rattle.pipeline_expr.specs.declared.answer.Answer.{Answer}
use Rattle.pipeline_expr.specs.declared.answer.Answer.TheVariants as answers
use Rattle.pipeline_expr.specs.declared.pipeline.Pipeline.{Pipeline}
use Rattle.pipeline_parse.specs.Parsing.{pipeline_at}
use Rattle.pipeline_parse.specs.Reading.{Read, datum_at, int_at, is_digit, key_at, literal_at, number_at, word_at}
use Rattle.topology_phase.specs.Owners.{Hash, among}
use Rattle.topology_phase.specs.Topologies.{Topology, makes_topology}
use Rattle.topology_phase.specs.declared.phase.Phase.{Phase}
use Rattle.topology_phase.specs.declared.phase.Phase.TheVariants.{NoRebalance, ReadOld, ReadAll, ReadNew}
use Rattle.event_texts.specs.Kinds.{Kind, kind_word, kinds}
use Rattle.event_texts.specs.declared.kind.Kind.TheVariants as kind

-- what was read and the bytes behind it, or none where the bytes don't go on so
abbrev pub Reading : Type 0 → Type 0
Reading A = Option (A × List ℕ)

-- a reading of another text, without the place where it stopped
abbrev pub found : {A : Type 0} → Read A → Reading A
found (Ok p) = Some p
found (Err left) = None

-- one reading behind another
abbrev pub after : {A B : Type 0} → Reading A → (A → List ℕ → Reading B) → Reading B
after None next = None
after (Some p) next = next p.0 p.1

-- by whether a word stands in front
abbrev pub by_word : {A : Type 0} → Result (List ℕ) ℕ → (List ℕ → A) → A → A
by_word (Ok rest) there other = there rest
by_word (Err left) there other = other

-- a reading behind a word
abbrev pub behind : {A : Type 0} → List ℕ → (List ℕ → Reading A) → List ℕ → Reading A
behind word read s = by_word (literal_at word s) read None

-- two readings in a row
abbrev pub pairs : {A B : Type 0} → (List ℕ → Reading A) → (List ℕ → Reading B) → List ℕ → Reading (A × B)
pairs first second s = after (first s) (λ a rest. after (second rest) (λ b rest. Some ((a, b), rest)))

-- what is made of a reading
abbrev pub made : {A B : Type 0} → (A → B) → (List ℕ → Reading A) → List ℕ → Reading B
made make read s = after (read s) (λ a rest. Some (make a, rest))

-- the first of two readings where its word stands in front, and else the other
abbrev pub choice : {A : Type 0} → List ℕ → (List ℕ → Reading A) → (List ℕ → Reading A) → List ℕ → Reading A
choice word there other s = by_word (literal_at word s) there (other s)

-- nothing more is read
abbrev pub just : {A : Type 0} → A → List ℕ → Reading A
just a s = Some (a, s)

-- no reading
abbrev pub nothing : {A : Type 0} → List ℕ → Reading A
nothing s = None

-- a number up to a limit, a value and a key, each alone and behind a blank
abbrev pub number : ℕ → List ℕ → Reading ℕ
number limit s = found (number_at limit s)

abbrev pub number_in : ℕ → List ℕ → Reading ℕ
number_in limit = behind (codes " ") (number limit)

abbrev pub datum : List ℕ → Reading Datum
datum s = found (datum_at s)

abbrev pub key : List ℕ → Reading (List ℕ)
key s = found (key_at s)

abbrev pub key_in : List ℕ → Reading (List ℕ)
key_in = behind (codes " ") key

-- a deadline behind a tilde, or none
abbrev pub until : List ℕ → Reading (Option ℕ)
until = choice (codes "~") (made Some (number 4294967295)) (just None)

-- a key and its value
unfoldable pub plain_entry : List ℕ → Reading Entry
plain_entry = made (λ p. record { key = p.0; value = p.1 }) (pairs key (behind (codes " ") datum))

-- a key and its value with its deadline
unfoldable pub stamped_entry : List ℕ → Reading StampedEntry
stamped_entry =
    made (λ p. record { key = p.0; stamped = record { value = p.1.0; until = p.1.1 } }) (pairs key (pairs (behind (codes " ") datum) until))

-- an entry behind an at sign, or a value
unfoldable pub item : List ℕ → Reading Item
item = choice (codes "@") (made items.Entry plain_entry) (made items.Datum datum)

-- so many further texts, each behind a blank, behind those that are read already
abbrev pub times : {T : Type 0} → (List ℕ → Reading T) → ℕ → List T → List ℕ → Reading (List T)
times one zero list s = Some (list, s)
times one (suc n) list s = after (behind (codes " ") one s) (λ t rest. times one n (list ++ t ∷ []) rest)

-- how many texts there are, behind a blank, and the texts
unfoldable pub counted_in : {T : Type 0} → (List ℕ → Reading T) → List ℕ → Reading (List T)
counted_in one s = after (number_in 18446744073709551615 s) (λ n rest. times one n [] rest)

-- further texts, each behind a byte, behind those that are read already: so many at most, and none that is barred by those before it
abbrev pub more : {T : Type 0} → ℕ → (List ℕ → Reading T) → (T → List T → Bool) → ℕ → List T → List ℕ → Reading (List T)
more byte one bars zero list s = Some (list, s)
more byte one bars (suc room) list s =
    by_word (literal_at (byte ∷ []) s)
    (λ rest. after (one rest) (λ t rest. if bars t list then None else more byte one bars room (list ++ t ∷ []) rest))
    (Some (list, s))

-- nothing is barred
abbrev pub no_bar : {T : Type 0} → T → List T → Bool
no_bar t list = false

-- whether a digit stands in front
abbrev pub begins_number : List ℕ → Bool
begins_number [] = false
begins_number (b ∷ s) = is_digit b

-- the owners of a segment: at most four, no two of them alike
abbrev pub owners : List ℕ → Reading (List ℕ)
owners s = if begins_number s then after (number 255 s) (λ n rest. more 44 (number 255) among 3 (n ∷ []) rest) else Some ([], s)

-- a hash behind a blank
unfoldable pub hash_in : List ℕ → Reading Hash
hash_in = behind (codes " ") (λ s. after (owners s) (λ row rest. more 59 owners no_bar 255 (row ∷ []) rest))

-- a phase behind a blank
unfoldable pub phase_in : List ℕ → Reading Phase
phase_in =
    behind (codes " ")
    (choice (codes "NO_REBALANCE") (just NoRebalance)
    (choice (codes "READ_OLD_WRITE_ALL") (just ReadOld)
    (choice (codes "READ_ALL_WRITE_ALL") (just ReadAll) (choice (codes "READ_NEW_WRITE_ALL") (just ReadNew) nothing))))

-- the pending hash of a phase
abbrev pub pending_in : Phase → List ℕ → Reading (Option Hash)
pending_in NoRebalance = just None
pending_in ReadOld = made Some hash_in
pending_in ReadAll = made Some hash_in
pending_in ReadNew = made Some hash_in

-- the topology of these parts, where they make one
abbrev pub topology_of : ℕ → Phase → Hash → Option Hash → List ℕ → Reading Topology
topology_of id phase current pending s =
    if makes_topology phase current pending
    then Some (record { id = id; phase = phase; current = current; pending = unwrap_or pending [] }, s)
    else None

-- a topology
unfoldable pub topology_in : List ℕ → Reading Topology
topology_in s =
    after (number_in 4294967295 s)
    (λ id rest. after (phase_in rest)
    (λ phase rest. after (hash_in rest)
    (λ current rest. after (pending_in phase rest)
    (λ pending rest. topology_of id phase current pending rest))))

-- whether a batch is the last one, behind a blank
abbrev pub last_in : List ℕ → Reading Bool
last_in = behind (codes " ") (choice (codes "last") (just true) (choice (codes "more") (just false) nothing))

-- whether a unit runs, behind a blank
abbrev pub runs_in : List ℕ → Reading Bool
runs_in = behind (codes " ") (choice (codes "run") (just true) (choice (codes "refuse") (just false) nothing))

-- a guarantee behind a blank
unfoldable pub guarantee_in : List ℕ → Reading Guarantee
guarantee_in =
    behind (codes " ")
    (choice (codes "exact") (just guarantees.Exact)
    (choice (codes "atleast") (just guarantees.AtLeast) (choice (codes "atmost") (just guarantees.AtMost) nothing)))

-- a whole text as a pipeline
abbrev pub whole_pipeline : Result Pipeline ℕ → Reading Pipeline
whole_pipeline (Ok pipeline) = Some (pipeline, [])
whole_pipeline (Err left) = None

abbrev pub pipeline : List ℕ → Reading Pipeline
pipeline s = if nat_le (length s) 1024 then whole_pipeline (pipeline_at (suc (length s)) s) else None

-- a unit, its segment and the asked node
unfoldable pub ask : List ℕ → Reading Ask
ask =
    made (λ p. record { unit = p.0; segment = p.1.0; node = p.1.1 })
    (pairs (number 4294967295) (pairs (behind (codes ":") (number 65535)) (behind (codes "@") (number 255))))

-- the asks of a round
unfoldable pub asks : List ℕ → Reading (List Ask)
asks s = if begins_number s then after (ask s) (λ first rest. more 44 ask no_bar (length rest) (first ∷ []) rest) else Some ([], s)

-- the answer of a pipeline, behind a blank
unfoldable pub answer_in : List ℕ → Reading Answer
answer_in =
    behind (codes " ")
    (choice (codes "count") (made answers.Count (number_in 18446744073709551615))
    (choice (codes "sum") (made answers.Sum (behind (codes " ") (λ s. found (int_at s))))
    (choice (codes "best") (made answers.Best (behind (codes " ") (choice (codes "none") (just None) (made Some datum))))
    (choice (codes "list") (made answers.List (counted_in item)) nothing))))

-- how a call ended, behind a blank
unfoldable pub outcome_in : List ℕ → Reading Outcome
outcome_in =
    behind (codes " ")
    (choice (codes "value") (made outcomes.Value answer_in)
    (choice (codes "ended") (just outcomes.Ended)
    (choice (codes "again") (made (λ p. outcomes.Again p.0 p.1) (pairs (number_in 255) (number_in 65535)))
    (choice (codes "segment_lost") (made outcomes.SegmentLost (number_in 65535))
    (choice (codes "originator_left") (just outcomes.OriginatorLeft) nothing)))))

-- the fields of each kind of event
unfoldable pub write_in : List ℕ → Reading WriteEvent
write_in =
    made (λ p. record { by = p.0; node = p.1.0; key = p.1.1.0; value = p.1.1.1.0; until = p.1.1.1.1 })
    (pairs (number_in 65535) (pairs (number_in 255) (pairs key_in (pairs (behind (codes " ") datum) until))))

unfoldable pub erase_in : List ℕ → Reading EraseEvent
erase_in = made (λ p. record { by = p.0; node = p.1.0; key = p.1.1 }) (pairs (number_in 65535) (pairs (number_in 255) key_in))

unfoldable pub copy_in : List ℕ → Reading CopyEvent
copy_in =
    made (λ p. record { receiver = p.0; segment = p.1.0; provider = p.1.1.0; batch = record { entries = p.1.1.1.0; last = p.1.1.1.1 } })
    (pairs (number_in 255) (pairs (number_in 65535) (pairs (number_in 255) (pairs (counted_in stamped_entry) last_in))))

unfoldable pub request_in : List ℕ → Reading Request
request_in =
    made (λ p. record { guarantee = p.0; rounds = p.1.0; batch = p.1.1.0; pipeline = p.1.1.1 })
    (pairs guarantee_in (pairs (number_in 255) (pairs (number_in 65535) (behind (codes " ") pipeline))))

unfoldable pub invoke_in : List ℕ → Reading InvokeEvent
invoke_in =
    made (λ p. record { by = p.0; call = p.1.0; node = p.1.1.0; request = p.1.1.1 })
    (pairs (number_in 65535) (pairs (number_in 4294967295) (pairs (number_in 255) request_in)))

unfoldable pub round_in : List ℕ → Reading RoundEvent
round_in =
    made (λ p. record { call = p.0; id = p.1.0; asks = p.1.1 })
    (pairs (number_in 4294967295) (pairs (number_in 4294967295) (behind (codes " ") asks)))

-- a unit, its entries, and whether they are the last
unfoldable pub batch_in : List ℕ → Reading (ℕ × Portion Entry)
batch_in =
    made (λ p. (p.0, record { entries = p.1.0; last = p.1.1 })) (pairs (number_in 4294967295) (pairs (counted_in plain_entry) last_in))

unfoldable pub take_in : List ℕ → Reading Taking
take_in =
    made (λ p. record { unit = p.0; entries = p.1.0; given = p.1.1 })
    (pairs (number_in 4294967295) (pairs (counted_in plain_entry) (counted_in item)))

unfoldable pub answer_event_in : List ℕ → Reading AnswerEvent
answer_event_in = made (λ p. record { call = p.0; outcome = p.1 }) (pairs (number_in 4294967295) outcome_in)

-- the fields of an event behind the word of its kind
unfoldable pub fields_in : Kind → List ℕ → Reading Event
fields_in kind.Write = made events.Write write_in
fields_in kind.Erase = made events.Erase erase_in
fields_in kind.Tick = made events.Tick (number_in 4294967295)
fields_in kind.Join = made events.Join (number_in 255)
fields_in kind.Depart = made events.Depart (number_in 255)
fields_in kind.Announce = made events.Announce topology_in
fields_in kind.Install = made (λ p. events.Install p.0 p.1) (pairs (number_in 255) (number_in 4294967295))
fields_in kind.Copy = made events.Copy copy_in
fields_in kind.Land = made (λ p. events.Land p.0 p.1) (pairs (number_in 255) (number_in 65535))
fields_in kind.Invoke = made events.Invoke invoke_in
fields_in kind.Round = made events.Round round_in
fields_in kind.Begin = made (λ p. events.Begin p.0 p.1) (pairs (number_in 4294967295) runs_in)
fields_in kind.Scan = made (λ p. events.Scan (record { unit = p.0; batch = p.1 })) batch_in
fields_in kind.Fetch = made (λ p. events.Fetch (record { unit = p.0; batch = p.1 })) batch_in
fields_in kind.Take = made events.Take take_in
fields_in kind.Done = made events.Done (number_in 4294967295)
fields_in kind.Answer = made events.Answer answer_event_in

-- what was read, where nothing is left
abbrev pub whole_of : {A : Type 0} → Reading A → Option A
whole_of (Some (x, [])) = Some x
whole_of (Some (x, b ∷ s)) = None
whole_of None = None

-- a whole text as an event
abbrev pub event_of : List ℕ → Option Event
event_of s = whole_of (after (found (word_at kind_word kinds s)) (λ k rest. fields_in k rest))
