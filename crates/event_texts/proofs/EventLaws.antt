-- The reading of events is exact.
use Rattle.std.proofs.Common.{◌≡◌, ℕ, Bool, true, false, ◌&&◌, List, [], ◌∷◌, ◌++◌, Option, Some, None, Result, Ok, Err, IfOk, refl, sym, ap, ◌∙◌}
use Rattle.std.specs.List.{list_all}
use Rattle.std.specs.Fmt.{decimal}
use Rattle.std.proofs.lemmas.List.{append-nil}
use Rattle.std.proofs.lemmas.Option.{none-some, same_Some}
use Rattle.grid_base.specs.Key.{is_key}
use Rattle.grid_base.specs.Portion.{Portion}
use Rattle.grid_base.specs.declared.datum.Datum.{Datum}
use Rattle.grid_base.specs.declared.entry.Entry.{Entry}
use Rattle.grid_base.specs.declared.item.Item.{Item}
use Rattle.grid_base.specs.declared.stamped_entry.StampedEntry.{StampedEntry}
use Rattle.grid_event.specs.Taking.{Taking}
use Rattle.grid_event.specs.declared.call_events.AnswerEvent.{AnswerEvent}
use Rattle.grid_event.specs.declared.call_events.Ask.{Ask}
use Rattle.grid_event.specs.declared.call_events.InvokeEvent.{InvokeEvent}
use Rattle.grid_event.specs.declared.call_events.RoundEvent.{RoundEvent}
use Rattle.grid_event.specs.declared.event.Event.{Event}
use Rattle.grid_event.specs.declared.event.Event.TheVariants as events
use Rattle.grid_event.specs.declared.outcome.Outcome.{Outcome}
use Rattle.grid_event.specs.declared.request.Request.{Request}
use Rattle.grid_event.specs.declared.store_events.CopyEvent.{CopyEvent}
use Rattle.grid_event.specs.declared.store_events.EraseEvent.{EraseEvent}
use Rattle.grid_event.specs.declared.store_events.WriteEvent.{WriteEvent}
use Rattle.pipeline_parse.specs.Grammar.{datum_fits, datum_text}
use Rattle.pipeline_parse.specs.Reading.{word_at}
use Rattle.pipeline_parse.proofs.Full.{calm}
use Rattle.pipeline_parse.proofs.WordLaws.{word_reads}
use Rattle.event_texts.specs.Events.{asks_text, batch_text, copy_text, erase_text, event_text, invoke_text, last_text, outcome_text, request_text, round_text, runs_text, take_text, write_text}
use Rattle.event_texts.specs.Fits.{all_fit, ask_fits, entry_fits, event_fits, is_u16, is_u32, is_u8, item_fits, outcome_fits, request_fits, stamped_entry_fits, until_fits}
use Rattle.event_texts.specs.Answers.{GivesOnly, GivesWhole}
use Rattle.event_texts.specs.declared.event_fault.EventFault.{EventFault}
use Rattle.event_texts.specs.declared.event_fault.EventFault.TheVariants as faults
use Rattle.event_texts.specs.Kinds.{Kind, kind_word, kinds}
use Rattle.event_texts.specs.declared.kind.Kind.TheVariants as kind
use Rattle.event_texts.specs.Reading.{Reading, after, answer_event_in, batch_in, copy_in, erase_in, event_of, fields_in, found, invoke_in, made, number_in, pairs, round_in, runs_in, take_in, whole_of, write_in}
use Rattle.event_texts.specs.Words.{counted_text, entry_text, item_text, stamped_entry_text, until_text}
use Rattle.event_texts.proofs.ReadLaws.{Law, SoundBehind, after_found, at_end, at_last, found_sound, made_behind, made_law, pair_law}
use Rattle.event_texts.proofs.NumberLaws.{key_law, until_law}
use Rattle.event_texts.proofs.FieldLaws.{any, blank_law, datum_in_law, entries_law, items_law, stamped_entries_law, tilde_is_calm, topology_in_law}
use Rattle.event_texts.proofs.CallLaws.{asks_law, last_law, outcome_law, request_law, runs_law, u16_law, u32_law, u8_law}

-- what is made of a reading, by its parts
record_law : {A B : Type 0} {ends : List ℕ → Bool} {text : A → List ℕ} {fits : A → Bool} {r : List ℕ → Reading A} (c : A → B) (d : B → A) → ((b : B) → c (d b) ≡ b) → ((a : A) → d (c a) ≡ a)
    → Law ends text fits r → Law ends (λ b. text (d b)) (λ b. fits (d b)) (made c r)
record_law {A} {B} {ends} {text} {fits} {r} c d back forth law = made_law c d (λ b. text (d b)) (λ b. fits (d b)) back (λ a. ap text (forth a)) (λ a. ap fits (forth a)) law

-- a test and one that passes, together, are the test
and_true : (b : Bool) → b ≡ (b && true)
and_true true = refl
and_true false = refl

-- what is read behind the word of each kind
write_law : Law at_end (λ (x : WriteEvent). (32 ∷ decimal x.by) ++ ((32 ∷ decimal x.node) ++ ((32 ∷ x.key) ++ ((32 ∷ datum_text x.value) ++ until_text x.until)))) (λ x. is_u16 x.by && (is_u8 x.node && (is_key x.key && (datum_fits x.value && until_fits x.until)))) write_in
unfolding write_in
write_law =
    record_law (λ (p : ℕ × (ℕ × (List ℕ × (Datum × Option ℕ)))). record { by = p.0; node = p.1.0; key = p.1.1.0; value = p.1.1.1.0; until = p.1.1.1.1 }) (λ (x : WriteEvent). (x.by, (x.node, (x.key, (x.value, x.until))))) (λ x. refl) (λ p. refl)
    (pair_law u16_law (pair_law u8_law (pair_law (blank_law key_law) (pair_law datum_in_law until_law tilde_is_calm) (λ x y e. refl)) (λ x y e. refl)) (λ x y e. refl))

-- erasures are read exactly
erase_law : Law at_end (λ (x : EraseEvent). (32 ∷ decimal x.by) ++ ((32 ∷ decimal x.node) ++ (32 ∷ x.key))) (λ x. is_u16 x.by && (is_u8 x.node && is_key x.key)) erase_in
unfolding erase_in
erase_law =
    record_law (λ (p : ℕ × (ℕ × List ℕ)). record { by = p.0; node = p.1.0; key = p.1.1 }) (λ (x : EraseEvent). (x.by, (x.node, x.key))) (λ x. refl) (λ p. refl)
    (pair_law u16_law (pair_law u8_law (blank_law key_law) (λ x y e. refl)) (λ x y e. refl))

-- so are copies
copy_law : Law at_end (λ (x : CopyEvent). (32 ∷ decimal x.receiver) ++ ((32 ∷ decimal x.segment) ++ ((32 ∷ decimal x.provider) ++ ((32 ∷ counted_text stamped_entry_text x.batch.entries) ++ (32 ∷ last_text x.batch.last))))) (λ x. is_u8 x.receiver && (is_u16 x.segment && (is_u8 x.provider && (all_fit stamped_entry_fits x.batch.entries && any x.batch.last)))) copy_in
unfolding copy_in
copy_law =
    record_law (λ (p : ℕ × (ℕ × (ℕ × (List StampedEntry × Bool)))). record { receiver = p.0; segment = p.1.0; provider = p.1.1.0; batch = record { entries = p.1.1.1.0; last = p.1.1.1.1 } }) (λ (x : CopyEvent). (x.receiver, (x.segment, (x.provider, (x.batch.entries, x.batch.last))))) (λ x. refl) (λ p. refl)
    (pair_law u8_law (pair_law u16_law (pair_law u8_law (pair_law stamped_entries_law last_law (λ x y e. refl)) (λ x y e. refl)) (λ x y e. refl)) (λ x y e. refl))

-- so are invocations
invoke_law : Law at_last (λ (x : InvokeEvent). (32 ∷ decimal x.by) ++ ((32 ∷ decimal x.call) ++ ((32 ∷ decimal x.node) ++ (32 ∷ request_text x.request)))) (λ x. is_u16 x.by && (is_u32 x.call && (is_u8 x.node && request_fits x.request))) invoke_in
unfolding invoke_in
invoke_law =
    record_law (λ (p : ℕ × (ℕ × (ℕ × Request))). record { by = p.0; call = p.1.0; node = p.1.1.0; request = p.1.1.1 }) (λ (x : InvokeEvent). (x.by, (x.call, (x.node, x.request)))) (λ x. refl) (λ p. refl)
    (pair_law u16_law (pair_law u32_law (pair_law u8_law request_law (λ x y e. refl)) (λ x y e. refl)) (λ x y e. refl))

-- so are rounds
round_law : Law at_end (λ (x : RoundEvent). (32 ∷ decimal x.call) ++ ((32 ∷ decimal x.id) ++ (32 ∷ asks_text x.asks))) (λ x. is_u32 x.call && (is_u32 x.id && list_all ask_fits x.asks)) round_in
unfolding round_in
round_law =
    record_law (λ (p : ℕ × (ℕ × List Ask)). record { call = p.0; id = p.1.0; asks = p.1.1 }) (λ (x : RoundEvent). (x.call, (x.id, x.asks))) (λ x. refl) (λ p. refl)
    (pair_law u32_law (pair_law u32_law (blank_law asks_law) (λ x y e. refl)) (λ x y e. refl))

-- so are batches of units
batch_law : Law at_end (λ (x : ℕ × Portion Entry). (32 ∷ decimal x.0) ++ ((32 ∷ counted_text entry_text x.1.entries) ++ (32 ∷ last_text x.1.last))) (λ x. is_u32 x.0 && (all_fit entry_fits x.1.entries && any x.1.last)) batch_in
unfolding batch_in
batch_law =
    record_law (λ (p : ℕ × (List Entry × Bool)). (p.0, record { entries = p.1.0; last = p.1.1 })) (λ (x : ℕ × Portion Entry). (x.0, (x.1.entries, x.1.last))) (λ x. refl) (λ p. refl)
    (pair_law u32_law (pair_law entries_law last_law (λ x y e. refl)) (λ x y e. refl))

-- so are takings
take_law : Law at_end (λ (x : Taking). (32 ∷ decimal x.unit) ++ ((32 ∷ counted_text entry_text x.entries) ++ (32 ∷ counted_text item_text x.given))) (λ x. is_u32 x.unit && (all_fit entry_fits x.entries && all_fit item_fits x.given)) take_in
unfolding take_in
take_law =
    record_law (λ (p : ℕ × (List Entry × List Item)). record { unit = p.0; entries = p.1.0; given = p.1.1 }) (λ (x : Taking). (x.unit, (x.entries, x.given))) (λ x. refl) (λ p. refl)
    (pair_law u32_law (pair_law entries_law items_law (λ x y e. refl)) (λ x y e. refl))

-- so are answers
answer_event_law : Law at_end (λ (x : AnswerEvent). (32 ∷ decimal x.call) ++ (32 ∷ outcome_text x.outcome)) (λ x. is_u32 x.call && outcome_fits x.outcome) answer_event_in
unfolding answer_event_in
answer_event_law =
    record_law (λ (p : ℕ × Outcome). record { call = p.0; outcome = p.1 }) (λ (x : AnswerEvent). (x.call, x.outcome)) (λ x. refl) (λ p. refl)
    (pair_law u32_law outcome_law (λ x y e. refl))

-- so are installations
install_law : Law calm (λ (p : ℕ × ℕ). (32 ∷ decimal p.0) ++ (32 ∷ decimal p.1)) (λ p. is_u8 p.0 && is_u32 p.1) (pairs (number_in 255) (number_in 4294967295))
install_law = pair_law u8_law u32_law (λ x y e. refl)

-- so are landings
land_law : Law calm (λ (p : ℕ × ℕ). (32 ∷ decimal p.0) ++ (32 ∷ decimal p.1)) (λ p. is_u8 p.0 && is_u16 p.1) (pairs (number_in 255) (number_in 65535))
land_law = pair_law u8_law u16_law (λ x y e. refl)

-- so are beginnings of units
begin_law : Law at_end (λ (p : ℕ × Bool). (32 ∷ decimal p.0) ++ (32 ∷ runs_text p.1)) (λ p. is_u32 p.0 && any p.1) (pairs (number_in 4294967295) runs_in)
begin_law = pair_law u32_law runs_law (λ x y e. refl)

-- the word of each kind is read
kind_full : (k : Kind) (z : List ℕ) → found (word_at kind_word kinds (kind_word k ++ z)) ≡ Some (k, z)
kind_full kind.Write z = refl
kind_full kind.Erase z = refl
kind_full kind.Tick z = refl
kind_full kind.Join z = refl
kind_full kind.Depart z = refl
kind_full kind.Announce z = refl
kind_full kind.Install z = refl
kind_full kind.Copy z = refl
kind_full kind.Land z = refl
kind_full kind.Invoke z = refl
kind_full kind.Round z = refl
kind_full kind.Begin z = refl
kind_full kind.Scan z = refl
kind_full kind.Fetch z = refl
kind_full kind.Take z = refl
kind_full kind.Done z = refl
kind_full kind.Answer z = refl

-- what is read behind the word of a kind is an event of that kind
fields_sound : (k : Kind) → SoundBehind (kind_word k) event_text event_fits (fields_in k)
unfolding event_text event_fits fields_in write_text erase_text copy_text invoke_text round_text batch_text take_text
fields_sound kind.Write = made_behind (kind_word kind.Write) events.Write event_text event_fits (λ x. refl) (λ x. refl) write_law
fields_sound kind.Erase = made_behind (kind_word kind.Erase) events.Erase event_text event_fits (λ x. refl) (λ x. refl) erase_law
fields_sound kind.Tick = made_behind (kind_word kind.Tick) events.Tick event_text event_fits (λ x. refl) (λ x. refl) u32_law
fields_sound kind.Join = made_behind (kind_word kind.Join) events.Join event_text event_fits (λ x. refl) (λ x. refl) u8_law
fields_sound kind.Depart = made_behind (kind_word kind.Depart) events.Depart event_text event_fits (λ x. refl) (λ x. refl) u8_law
fields_sound kind.Announce = made_behind (kind_word kind.Announce) events.Announce event_text event_fits (λ x. refl) (λ x. refl) topology_in_law
fields_sound kind.Install = made_behind (kind_word kind.Install) (λ (p : ℕ × ℕ). events.Install p.0 p.1) event_text event_fits (λ x. refl) (λ x. refl) install_law
fields_sound kind.Copy = made_behind (kind_word kind.Copy) events.Copy event_text event_fits (λ x. refl) (λ x. ap (λ t. is_u8 x.receiver && (is_u16 x.segment && (is_u8 x.provider && t))) (and_true (all_fit stamped_entry_fits x.batch.entries))) copy_law
fields_sound kind.Land = made_behind (kind_word kind.Land) (λ (p : ℕ × ℕ). events.Land p.0 p.1) event_text event_fits (λ x. refl) (λ x. refl) land_law
fields_sound kind.Invoke = made_behind (kind_word kind.Invoke) events.Invoke event_text event_fits (λ x. refl) (λ x. refl) invoke_law
fields_sound kind.Round = made_behind (kind_word kind.Round) events.Round event_text event_fits (λ x. refl) (λ x. refl) round_law
fields_sound kind.Begin = made_behind (kind_word kind.Begin) (λ (p : ℕ × Bool). events.Begin p.0 p.1) event_text event_fits (λ x. refl) (λ p. and_true (is_u32 p.0)) begin_law
fields_sound kind.Scan = made_behind (kind_word kind.Scan) (λ (p : ℕ × Portion Entry). events.Scan (record { unit = p.0; batch = p.1 })) event_text event_fits (λ x. refl) (λ p. ap (λ t. is_u32 p.0 && t) (and_true (all_fit entry_fits p.1.entries))) batch_law
fields_sound kind.Fetch = made_behind (kind_word kind.Fetch) (λ (p : ℕ × Portion Entry). events.Fetch (record { unit = p.0; batch = p.1 })) event_text event_fits (λ x. refl) (λ p. ap (λ t. is_u32 p.0 && t) (and_true (all_fit entry_fits p.1.entries))) batch_law
fields_sound kind.Take = made_behind (kind_word kind.Take) events.Take event_text event_fits (λ x. refl) (λ x. refl) take_law
fields_sound kind.Done = made_behind (kind_word kind.Done) events.Done event_text event_fits (λ x. refl) (λ x. refl) u32_law
fields_sound kind.Answer = made_behind (kind_word kind.Answer) events.Answer event_text event_fits (λ x. refl) (λ x. refl) answer_event_law

-- an event is read, where its fields are
full_by : {A : Type 0} {ends : List ℕ → Bool} {text : A → List ℕ} {fits : A → Bool} {r : List ℕ → Reading A} (k : Kind) (c : A → Event) (law : Law ends text fits r) (x : A) → ends [] ≡ true
    → ((z : List ℕ) → fields_in k z ≡ made c r z) → event_text (c x) ≡ kind_word k ++ text x → event_fits (c x) ≡ fits x → event_fits (c x) ≡ true → event_of (event_text (c x)) ≡ Some (c x)
full_by {A} {ends} {text} {fits} {r} k c law x ended fields same_text same_fits keeps =
    ap event_of (same_text ∙ ap (λ t. kind_word k ++ t) (sym (append-nil (text x))))
    ∙ ap (λ o. whole_of (after o (λ k rest. fields_in k rest))) (kind_full k (text x ++ []))
    ∙ ap whole_of (fields (text x ++ []) ∙ ap (λ o. after o (λ a rest. Some (c a, rest))) (law.full x [] (sym same_fits ∙ keeps) ended))

-- each event's text is read as that event
pub event_full : (e : Event) → event_fits e ≡ true → event_of (event_text e) ≡ Some e
unfolding event_text event_fits fields_in write_text erase_text copy_text invoke_text round_text batch_text take_text
event_full (events.Write x) keeps = full_by kind.Write events.Write write_law x refl (λ z. refl) refl refl keeps
event_full (events.Erase x) keeps = full_by kind.Erase events.Erase erase_law x refl (λ z. refl) refl refl keeps
event_full (events.Tick x) keeps = full_by kind.Tick events.Tick u32_law x refl (λ z. refl) refl refl keeps
event_full (events.Join x) keeps = full_by kind.Join events.Join u8_law x refl (λ z. refl) refl refl keeps
event_full (events.Depart x) keeps = full_by kind.Depart events.Depart u8_law x refl (λ z. refl) refl refl keeps
event_full (events.Announce x) keeps = full_by kind.Announce events.Announce topology_in_law x refl (λ z. refl) refl refl keeps
event_full (events.Install node id) keeps = full_by kind.Install (λ (p : ℕ × ℕ). events.Install p.0 p.1) install_law (node, id) refl (λ z. refl) refl refl keeps
event_full (events.Copy x) keeps = full_by kind.Copy events.Copy copy_law x refl (λ z. refl) refl (ap (λ t. is_u8 x.receiver && (is_u16 x.segment && (is_u8 x.provider && t))) (and_true (all_fit stamped_entry_fits x.batch.entries))) keeps
event_full (events.Land receiver segment) keeps = full_by kind.Land (λ (p : ℕ × ℕ). events.Land p.0 p.1) land_law (receiver, segment) refl (λ z. refl) refl refl keeps
event_full (events.Invoke x) keeps = full_by kind.Invoke events.Invoke invoke_law x refl (λ z. refl) refl refl keeps
event_full (events.Round x) keeps = full_by kind.Round events.Round round_law x refl (λ z. refl) refl refl keeps
event_full (events.Begin unit runs) keeps = full_by kind.Begin (λ (p : ℕ × Bool). events.Begin p.0 p.1) begin_law (unit, runs) refl (λ z. refl) refl (and_true (is_u32 unit)) keeps
event_full (events.Scan x) keeps = full_by kind.Scan (λ (p : ℕ × Portion Entry). events.Scan (record { unit = p.0; batch = p.1 })) batch_law (x.unit, x.batch) refl (λ z. refl) refl (ap (λ t. is_u32 x.unit && t) (and_true (all_fit entry_fits x.batch.entries))) keeps
event_full (events.Fetch x) keeps = full_by kind.Fetch (λ (p : ℕ × Portion Entry). events.Fetch (record { unit = p.0; batch = p.1 })) batch_law (x.unit, x.batch) refl (λ z. refl) refl (ap (λ t. is_u32 x.unit && t) (and_true (all_fit entry_fits x.batch.entries))) keeps
event_full (events.Take x) keeps = full_by kind.Take events.Take take_law x refl (λ z. refl) refl refl keeps
event_full (events.Done x) keeps = full_by kind.Done events.Done u32_law x refl (λ z. refl) refl refl keeps
event_full (events.Answer x) keeps = full_by kind.Answer events.Answer answer_event_law x refl (λ z. refl) refl refl keeps

-- a reading of the whole leaves nothing
whole_found : {A : Type 0} (r : Reading A) (a : A) → whole_of r ≡ Some a → r ≡ Some (a, [])
whole_found None a e = absurd (none-some a e)
whole_found (Some (x, [])) a e = ap (λ z. Some (z, [])) (same_Some x a e)
whole_found (Some (x, b ∷ s)) a e = absurd (none-some a e)

-- the word of a kind that was read stands in front
kind_sound : (s : List ℕ) (p : Kind × List ℕ) → found (word_at kind_word kinds s) ≡ Some p → s ≡ kind_word p.0 ++ p.1
kind_sound s p e = (found_sound kind_word (λ k. true) (word_at kind_word kinds) (word_reads kind_word (λ k. true) kind.Write kinds refl refl refl) s p e).0

-- what is read as an event is its text
pub event_found : (s : List ℕ) (e : Event) → event_of s ≡ Some e → (event_text e ≡ s) × (event_fits e ≡ true)
event_found s e h =
    let f = after_found (found (word_at kind_word kinds s)) (λ k rest. fields_in k rest) (e, []) (whole_found (after (found (word_at kind_word kinds s)) (λ k rest. fields_in k rest)) e h) in
    let l = fields_sound f.0.0 f.0.1 (e, []) f.2 in
    (sym (kind_sound s f.0 f.1 ∙ l.0 ∙ append-nil (event_text e)), l.1)

-- what a reading of a whole text tells of the event
pub answer_found : (result : Result Event EventFault) (s : List ℕ) → GivesWhole result (event_of s) → IfOk result (λ e. (event_text e ≡ s) × (event_fits e ≡ true))
answer_found (Ok e) s h = event_found s e h
answer_found (Err fault) s h = tt

-- no other answer is given for the text of an event but want of memory
pub answer_only : (result : Result Event EventFault) (s : List ℕ) → GivesWhole result (event_of s) → (e : Event) → event_fits e ≡ true → event_text e ≡ s → GivesOnly e result
answer_only (Ok read) s h e keeps same = same_Some read e (sym h ∙ ap event_of (sym same) ∙ event_full e keeps)
answer_only (Err faults.BadEvent) s h e keeps same = none-some e (sym h ∙ ap event_of (sym same) ∙ event_full e keeps)
answer_only (Err faults.NoMemory) s h e keeps same = tt
