-- In a run each key that an event names has a segment, and each value that it writes, copies or reads has the kind of the cluster's
-- values.
use Rattle.std.proofs.Common.{◌≡◌, ℕ, ◌==◌, Bool, true, false, if◌then◌else◌, List, [], ◌∷◌, ◌++◌, map, Option, None, Some, is_some, refl, sym, ap, subst, ◌∙◌}
use Rattle.std.proofs.lemmas.Bool.{and_from, and_parts, eq-eqb}
use Rattle.std.proofs.lemmas.List.Folds.{list_all-append}
use Rattle.std.specs.List.{AllByRecursion, list_all}
use Rattle.container_seg.specs.Scans.{plain_entry}
use Rattle.grid_base.specs.Portion.{Portion}
use Rattle.grid_base.specs.declared.datum.Datum.{Datum}
use Rattle.grid_base.specs.declared.entry.Entry.{Entry}
use Rattle.grid_base.specs.declared.item.Item.{Item}
use Rattle.grid_base.specs.declared.stamped_entry.StampedEntry.{StampedEntry}
use Rattle.grid_event.specs.Spans.{outcome_in}
use Rattle.grid_event.specs.Taking.{Taking}
use Rattle.grid_event.specs.declared.call_events.AnswerEvent.{AnswerEvent}
use Rattle.grid_event.specs.declared.config.Config.{Config}
use Rattle.grid_event.specs.declared.event.Event.{Event}
use Rattle.grid_event.specs.declared.event.Event.TheVariants.{Write, Erase, Copy, Scan, Fetch, Take, Answer}
use Rattle.grid_event.specs.declared.outcome.Outcome.{Outcome}
use Rattle.grid_event.specs.declared.outcome.Outcome.TheVariants as outcomes
use Rattle.grid_event.specs.declared.request.Request.{Request}
use Rattle.grid_event.specs.declared.store_events.CopyEvent.{CopyEvent}
use Rattle.grid_event.specs.declared.store_events.EraseEvent.{EraseEvent}
use Rattle.state_transfer.specs.Chunks.{may_send, sent_of}
use Rattle.topology_coord.specs.Coordination.{all_installed}
use Rattle.topology_coord.specs.Following.{receives}
use Rattle.cluster_model.specs.Evidence.{EachHeld, Held, evidence, given_in, is_unit_of, taken_in}
use Rattle.cluster_model.specs.Rightness.{IsRight, IsRightSoFar, RightOutcome}
use Rattle.cluster_model.specs.State.{Call, State, Unit, unit_of}
use Rattle.cluster_model.specs.Step.{allowed}
use Rattle.cluster_model.specs.Told.{contents_of}
use Rattle.cluster_model.specs.Transfers.{can_copy, is_provided, next_chunk_of, provider, transfer_of}
use Rattle.cluster_model.specs.Units.{can_fetch, can_read, can_scan}
use Rattle.cluster_model.specs.Writes.{can_erase, is_of_kind}
use Rattle.cluster_laws.proofs.Lists.{each_imply}
use Rattle.cluster_laws.proofs.answers.AnswerBatches.{FitsNow, NextFits, batch_fits, next_fit}
use Rattle.cluster_laws.proofs.answers.AnswerKept.{AllKept}
use Rattle.cluster_laws.proofs.answers.AnswerTaking.{found_each}
use Rattle.cluster_laws.proofs.copies.Requests.{may_change, may_copy}
use Rattle.cluster_laws.proofs.copies.SameChunks.{same_chunk_is}
use Rattle.cluster_laws.proofs.units.CallLinks.{request_told, unit_told}
use Rattle.cluster_laws.proofs.units.CallRequests.{CanAnswer, CanTake, answer_facts, take_facts}
use Rattle.cluster_laws.proofs.units.UnitEffects.{MayRead, read_known}
use Rattle.audit_clauses.proofs.Guarantees.{guarantees}
use Rattle.audit_clauses.specs.Mentions.{entry_keys, entry_values, key_in, keys_in, keys_listed, keys_named, keys_of, values_named}
use Rattle.audit_clauses.specs.declared.clause.Clause.TheVariants as clauses
use Rattle.audit_runs.proofs.KnownEntries.{AlwaysKnown, has_segment, held_known, is_known, standing_known, write_known}
use Rattle.audit_runs.proofs.KnownItems.{listed_pass}
use Rattle.audit_runs.proofs.Lists.{alone, each_second}

-- what is known of an entry: its key has a segment, and its value has the kind
abbrev Known : Config → Entry → Type 0
Known config e = is_known config e.key e.value ≡ true

-- all keys have segments, and all values have the kind
abbrev AreKnown : Config → List (List ℕ) → List Datum → Type 0
AreKnown config keys values = (list_all (has_segment config) keys ≡ true) × (list_all (is_of_kind config.values) values ≡ true)

-- the keys and values of entries that are known
entries_known : (config : Config) (entries : List Entry) → AllByRecursion (Known config) entries
    → AreKnown config (entry_keys entries) (entry_values entries)
entries_known config [] h = (refl, refl)
entries_known config (e ∷ entries) h =
    let p = and_parts (has_segment config e.key) (is_of_kind config.values e.value) h.0 in
    let rest = entries_known config entries h.1 in (
      and_from (has_segment config e.key) (list_all (has_segment config) (entry_keys entries)) p.0 rest.0,
      and_from (is_of_kind config.values e.value) (list_all (is_of_kind config.values) (entry_values entries)) p.1 rest.1,
    )

-- and those of a chunk
chunk_known : (config : Config) (chunk : List StampedEntry) → AllByRecursion (Known config) (map plain_entry chunk)
    → AreKnown config (map (λ (e : StampedEntry). e.key) chunk) (map (λ (e : StampedEntry). e.stamped.value) chunk)
chunk_known config [] h = (refl, refl)
chunk_known config (e ∷ chunk) h =
    let p = and_parts (has_segment config e.key) (is_of_kind config.values e.stamped.value) h.0 in
    let rest = chunk_known config chunk h.1 in (
      and_from (has_segment config e.key) (list_all (has_segment config) (map (λ (e : StampedEntry). e.key) chunk)) p.0 rest.0,
      and_from (is_of_kind config.values e.stamped.value)
          (list_all (is_of_kind config.values) (map (λ (e : StampedEntry). e.stamped.value) chunk)) p.1 rest.1,
    )

-- what passes for each key of items passes for each key of the later ones
later_pass : (p : List ℕ → Bool) (xs ys : List Item) → list_all p (keys_in (xs ++ ys)) ≡ true → list_all p (keys_in ys) ≡ true
later_pass p [] ys h = h
later_pass p (x ∷ xs) ys h =
    let both = sym (list_all-append p (key_in x) (keys_in (xs ++ ys))) ∙ h in
    later_pass p xs ys (and_parts (list_all p (key_in x)) (list_all p (keys_in (xs ++ ys))) both).1

-- ---- what is read and copied stands

module _ (config : Config) (past : List Event) (st : State) (k : AllKept config past st) (known : AlwaysKnown config past) where
  -- entries that stand are known
  standing : (segment : ℕ) (entries : List Entry) → AllByRecursion (FitsNow config past segment) entries
      → AllByRecursion (Known config) entries
  standing segment entries fit = each_imply (FitsNow config past segment) (Known config) (λ e f. standing_known config past e.key e.value known f.1) entries fit

  -- what a unit reads is known
  read_entries : (walk : Bool) (number : ℕ) (batch : Portion Entry) (found : Option Unit) → unit_of st.calling number ≡ found
      → can_read st walk batch found ≡ true
      → AreKnown config (entry_keys batch.entries) (entry_values batch.entries)
  read_entries walk number batch None is can = absurd (cc)
  read_entries walk number batch (Some unit) is can =
      let may : MayRead st walk batch unit = read_known st walk batch unit can in
      let fits = found_each (NextFits config past st) (λ (u : Unit). u.work.id == number) st.calling.units unit (next_fit config past st k.kept k.placed) is in
      entries_known config batch.entries
      (standing unit.work.segment batch.entries
      (subst (λ (b : Portion Entry). AllByRecursion (FitsNow config past unit.work.segment) b.entries) (sym may.is_next) (fits may.running)))

  -- and so is what is copied
  copied_entries : (c : CopyEvent) → allowed st (Copy c) ≡ true
      → AreKnown config (map (λ (e : StampedEntry). e.key) c.batch.entries) (map (λ (e : StampedEntry). e.stamped.value) c.batch.entries)
  unfolding can_copy
  copied_entries c may =
      let sends = may_copy config.segments st (contents_of config past) c k.kept.parts may in
      let p = and_parts (all_installed st.holding.coord) _ may in
      let q = and_parts (receives st.holding.coord c.receiver c.segment) _ p.1 in
      let r = and_parts (may_send (transfer_of st.holding c.receiver c.segment)) _ q.1 in
      let s = and_parts (is_provided c.provider (provider st.holding c.receiver c.segment)) _ r.1 in
      let is = same_chunk_is c.batch (next_chunk_of st.holding c.receiver c.segment c.provider) s.1 in
      chunk_known config c.batch.entries
      (standing c.segment (map plain_entry c.batch.entries)
      (subst (λ (b : Portion StampedEntry). AllByRecursion (FitsNow config past c.segment) (map plain_entry b.entries)) (sym is)
      (batch_fits config past st.holding.copying.cells c.segment c.provider st.holding.config.chunk
      (sent_of (transfer_of st.holding c.receiver c.segment)) sends.right)))

-- ---- what is taken and answered is held

module _ (config : Config) (past : List Event) (st : State) (k : AllKept config past st) where
  -- entries that are held are known
  held_entries : (later : List Event) (call : ℕ) (entries : List Entry) → AlwaysKnown config later → EachHeld config later call entries
      → AllByRecursion (Known config) entries
  held_entries later call entries known held =
      each_imply (λ (e : Entry). Held config later call e.key e.value) (Known config)
      (λ e h. held_known config later call e.key e.value known h) entries held

  -- where what a call took and gave with a take is right, the entries taken and the items given are known
  right_take : (t : Taking) (call : ℕ) (request : Request) → is_unit_of past call t.unit ≡ true → AlwaysKnown config (Take t ∷ past)
      → IsRightSoFar config (Take t ∷ past) call request
      → AreKnown config (entry_keys t.entries ++ keys_in t.given) (entry_values t.entries)
  right_take t call request mine known right = (
    list_all-append (has_segment config) (entry_keys t.entries) (keys_in t.given)
        ∙ and_from (list_all (has_segment config) (entry_keys t.entries)) (list_all (has_segment config) (keys_in t.given)) entries.0 items,
    entries.1,
  )
    where
      with_take : {A : Type 0} (before more : List A)
          → (if is_unit_of past call t.unit then before ++ more else before) ≡ before ++ more
      with_take before more = ap (λ b. if b then before ++ more else before) mine

      all : AllByRecursion (Known config) (taken_in (Take t ∷ past) call)
      all = held_entries (Take t ∷ past) call (taken_in (Take t ∷ past) call) known right.held

      entries : AreKnown config (entry_keys t.entries) (entry_values t.entries)
      entries =
          entries_known config t.entries
          (each_second (Known config) (taken_in past call) t.entries
          (subst (AllByRecursion (Known config)) (with_take (taken_in past call) t.entries) all))

      given : list_all (has_segment config) (keys_in (given_in (Take t ∷ past) call)) ≡ true
      given =
          ap (λ answer. list_all (has_segment config) (keys_listed answer)) right.plain
          ∙ listed_pass (has_segment config) request.pipeline (taken_in (Take t ∷ past) call)
          (entries_known config (taken_in (Take t ∷ past) call) all).0

      items : list_all (has_segment config) (keys_in t.given) ≡ true
      items =
          later_pass (has_segment config) (given_in past call) t.given
          (ap (λ xs. list_all (has_segment config) (keys_in xs)) (sym (with_take (given_in past call) t.given)) ∙ given)

  -- so it is with each take that may happen
  taken_known : (t : Taking) → AlwaysKnown config (Take t ∷ past) → ((call : ℕ) → IsRight config (Take t ∷ past) call)
      → allowed st (Take t) ≡ true → AreKnown config (entry_keys t.entries ++ keys_in t.given) (entry_values t.entries)
  taken_known t known right may = let facts = take_facts st t may in by_facts facts.0 facts.1.0 facts.1.1.0 facts.1.1.1
    where
      by_facts : (unit : Unit) (call : Call) (batch : List Entry) → CanTake st t unit call batch
          → AreKnown config (entry_keys t.entries ++ keys_in t.given) (entry_values t.entries)
      by_facts unit call batch can =
          let of_call = unit_told past st unit.work.call t.unit unit k.units.numbered k.links.asks can.found in
          let mine : is_unit_of past unit.work.call t.unit ≡ true = of_call ∙ eq-eqb unit.work.call unit.work.call refl in
          let asked = request_told past st unit.work.call call k.links.calls can.there in
          right_take t unit.work.call call.request mine known (((right unit.work.call).takes call.request asked).0 mine)

  -- where an outcome is right, the items that it lists are known
  right_outcome : (later : List Event) (call : ℕ) (request : Request) (outcome : Outcome) → AlwaysKnown config later
      → RightOutcome config later call request outcome → list_all (has_segment config) (keys_of outcome) ≡ true
  right_outcome later call request (outcomes.Value answer) known right =
      let held : EachHeld config later call (evidence config later call) = guarantees.each request.guarantee config later call right.keeps clauses.Held in
      let all = entries_known config (evidence config later call) (held_entries later call (evidence config later call) known held) in
      ap (λ answer. list_all (has_segment config) (keys_listed answer)) right.plain
      ∙ listed_pass (has_segment config) request.pipeline (evidence config later call) all.0
  right_outcome later call request _ known right = refl

  -- so it is with each answer that may be given
  answer_keys : (a : AnswerEvent) → AlwaysKnown config (Answer a ∷ past) → ((call : ℕ) → IsRight config (Answer a ∷ past) call)
      → allowed st (Answer a) ≡ true → list_all (has_segment config) (keys_of a.outcome) ≡ true
  answer_keys a known right may =
      let facts : (call : Call) × CanAnswer st a call = answer_facts st a may in
      let asked = request_told past st a.call facts.0 k.links.calls facts.1.there in
      right_outcome (Answer a ∷ past) a.call facts.0.request a.outcome known
      ((right a.call).outcome facts.0.request a.outcome asked said)
    where
      said : outcome_in (Answer a ∷ past) a.call ≡ Some a.outcome
      said = ap (λ b. if b then Some a.outcome else outcome_in past a.call) (eq-eqb a.call a.call refl)

  -- the key of an erasure
  erased_key : (e : EraseEvent) → allowed st (Erase e) ≡ true → has_segment config e.key ≡ true
  unfolding can_erase
  erased_key e may =
      let found = may_change st e.node e.key may in
      ap (λ (c : Config). has_segment c e.key) (sym k.kept.told.settings) ∙ ap is_some found.1.has_segment

  -- all keys and values that an event names
  pub entries_are_known : (event : Event) → AlwaysKnown config past → AlwaysKnown config (event ∷ past)
      → ((call : ℕ) → IsRight config (event ∷ past) call) → allowed st event ≡ true
      → AreKnown config (keys_named event) (values_named event)
  unfolding keys_named values_named can_scan can_fetch
  entries_are_known (Write w) before later right may =
      let p = and_parts (has_segment config w.key) (is_of_kind config.values w.value) (write_known config st w k.kept.told.settings may) in
      (alone (has_segment config w.key) p.0, alone (is_of_kind config.values w.value) p.1)
  entries_are_known (Erase e) before later right may = (alone (has_segment config e.key) (erased_key e may), refl)
  entries_are_known (Copy c) before later right may = copied_entries config past st k before c may
  entries_are_known (Scan s) before later right may = read_entries config past st k before false s.unit s.batch (unit_of st.calling s.unit) refl may
  entries_are_known (Fetch f) before later right may = read_entries config past st k before true f.unit f.batch (unit_of st.calling f.unit) refl may
  entries_are_known (Take t) before later right may = taken_known t later right may
  entries_are_known (Answer a) before later right may = (answer_keys a later right may, refl)
  entries_are_known _ before later right may = (refl, refl)
