-- What each unit has read, told by the events: its entries were scanned where its call is a reduction, their keys are of its segment,
-- they stood at some place since the call was made, and what stood throughout since then stood since the unit began.
use Rattle.std.proofs.Common.{◌≡◌, ℕ, ◌+◌, ◌≤◌, ◌<◌, ◌==◌, Bool, true, false, ◌&&◌, cond, if◌then◌else◌, ◌⊎◌, inl, inr, List, [], ◌∷◌, ◌++◌, map, length, length-append, Option, None, Some, is_none, unwrap_or, refl, sym, ap, subst, ◌∙◌, arith}
use Rattle.std.proofs.lemmas.Bool.{eq-eqb}
use Rattle.std.proofs.lemmas.Bool.Decides.{nat_tests}
use Rattle.std.proofs.lemmas.List.{length-map}
use Rattle.std.specs.Bool.{⊤}
use Rattle.std.specs.List.{AllByRecursion}
use Rattle.std.specs.Option.{option_map}
use Rattle.grid_base.specs.Datum.{same_bytes}
use Rattle.grid_base.specs.declared.datum.Datum.{Datum}
use Rattle.grid_base.specs.declared.entry.Entry.{Entry}
use Rattle.grid_event.specs.Maps.{entries_of, value_at}
use Rattle.grid_event.specs.Spans.{invoke_of, invokes}
use Rattle.grid_event.specs.UnitHistories.{has_ended}
use Rattle.grid_event.specs.declared.call_events.Ask.{Ask}
use Rattle.grid_event.specs.declared.call_events.InvokeEvent.{InvokeEvent}
use Rattle.grid_event.specs.declared.call_events.RoundEvent.{RoundEvent}
use Rattle.grid_event.specs.declared.config.Config.{Config}
use Rattle.grid_event.specs.declared.event.Event.{Event}
use Rattle.grid_event.specs.declared.event.Event.TheVariants.{Invoke, Round, Begin, Scan, Fetch, Take, Done}
use Rattle.grid_event.specs.declared.unit_events.FetchEvent.{FetchEvent}
use Rattle.grid_event.specs.declared.unit_events.ScanEvent.{ScanEvent}
use Rattle.local_publisher.specs.declared.unit_state.UnitState.{UnitState}
use Rattle.local_publisher.specs.declared.unit_state.UnitState.TheVariants.{Asked, Running, Refused, Lost, Ended}
use Rattle.segment_hash.specs.Segments.{segment_number}
use Rattle.topology_coord.specs.Coordination.{installed_id}
use Rattle.cluster_model.specs.Calls.{asks_from, first_reader, incomplete, unit_made}
use Rattle.cluster_model.specs.Completion.{StoodSinceBegin, begins}
use Rattle.cluster_model.specs.Evidence.{StoodOnce, StoodThroughout, request_of, scanned_by, times}
use Rattle.cluster_model.specs.Guarantees.{is_move}
use Rattle.cluster_model.specs.State.{Call, State, Unit, is_asked, is_ended, is_running}
use Rattle.cluster_model.specs.Step.{allowed, changed}
use Rattle.cluster_model.specs.Units.{can_read, can_scan}
use Rattle.cluster_laws.specs.Laws.{is_refused}
use Rattle.cluster_laws.proofs.answers.AnswerBatches.{FitsNow, NextFits}
use Rattle.cluster_laws.proofs.units.CallLinks.{CallsTold, IsKnown, asks_walk, walks_told}
use Rattle.cluster_laws.proofs.answers.AnswerLinks.{LinksKept}
use Rattle.cluster_laws.proofs.Lists.{each-append, each_both, each_changed, each_imply, how_many-append}
use Rattle.cluster_laws.proofs.Numbers.{NumberedFrom}
use Rattle.cluster_laws.proofs.units.Reading.{reads_in}
use Rattle.cluster_laws.proofs.units.ReadSteps.{ReadKept, UnitsKept}
use Rattle.cluster_laws.proofs.units.UnitCounts.{made_anew}
use Rattle.cluster_laws.proofs.units.UnitEffects.{Effect, HasEffect, Stays, Loses, Begins, Scans, Fetches, Takes, Ends, effects, names, unit_after, units_are, units_made}
use Rattle.cluster_laws.proofs.units.UnitFacts.{CanRound, named_within, round_facts}

-- the entries that fly, where some do
abbrev pub flight : Option (List Entry) → List Entry
flight None = []
flight (Some entries) = entries

-- an entry's key is of the segment, and the entry stood at some place since the call was made
abbrev pub Fits : Config → List Event → ℕ → ℕ → Entry → Type 0
Fits config past call segment e = (segment_number config.partition config.segments e.key ≡ Some segment) × StoodOnce config past call e.key e.value

-- each of the entries fits
abbrev pub AllFit : Config → List Event → ℕ → ℕ → List Entry → Type 0
AllFit config past call segment entries = AllByRecursion (Fits config past call segment) entries

-- what is known of a unit with these fields
pub record HasOf (config : Config) (past : List Event) (id call segment : ℕ) (entries : List Entry) (last : Bool) (stage : UnitState) (flying : Option (List Entry)) : Type 0 where
  pub scanned : asks_walk (request_of past call) ≡ false → scanned_by past id ≡ entries
  pub unread : is_refused stage ≡ true → entries ≡ []
  pub whole : is_ended stage ≡ true → (last ≡ true) × (flying ≡ None)
  pub fit : AllFit config past call segment entries
  pub lasts : reads_in stage ≡ true → (key : List ℕ) (datum : Datum) → StoodThroughout config past call key datum → StoodSinceBegin config past id key datum
  pub flown : (key : List ℕ) → times key (flight flying) ≤ times key entries
  pub flight_fit : AllFit config past call segment (flight flying)
  pub walked : is_none flying ≡ false → asks_walk (request_of past call) ≡ true

-- what is known of a unit
abbrev pub Has : Config → List Event → Unit → Type 0
Has config past unit = HasOf config past unit.work.id unit.work.call unit.work.segment unit.work.entries unit.work.last unit.work.state unit.flying

-- what is known of all units, and that nothing was scanned of a number that is none yet
pub record HasUnits (config : Config) (past : List Event) (units : List Unit) : Type 0 where
  pub each : AllByRecursion (Has config past) units
  pub unborn : (id : ℕ) → length units < id → scanned_by past id ≡ []

-- what a call asks for stays
pub request_stays : (past : List Event) (event : Event) (call : ℕ) → invokes call event ≡ false → request_of (event ∷ past) call ≡ request_of past call
request_stays past (Invoke i) call q = ap (λ b. option_map (λ (i : InvokeEvent). i.request) (if b then Some i else invoke_of past call)) q
request_stays past _ call q = refl

-- what stood stood
pub once_later : (config : Config) (past : List Event) (event : Event) (call : ℕ) (key : List ℕ) (datum : Datum) → invokes call event ≡ false → StoodOnce config past call key datum → StoodOnce config (event ∷ past) call key datum
once_later config past event call key datum q s = inr (subst (λ b. cond b ⊥ (StoodOnce config past call key datum)) (sym q) s)

-- what stood throughout stood throughout before
pub throughout_before : (config : Config) (past : List Event) (event : Event) (call : ℕ) (key : List ℕ) (datum : Datum) → invokes call event ≡ false → StoodThroughout config (event ∷ past) call key datum → StoodThroughout config past call key datum
throughout_before config past event call key datum q s = subst (λ b. cond b ⊤ (StoodThroughout config past call key datum)) q s.1

-- what fitted fits after a further event
pub fit_later : (config : Config) (past : List Event) (event : Event) (call segment : ℕ) (entries : List Entry) → invokes call event ≡ false → AllFit config past call segment entries → AllFit config (event ∷ past) call segment entries
fit_later config past event call segment entries q h =
    each_imply (Fits config past call segment) (Fits config (event ∷ past) call segment) (λ e f. (f.0, once_later config past event call e.key e.value q f.1)) entries h

-- a unit that an event doesn't name doesn't begin by it, and nothing is scanned of it
names_begins : (event : Event) (id : ℕ) → names event id ≡ false → begins id event ≡ false
names_begins (Begin number runs) id h = ap (λ b. b && runs) h
names_begins _ id h = refl

-- and nothing is scanned of it
names_scanned : (past : List Event) (event : Event) (id : ℕ) → names event id ≡ false → scanned_by (event ∷ past) id ≡ scanned_by past id
names_scanned past (Scan s) id h = ap (λ b. if b then scanned_by past id ++ s.batch.entries else scanned_by past id) h
names_scanned past _ id h = refl

-- the event neither begins the unit nor makes its call, and nothing of it is scanned; the unit doesn't come to read, to be refused or
-- to end by it, but where it has read its last; and what flew flies on or is gone
pub carried : (config : Config) (past : List Event) (event : Event) (id call segment : ℕ) (entries : List Entry) (last : Bool) (before after : UnitState) (flying later : Option (List Entry)) →
    begins id event ≡ false → scanned_by (event ∷ past) id ≡ scanned_by past id → invokes call event ≡ false →
    (is_refused after ≡ true → is_refused before ≡ true) → (is_ended after ≡ true → (last ≡ true) × (later ≡ None)) → (reads_in after ≡ true → reads_in before ≡ true) →
    (later ≡ flying) ⊎ (later ≡ None) →
    HasOf config past id call segment entries last before flying → HasOf config (event ∷ past) id call segment entries last after later
carried config past event id call segment entries last before after flying later b s q refused ended reads flight_is h = record {
  scanned = λ w. s ∙ h.scanned (ap asks_walk (sym (request_stays past event call q)) ∙ w);
  unread = λ r. h.unread (refused r);
  whole = ended;
  fit = fit_later config past event call segment entries q h.fit;
  lasts = λ r key datum stood.
      subst (λ t. cond t (value_at config (event ∷ past) key ≡ Some datum) (StoodSinceBegin config past id key datum × (has_ended past id ≡ false → value_at config (event ∷ past) key ≡ Some datum))) (sym b)
      (h.lasts (reads r) key datum (throughout_before config past event call key datum q stood), λ open_yet. stood.0);
  flown = λ key. elim flight_is [ inl e ↦ subst (λ f. times key (flight f) ≤ times key entries) (sym e) (h.flown key) | inr e ↦ subst (λ f. times key (flight f) ≤ times key entries) (sym e) (omega arith) ];
  flight_fit = elim flight_is [
    | inl e ↦ subst (λ f. AllFit config (event ∷ past) call segment (flight f)) (sym e) (fit_later config past event call segment (flight flying) q h.flight_fit)
    | inr e ↦ subst (λ f. AllFit config (event ∷ past) call segment (flight f)) (sym e) tt
  ];
  walked = λ n. ap asks_walk (request_stays past event call q) ∙ elim flight_is [ inl e ↦ h.walked (ap is_none (sym e) ∙ n) | inr e ↦ (let f = ap is_none e in absurd (cc)) ];
}

-- a unit that is asked doesn't read
asked_reads : (stage : UnitState) → is_asked stage ≡ true → reads_in stage ≡ false
asked_reads Asked h = refl
asked_reads Running h = absurd (cc)
asked_reads (Refused at) h = absurd (cc)
asked_reads (Lost at) h = absurd (cc)
asked_reads Ended h = absurd (cc)

-- a unit that runs reads, and is neither refused nor ended
running_reads : (stage : UnitState) → is_running stage ≡ true → (reads_in stage ≡ true) × ((is_refused stage ≡ false) × (is_ended stage ≡ false))
running_reads Asked h = absurd (cc)
running_reads Running h = (refl, (refl, refl))
running_reads (Refused at) h = absurd (cc)
running_reads (Lost at) h = absurd (cc)
running_reads Ended h = absurd (cc)

-- a unit that begins or is refused hasn't ended
begun_open : (runs : Bool) (at : ℕ) → is_ended (if runs then Running else Refused at) ≡ false
begun_open true at = refl
begun_open false at = refl

-- a unit begins, or is refused
begun_has : (config : Config) (past : List Event) (id call segment : ℕ) (entries : List Entry) (last : Bool) (before : UnitState) (flying : Option (List Entry)) (runs : Bool) (at : ℕ) →
    entries ≡ [] → HasOf config past id call segment entries last before flying → HasOf config (Begin id runs ∷ past) id call segment entries last (if runs then Running else Refused at) flying
begun_has config past id call segment entries last before flying runs at empty h = record {
  scanned = h.scanned;
  unread = λ r. empty;
  whole = λ e. let f = begun_open runs at in absurd (cc);
  fit = fit_later config past (Begin id runs) call segment entries refl h.fit;
  lasts = λ r key datum stood.
      subst (λ t. cond t (value_at config (Begin id runs ∷ past) key ≡ Some datum) (StoodSinceBegin config past id key datum × (has_ended past id ≡ false → value_at config (Begin id runs ∷ past) key ≡ Some datum)))
      (sym (ap (λ b. b && runs) (eq-eqb id id refl) ∙ by_runs runs r)) stood.0;
  flown = h.flown;
  flight_fit = fit_later config past (Begin id runs) call segment (flight flying) refl h.flight_fit;
  walked = h.walked;
}
  where
    by_runs : (runs : Bool) → reads_in (if runs then Running else Refused at) ≡ true → (true && runs) ≡ true
    by_runs true r = refl
    by_runs false r = absurd (cc)

-- what stands now stood at some place
now_fits : (config : Config) (past : List Event) (event : Event) (call segment : ℕ) (entries : List Entry) → ((key : List ℕ) → value_at config (event ∷ past) key ≡ value_at config past key) →
    AllByRecursion (FitsNow config past segment) entries → AllFit config (event ∷ past) call segment entries
now_fits config past event call segment entries same h =
    each_imply (FitsNow config past segment) (Fits config (event ∷ past) call segment) (λ e f. (f.0, inl (same e.key ∙ f.1))) entries h

-- a unit reads a batch more
more_has : (config : Config) (past : List Event) (event : Event) (id call segment : ℕ) (entries batch : List Entry) (last further : Bool) (stage : UnitState) (flying later : Option (List Entry)) →
    begins id event ≡ false → invokes call event ≡ false → is_running stage ≡ true → ((key : List ℕ) → value_at config (event ∷ past) key ≡ value_at config past key) →
    (asks_walk (request_of past call) ≡ false → scanned_by (event ∷ past) id ≡ scanned_by past id ++ batch) → AllByRecursion (FitsNow config past segment) batch →
    (later ≡ None) ⊎ ((later ≡ Some batch) × (asks_walk (request_of past call) ≡ true)) →
    HasOf config past id call segment entries last stage flying → HasOf config (event ∷ past) id call segment (entries ++ batch) further stage later
more_has config past event id call segment entries batch last further stage flying later b q running same scans fits flight_is h =
    let r = running_reads stage running in
    let now = now_fits config past event call segment batch same fits in
    record {
      scanned = λ w. let form = ap asks_walk (sym (request_stays past event call q)) ∙ w in scans form ∙ ap (λ es. es ++ batch) (h.scanned form);
      unread = λ refused. let f = r.1.0 in absurd (cc);
      whole = λ ended. let f = r.1.1 in absurd (cc);
      fit = each-append (Fits config (event ∷ past) call segment) entries batch (fit_later config past event call segment entries q h.fit) now;
      lasts = λ reads key datum stood.
          subst (λ t. cond t (value_at config (event ∷ past) key ≡ Some datum) (StoodSinceBegin config past id key datum × (has_ended past id ≡ false → value_at config (event ∷ past) key ≡ Some datum))) (sym b)
          (h.lasts reads key datum (throughout_before config past event call key datum q stood), λ open_yet. stood.0);
      flown = λ key. elim flight_is [
        | inl e ↦ subst (λ f. times key (flight f) ≤ times key (entries ++ batch)) (sym e) (omega arith)
        | inr e ↦ subst (λ f. times key (flight f) ≤ times key (entries ++ batch)) (sym e.0) (let a = how_many-append (λ (x : Entry). same_bytes x.key key) entries batch in omega arith)
      ];
      flight_fit = elim flight_is [
        | inl e ↦ subst (λ f. AllFit config (event ∷ past) call segment (flight f)) (sym e) tt
        | inr e ↦ subst (λ f. AllFit config (event ∷ past) call segment (flight f)) (sym e.0) now
      ];
      walked = λ n. ap asks_walk (request_stays past event call q) ∙ elim flight_is [ inl e ↦ (let f = ap is_none e in absurd (cc)) | inr e ↦ e.1 ];
    }

-- a scan leaves the map
scan_same : (config : Config) (past : List Event) (s : ScanEvent) (key : List ℕ) → value_at config (Scan s ∷ past) key ≡ value_at config past key
unfolding entries_of
scan_same config past s key = refl

-- a fetch leaves the map
fetch_same : (config : Config) (past : List Event) (f : FetchEvent) (key : List ℕ) → value_at config (Fetch f ∷ past) key ≡ value_at config past key
unfolding entries_of
fetch_same config past f key = refl

-- a move names no unit
moves_begin : (event : Event) (id : ℕ) → is_move event ≡ true → begins id event ≡ false
moves_begin (Begin number runs) id m = absurd (cc)
moves_begin _ id m = refl

-- and scans nothing
moves_scan : (past : List Event) (event : Event) (id : ℕ) → is_move event ≡ true → scanned_by (event ∷ past) id ≡ scanned_by past id
moves_scan past (Scan s) id m = absurd (cc)
moves_scan past _ id m = refl

-- each effect keeps what is known of the unit
effect_has : (config : Config) (past : List Event) (st : State) (event : Event) (before later : Unit) → Effect st event before later → CallsTold past st → invokes before.work.call event ≡ false →
    NextFits config past st before → ReadKept config past before → Has config past before → Has config (event ∷ past) later
effect_has config past st event before later (Stays e d) told q fits r h =
    subst (Has config (event ∷ past)) (sym e)
    (carried config past event before.work.id before.work.call before.work.segment before.work.entries before.work.last before.work.state before.work.state before.flying before.flying
    (names_begins event before.work.id d) (names_scanned past event before.work.id d) q (λ x. x) h.whole (λ x. x) (inl refl) h)
effect_has config past st event before later (Loses at e o m) told q fits r h =
    subst (Has config (event ∷ past)) (sym e)
    (carried config past event before.work.id before.work.call before.work.segment before.work.entries before.work.last before.work.state (Lost at) before.flying None
    (moves_begin event before.work.id m) (moves_scan past event before.work.id m) q (λ x. absurd (cc)) (λ x. absurd (cc)) (λ x. absurd (cc)) (inr refl) h)
effect_has config past st event before later (Begins runs x e m) told q fits r h =
    subst (Has config (event ∷ past)) (sym e)
    (subst (λ v. HasOf config (v ∷ past) before.work.id before.work.call before.work.segment before.work.entries before.work.last (if runs then Running else Refused (installed_id st.holding.coord before.work.node)) before.flying) (sym x)
    (begun_has config past before.work.id before.work.call before.work.segment before.work.entries before.work.last before.work.state before.flying runs (installed_id st.holding.coord before.work.node) (r.unread m.asked).0 h))
effect_has config past st event before later (Scans s x n e m) told q fits r h =
    subst (Has config (event ∷ past)) (sym e)
    (subst (λ v. HasOf config (v ∷ past) before.work.id before.work.call before.work.segment (before.work.entries ++ s.batch.entries) s.batch.last before.work.state before.flying) (sym x)
    (more_has config past (Scan s) before.work.id before.work.call before.work.segment before.work.entries s.batch.entries before.work.last s.batch.last before.work.state before.flying before.flying
    refl refl m.running (scan_same config past s) (λ w. ap (λ b. if b then scanned_by past before.work.id ++ s.batch.entries else scanned_by past before.work.id) (eq-eqb s.unit before.work.id n))
    (subst (λ (batch : _). AllByRecursion (FitsNow config past before.work.segment) batch.entries) (sym m.is_next) (fits m.running)) (inl m.landed) h))
effect_has config past st event before later (Fetches f x n e m) told q fits r h =
    subst (Has config (event ∷ past)) (sym e)
    (subst (λ v. HasOf config (v ∷ past) before.work.id before.work.call before.work.segment (before.work.entries ++ f.batch.entries) f.batch.last before.work.state (Some f.batch.entries)) (sym x)
    (more_has config past (Fetch f) before.work.id before.work.call before.work.segment before.work.entries f.batch.entries before.work.last f.batch.last before.work.state before.flying (Some f.batch.entries)
    refl refl m.running (fetch_same config past f) (λ w. let walks_on = m.form ∙ walks_told past st before.work.call told in absurd (cc))
    (subst (λ (batch : _). AllByRecursion (FitsNow config past before.work.segment) batch.entries) (sym m.is_next) (fits m.running)) (inr (refl, sym (m.form ∙ walks_told past st before.work.call told))) h))
effect_has config past st event before later (Takes t x n e) told q fits r h =
    subst (Has config (event ∷ past)) (sym e)
    (subst (λ v. HasOf config (v ∷ past) before.work.id before.work.call before.work.segment before.work.entries before.work.last before.work.state None) (sym x)
    (carried config past (Take t) before.work.id before.work.call before.work.segment before.work.entries before.work.last before.work.state before.work.state before.flying None
    refl refl refl (λ x. x) (λ x. ((h.whole x).0, refl)) (λ x. x) (inr refl) h))
effect_has config past st event before later (Ends x e m) told q fits r h =
    subst (Has config (event ∷ past)) (sym e)
    (subst (λ v. HasOf config (v ∷ past) before.work.id before.work.call before.work.segment before.work.entries before.work.last Ended before.flying) (sym x)
    (carried config past (Done before.work.id) before.work.id before.work.call before.work.segment before.work.entries before.work.last before.work.state Ended before.flying before.flying
    refl refl refl (λ x. absurd (cc)) (λ x. (m.whole, m.landed)) (λ x. (running_reads before.work.state m.running).0) (inl refl) h))

-- a unit that is asked has read nothing
asked_has : (config : Config) (past : List Event) (r : RoundEvent) (ask : Ask) → scanned_by past ask.unit ≡ [] → Has config (Round r ∷ past) (unit_made r.call r.id ask)
asked_has config past r ask none = record {
  scanned = λ w. none;
  unread = λ x. refl;
  whole = λ x. absurd (cc);
  fit = tt;
  lasts = λ x. absurd (cc);
  flown = λ key. omega arith;
  flight_fit = tt;
  walked = λ n. absurd (cc);
}

-- so it is of each unit that a round asks for
each_asked_has : (config : Config) (past : List Event) (st : State) (r : RoundEvent) (originator n : ℕ) (segments : List ℕ) → ((id : ℕ) → n ≤ id → scanned_by past id ≡ []) →
    AllByRecursion (Has config (Round r ∷ past)) (map (unit_made r.call r.id) (asks_from st.holding originator n segments))
each_asked_has config past st r originator n [] none = tt
each_asked_has config past st r originator n (segment ∷ segments) none =
    (asked_has config past r (record { unit = n; segment = segment; node = unwrap_or (first_reader st.holding originator segment) 0 }) (none n (omega arith)), each_asked_has config past st r originator (n + 1) segments (λ id l. none id (omega arith)))

-- and of each unit that an event makes
made_has : (config : Config) (past : List Event) (st : State) (event : Event) → allowed st event ≡ true → ((id : ℕ) → length st.calling.units < id → scanned_by past id ≡ []) → AllByRecursion (Has config (event ∷ past)) (units_made event)
made_has config past st (Round r) may none =
    let found : (call : Call) × CanRound st r call = round_facts st r may in
    subst (λ asks. AllByRecursion (Has config (Round r ∷ past)) (map (unit_made r.call r.id) asks)) (sym found.1.asks)
    (each_asked_has config past st r found.0.originator (length st.calling.units + 1) (incomplete st.calling r.call) (λ id l. none id (omega arith)))
made_has config past st _ may none = tt

-- of a number that is no unit's nothing is scanned
unborn_later : (past : List Event) (st : State) (event : Event) → allowed st event ≡ true → NumberedFrom 1 st.calling.units → (id : ℕ) → length st.calling.units < id → scanned_by past id ≡ [] → scanned_by (event ∷ past) id ≡ []
unfolding can_scan
unborn_later past st (Scan s) may numbered id l none =
    let within = named_within st s.unit (can_read st false s.batch) refl may numbered in
    let other : (s.unit == id) ≡ false = grind (arith, nat_tests) in
    ap (λ b. if b then scanned_by past id ++ s.batch.entries else scanned_by past id) other ∙ none
unborn_later past st _ may numbered id l none = none

-- there are no fewer units after an event
pub units_grow : (st : State) (event : Event) → length st.calling.units ≤ length (changed st event).calling.units
units_grow st event =
    let a = ap length (units_are st event) in
    let b = length-append (map (unit_after st event) st.calling.units) (units_made event) in
    let c = length-map st.calling.units (unit_after st event) in omega arith

-- the call of a unit was made before
pub unit_quiet : (past : List Event) (st : State) (event : Event) → allowed st event ≡ true → CallsTold past st → (unit : Unit) → IsKnown past unit → invokes unit.work.call event ≡ false
unit_quiet past st event may told unit known = by_test (invokes unit.work.call event) refl
  where
    by_test : (b : Bool) → invokes unit.work.call event ≡ b → b ≡ false
    by_test false e = refl
    by_test true e = let anew = made_anew past st event unit.work.call may told e in absurd (cc)

-- every event that may happen keeps what is known of units
pub has_kept : (config : Config) (past : List Event) (st : State) (event : Event) → allowed st event ≡ true → LinksKept past st → UnitsKept config past st.calling.units → AllByRecursion (NextFits config past st) st.calling.units →
    HasUnits config past st.calling.units → HasUnits config (event ∷ past) (changed st event).calling.units
has_kept config past st event may links units fits h = record {
  each = subst (AllByRecursion (Has config (event ∷ past))) (sym (units_are st event))
      (each-append (Has config (event ∷ past)) (map (unit_after st event) st.calling.units) (units_made event)
      (each_changed Before (HasEffect st event) (Has config (event ∷ past)) (unit_after st event) one st.calling.units before (effects st event may units.numbered))
      (made_has config past st event may h.unborn));
  unborn = λ id l. unborn_later past st event may units.numbered id (let g = units_grow st event in omega arith) (h.unborn id (let g = units_grow st event in omega arith));
}
  where
    Before : Unit → Type 0
    Before unit = (IsKnown past unit × NextFits config past st unit) × (ReadKept config past unit × Has config past unit)

    before : AllByRecursion Before st.calling.units
    before =
        each_both (λ unit. IsKnown past unit × NextFits config past st unit) (λ unit. ReadKept config past unit × Has config past unit) Before (λ unit a b. (a, b)) st.calling.units
        (each_both (IsKnown past) (NextFits config past st) (λ unit. IsKnown past unit × NextFits config past st unit) (λ unit a b. (a, b)) st.calling.units links.known fits)
        (each_both (ReadKept config past) (Has config past) (λ unit. ReadKept config past unit × Has config past unit) (λ unit a b. (a, b)) st.calling.units units.read h.each)

    one : (unit : Unit) → Before unit → HasEffect st event unit → Has config (event ∷ past) (unit_after st event unit)
    one unit b effect = effect_has config past st event unit (unit_after st event unit) effect links.calls (unit_quiet past st event may links.calls unit b.0.0) b.0.1 b.1.0 b.1.1
