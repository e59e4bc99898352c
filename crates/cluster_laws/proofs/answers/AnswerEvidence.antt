-- The evidence of a reduction, told by the events, is what its units read that count; and how often a key is in it.
use Rattle.std.proofs.Common.{◌≡◌, ℕ, ◌+◌, ◌≤◌, ◌<◌, ◌==◌, Bool, true, false, ◌&&◌, ◌||◌, cond, if◌then◌else◌, List, [], ◌∷◌, ◌++◌, map, Option, None, Some, refl, sym, ap, subst, ◌∙◌, arith}
use Rattle.std.proofs.lemmas.Bool.{and_from, and_parts, eqb-true, or_right}
use Rattle.std.specs.List.{AllByRecursion, filter, flat_map, range_with_len}
use Rattle.delivery_mode.specs.Guarantee.{keeps_lost}
use Rattle.grid_base.specs.declared.datum.Datum.{Datum}
use Rattle.grid_base.specs.declared.entry.Entry.{Entry}
use Rattle.grid_event.specs.UnitHistories.{asks_of_call}
use Rattle.grid_event.specs.declared.call_events.Ask.{Ask}
use Rattle.grid_event.specs.declared.config.Config.{Config}
use Rattle.grid_event.specs.declared.event.Event.{Event}
use Rattle.local_publisher.specs.declared.unit_state.UnitState.{UnitState}
use Rattle.local_publisher.specs.declared.unit_state.UnitState.TheVariants.{Asked, Running, Refused, Lost, Ended}
use Rattle.segment_hash.specs.Segments.{segment_number}
use Rattle.cluster_model.specs.Answers.{counts, evidence_of}
use Rattle.cluster_model.specs.Evidence.{StoodOnce, StoodThroughout, evidence, evidence_by, how_many, is_counted, request_of, scanned_by, scanned_evidence, taken_in, times}
use Rattle.cluster_model.specs.State.{Call, State, Unit, call_of, is_ended, is_lost, is_of, is_on, is_running, is_walk}
use Rattle.cluster_model.specs.Told.{is_segment}
use Rattle.cluster_model.specs.Topologies.{is_complete}
use Rattle.cluster_laws.specs.Laws.{is_refused}
use Rattle.cluster_laws.proofs.answers.AnswerUnits.{Fits, Has}
use Rattle.cluster_laws.proofs.units.CallLinks.{ask_of, asks_walk, request_told}
use Rattle.cluster_laws.proofs.answers.AnswerLinks.{LinksKept}
use Rattle.cluster_laws.proofs.answers.EvidenceCounts.{EachStood, each_read, each_row, none_elsewhere, once_there, row_ge, row_le, row_none, sum_ge, sum_le, sum_none, times_read}
use Rattle.cluster_laws.proofs.Lists.{each_both, each_imply}
use Rattle.cluster_laws.proofs.units.Reading.{entry_le, reads_in}
use Rattle.cluster_laws.proofs.units.ReadSteps.{ReadKept}
use Rattle.cluster_laws.proofs.units.UnitCounts.{is_lost_on, is_standing, stands}

-- what is known of a unit here
pub record UnitKnown (config : Config) (past : List Event) (unit : Unit) : Type 0 where
  pub has : Has config past unit
  pub read : ReadKept config past unit

-- so it is of each unit
pub units_known : (config : Config) (past : List Event) (units : List Unit) → AllByRecursion (Has config past) units → AllByRecursion (ReadKept config past) units → AllByRecursion (UnitKnown config past) units
units_known config past units has read = each_both (Has config past) (ReadKept config past) (UnitKnown config past) (λ unit h r. record { has = h; read = r }) units has read

-- of a segment, what was scanned of counted units is what they read
told_segment : (config : Config) (past : List Event) (number segment : ℕ) (call : Call) (units : List Unit) → asks_walk (request_of past number) ≡ false → AllByRecursion (UnitKnown config past) units →
    flat_map (λ (ask : Ask). scanned_by past ask.unit) (filter (λ (ask : Ask). (ask.segment == segment) && is_counted past call.request ask) (map ask_of (filter (is_of number) units)))
    ≡ flat_map (λ (unit : Unit). unit.work.entries) (filter (λ (unit : Unit). is_on number segment unit && counts call unit) units)
told_segment config past number segment call [] form h = refl
told_segment config past number segment call (unit ∷ units) form h = by_call (unit.work.call == number) refl (told_segment config past number segment call units form h.1)
  where
    by_call : (b : Bool) → (unit.work.call == number) ≡ b →
        flat_map (λ (ask : Ask). scanned_by past ask.unit) (filter (λ (ask : Ask). (ask.segment == segment) && is_counted past call.request ask) (map ask_of (filter (is_of number) units)))
        ≡ flat_map (λ (unit : Unit). unit.work.entries) (filter (λ (unit : Unit). is_on number segment unit && counts call unit) units) →
        flat_map (λ (ask : Ask). scanned_by past ask.unit)
        (filter (λ (ask : Ask). (ask.segment == segment) && is_counted past call.request ask) (map ask_of (if b then unit ∷ filter (is_of number) units else filter (is_of number) units)))
        ≡ flat_map (λ (unit : Unit). unit.work.entries)
        (if (b && (unit.work.segment == segment)) && counts call unit
        then unit ∷ filter (λ (unit : Unit). is_on number segment unit && counts call unit) units
        else filter (λ (unit : Unit). is_on number segment unit && counts call unit) units)
    by_call false e rest = rest
    by_call true e rest =
        ap (λ b. flat_map (λ (ask : Ask). scanned_by past ask.unit)
        (if (unit.work.segment == segment) && (keeps_lost call.request.guarantee || b)
        then ask_of unit ∷ filter (λ (ask : Ask). (ask.segment == segment) && is_counted past call.request ask) (map ask_of (filter (is_of number) units))
        else filter (λ (ask : Ask). (ask.segment == segment) && is_counted past call.request ask) (map ask_of (filter (is_of number) units)))) h.0.read.told
        ∙ by_test ((unit.work.segment == segment) && counts call unit)
      where
        scanned : scanned_by past unit.work.id ≡ unit.work.entries
        scanned = h.0.has.scanned (ap (λ n. asks_walk (request_of past n)) (eqb-true unit.work.call number e) ∙ form)

        by_test : (t : Bool) →
            flat_map (λ (ask : Ask). scanned_by past ask.unit)
            (if t
            then ask_of unit ∷ filter (λ (ask : Ask). (ask.segment == segment) && is_counted past call.request ask) (map ask_of (filter (is_of number) units))
            else filter (λ (ask : Ask). (ask.segment == segment) && is_counted past call.request ask) (map ask_of (filter (is_of number) units)))
            ≡ flat_map (λ (unit : Unit). unit.work.entries)
            (if t
            then unit ∷ filter (λ (unit : Unit). is_on number segment unit && counts call unit) units
            else filter (λ (unit : Unit). is_on number segment unit && counts call unit) units)
        by_test true = λ i. scanned i ++ rest i
        by_test false = rest

-- the evidence of a reduction is what its units read that count
pub reduction_told : (config : Config) (past : List Event) (st : State) (number : ℕ) (call : Call) → st.calling.segments ≡ config.segments → LinksKept past st → AllByRecursion (UnitKnown config past) st.calling.units → call_of st.calling number ≡ Some call → is_walk call.request ≡ false →
    evidence config past number ≡ evidence_of st.calling number call
unfolding evidence
reduction_told config past st number call read_all links known there form =
    ap (evidence_by config past number) asked
    ∙ ap (λ b. if b then taken_in past number else scanned_evidence config past number call.request) form
    ∙ (λ i. flat_map (λ segment. one segment i) (range_with_len 0 (sym read_all i)))
  where
    asked : request_of past number ≡ Some call.request
    asked = request_told past st number call links.calls there

    one : (segment : ℕ) →
        flat_map (λ (ask : Ask). scanned_by past ask.unit) (filter (λ (ask : Ask). (ask.segment == segment) && is_counted past call.request ask) (asks_of_call past number))
        ≡ flat_map (λ (unit : Unit). unit.work.entries) (filter (λ (unit : Unit). is_on number segment unit && counts call unit) st.calling.units)
    one segment =
        ap (λ asks. flat_map (λ (ask : Ask). scanned_by past ask.unit) (filter (λ (ask : Ask). (ask.segment == segment) && is_counted past call.request ask) asks)) (links.asks number)
        ∙ told_segment config past number segment call st.calling.units (ap asks_walk asked ∙ form) known

-- the evidence of a walk is what it took
pub walk_told : (config : Config) (past : List Event) (st : State) (number : ℕ) (call : Call) → LinksKept past st → call_of st.calling number ≡ Some call → is_walk call.request ≡ true → evidence config past number ≡ taken_in past number
unfolding evidence
walk_told config past st number call links there form =
    ap (evidence_by config past number) (request_told past st number call links.calls there)
    ∙ ap (λ b. if b then taken_in past number else scanned_evidence config past number call.request) form

-- a unit on a segment may have read where it stands or is lost
abbrev pub may_have : ℕ → ℕ → Unit → Bool
may_have call segment unit = is_standing call segment unit || is_lost_on call segment unit

-- a unit of a call has a key of a segment once at most, where it is on the segment
pub on_bound : (config : Config) (past : List Event) (call segment : ℕ) (key : List ℕ) (unit : Unit) → UnitKnown config past unit → segment_number config.partition config.segments key ≡ Some segment → is_of call unit ≡ true →
    times key unit.work.entries ≤ cond {A = ℕ} (is_on call segment unit) 1 0
on_bound config past call segment key unit known is of_call =
    let a = once_there config past unit.work.call unit.work.segment key unit.work.entries (known.read.once key) known.has.fit in
    let b = ap (λ o. cond {A = ℕ} (is_segment o unit.work.segment) 1 0) is in
    let c = ap (λ b. cond {A = ℕ} (b && (unit.work.segment == segment)) 1 0) of_call in
    omega arith

-- and then it stands or is lost
pub may_bound : (config : Config) (past : List Event) (call segment : ℕ) (key : List ℕ) (unit : Unit) → UnitKnown config past unit → segment_number config.partition config.segments key ≡ Some segment → is_of call unit ≡ true →
    times key unit.work.entries ≤ cond {A = ℕ} (may_have call segment unit) 1 0
may_bound config past call segment key unit known is of_call =
    let a = on_bound config past call segment key unit known is of_call in
    let b = by_stage (is_on call segment unit) unit.work.state refl in omega arith
  where
    by_stage : (b : Bool) (stage : UnitState) → unit.work.state ≡ stage → times key unit.work.entries ≤ cond {A = ℕ} b 1 0 → times key unit.work.entries ≤ cond {A = ℕ} ((b && stands stage) || (b && is_lost stage)) 1 0
    by_stage false stage e h = h
    by_stage true Asked e h = h
    by_stage true Running e h = h
    by_stage true (Lost at) e h = h
    by_stage true Ended e h = h
    by_stage true (Refused at) e h = let empty = known.has.unread (ap is_refused e) in let c = ap (times key) empty in omega arith

-- how many pass one of two tests
pub count_either : {A : Type 0} (p q : A → Bool) (xs : List A) → how_many (λ x. p x || q x) xs ≤ how_many p xs + how_many q xs
count_either p q [] = omega arith
count_either p q (x ∷ xs) = let rest = count_either p q xs in let one = either (p x) (q x) in omega arith
  where
    either : (a b : Bool) → cond {A = ℕ} (a || b) 1 0 ≤ cond {A = ℕ} a 1 0 + cond {A = ℕ} b 1 0
    either true true = omega arith
    either true false = omega arith
    either false b = omega arith

-- a unit that has ended has read what stood throughout
pub ended_has : (config : Config) (past : List Event) (call segment : ℕ) (key : List ℕ) (datum : Datum) (unit : Unit) → UnitKnown config past unit → segment_number config.partition config.segments key ≡ Some segment →
    is_on call segment unit ≡ true → is_ended unit.work.state ≡ true → StoodThroughout config past call key datum → 1 ≤ times key unit.work.entries
ended_has config past call segment key datum unit known is on ended stood =
    let p : ((unit.work.call == call) ≡ true) × ((unit.work.segment == segment) ≡ true) = and_parts (unit.work.call == call) (unit.work.segment == segment) on in
    let here : segment_number config.partition config.segments key ≡ Some unit.work.segment = is ∙ ap (λ s. Some s) (sym (eqb-true unit.work.segment segment p.1)) in
    let reads : reads_in unit.work.state ≡ true = or_right (is_running unit.work.state) (is_ended unit.work.state) ended in
    let through = subst (λ n. StoodThroughout config past n key datum) (sym (eqb-true unit.work.call call p.0)) stood in
    let since = known.has.lasts reads key datum through in
    let found = known.read.read reads key datum here since (known.read.left reads (known.has.whole ended).0 key datum here since) in
    let less = entry_le key datum unit.work.entries in
    omega arith

module _ (config : Config) (past : List Event) (st : State) (number : ℕ) (call : Call) (read_all : st.calling.segments ≡ config.segments) (known : AllByRecursion (UnitKnown config past) st.calling.units) where
  -- what the units on a segment read that count
  abbrev part : ℕ → List Entry
  part segment = flat_map (λ (unit : Unit). unit.work.entries) (filter (λ (unit : Unit). is_on number segment unit && counts call unit) st.calling.units)

  -- a unit that counts on a segment is of the call, and on the segment
  is_part : (segment : ℕ) (unit : Unit) → (is_on number segment unit && counts call unit) ≡ true → (is_of number unit ≡ true) × ((unit.work.segment == segment) ≡ true)
  is_part segment unit t = and_parts (is_of number unit) (unit.work.segment == segment) (and_parts (is_on number segment unit) (counts call unit) t).0

  -- another segment hasn't the key
  elsewhere : (key : List ℕ) (segment : ℕ) → is_segment (segment_number config.partition config.segments key) segment ≡ false → times key (part segment) ≡ 0
  elsewhere key segment other =
      times_read key (λ unit. is_on number segment unit && counts call unit) st.calling.units
      ∙ sum_none (λ unit. times key unit.work.entries) (λ unit. is_on number segment unit && counts call unit) st.calling.units
      (each_imply (UnitKnown config past) (λ unit. (is_on number segment unit && counts call unit) ≡ true → times key unit.work.entries ≡ 0) one st.calling.units known)
    where
      one : (unit : Unit) → UnitKnown config past unit → (is_on number segment unit && counts call unit) ≡ true → times key unit.work.entries ≡ 0
      one unit k t =
          none_elsewhere config past unit.work.call unit.work.segment key unit.work.entries
          (ap (is_segment (segment_number config.partition config.segments key)) (eqb-true unit.work.segment segment (is_part segment unit t).1) ∙ other) k.has.fit

  -- a key is no more often in the evidence than units pass a test of which each that has the key passes it
  pub evidence_le : (q : ℕ → Unit → Bool) (most : ℕ) (key : List ℕ) →
      ((segment : ℕ) (unit : Unit) → UnitKnown config past unit → segment_number config.partition config.segments key ≡ Some segment → (is_on number segment unit && counts call unit) ≡ true → times key unit.work.entries ≤ cond {A = ℕ} (q segment unit) 1 0) →
      ((segment : ℕ) → how_many (q segment) st.calling.units ≤ most) → times key (evidence_of st.calling number call) ≤ most
  evidence_le q most key each few = by_segment (segment_number config.partition config.segments key) refl
    where
      by_segment : (found : Option ℕ) → segment_number config.partition config.segments key ≡ found → times key (evidence_of st.calling number call) ≤ most
      by_segment None e = let a = row_none key part 0 st.calling.segments (λ s l. elsewhere key s (ap (λ o. is_segment o s) e)) in omega arith
      by_segment (Some segment) e =
          let a = row_le key part segment (λ t other. elsewhere key t (ap (λ o. is_segment o t) e ∙ other)) 0 st.calling.segments in
          let b = times_read key (λ unit. is_on number segment unit && counts call unit) st.calling.units in
          let c = sum_le (λ unit. times key unit.work.entries) (λ unit. is_on number segment unit && counts call unit) (q segment) st.calling.units
          (each_imply (UnitKnown config past) (λ unit. (is_on number segment unit && counts call unit) ≡ true → times key unit.work.entries ≤ cond {A = ℕ} (q segment unit) 1 0) (λ unit k t. each segment unit k e t) st.calling.units known) in
          let d = few segment in omega arith

  -- an entry that stood throughout is in it, where its segment is complete
  pub evidence_ge : (key : List ℕ) (datum : Datum) (segment : ℕ) → segment < config.segments → segment_number config.partition config.segments key ≡ Some segment → is_complete st.calling.units number segment ≡ true → StoodThroughout config past number key datum →
      1 ≤ times key (evidence_of st.calling number call)
  evidence_ge key datum segment below is complete stood =
      let a = row_ge key part segment 0 st.calling.segments (omega arith) (let e = read_all in omega arith) in
      let b = times_read key (λ unit. is_on number segment unit && counts call unit) st.calling.units in
      let c = sum_ge (λ unit. times key unit.work.entries) (λ unit. is_on number segment unit && counts call unit) (λ unit. is_on number segment unit && is_ended unit.work.state) st.calling.units
      (each_imply (UnitKnown config past) (λ unit. (is_on number segment unit && is_ended unit.work.state) ≡ true → ((is_on number segment unit && counts call unit) ≡ true) × (1 ≤ times key unit.work.entries)) one st.calling.units known) complete in
      omega arith
    where
      one : (unit : Unit) → UnitKnown config past unit → (is_on number segment unit && is_ended unit.work.state) ≡ true → ((is_on number segment unit && counts call unit) ≡ true) × (1 ≤ times key unit.work.entries)
      one unit k t =
          let p : (is_on number segment unit ≡ true) × (is_ended unit.work.state ≡ true) = and_parts (is_on number segment unit) (is_ended unit.work.state) t in (
            and_from (is_on number segment unit) (counts call unit) p.0 (or_right (keeps_lost call.request.guarantee) (is_ended unit.work.state) p.1),
            ended_has config past number segment key datum unit k is p.0 p.1 stood,
          )

  -- each of its entries stood at some place
  pub evidence_stood : EachStood config past number (evidence_of st.calling number call)
  evidence_stood = each_row (λ (e : Entry). StoodOnce config past number e.key e.value) part stood 0 st.calling.segments
    where
      stood : (segment : ℕ) → AllByRecursion (λ (e : Entry). StoodOnce config past number e.key e.value) (part segment)
      stood segment =
          each_read (λ (e : Entry). StoodOnce config past number e.key e.value) (λ unit. is_on number segment unit && counts call unit) st.calling.units
          (each_imply (UnitKnown config past) (λ unit. (is_on number segment unit && counts call unit) ≡ true → EachStood config past number unit.work.entries) one st.calling.units known)
        where
          one : (unit : Unit) → UnitKnown config past unit → (is_on number segment unit && counts call unit) ≡ true → EachStood config past number unit.work.entries
          one unit k t =
              each_imply (Fits config past unit.work.call unit.work.segment) (λ (e : Entry). StoodOnce config past number e.key e.value)
              (λ e f. subst (λ n. StoodOnce config past n e.key e.value) (eqb-true unit.work.call number (is_part segment unit t).0) f.1) unit.work.entries k.has.fit
