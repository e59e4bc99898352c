-- The rounds of a call: all but the last failed, the last one asked for what is incomplete, and nodes refuse for a higher topology alone.
use Rattle.std.proofs.Common.{◌≡◌, ℕ, ◌+◌, ◌<◌, ◌==◌, nat_lt, nat_le, Bool, true, false, not, ◌&&◌, ◌||◌, inl, inr, if◌then◌else◌, List, [], ◌∷◌, ◌++◌, length, Some, refl, sym, ap, ◌∙◌, arith, subst}
use Rattle.std.proofs.lemmas.Bool.{and_from, and_parts, eq-eqb, eqb-true, leb-true, lt-ltb, or_cases, or_left, or_right, true≢false}
use Rattle.std.specs.Bool.{beq}
use Rattle.std.specs.List.{AllByRecursion, list_all, list_any}
use Rattle.grid_event.specs.Members.{installed_topology, is_live}
use Rattle.grid_event.specs.UnitHistories.{has_ended, has_ended_on, is_closed}
use Rattle.grid_event.specs.declared.call_events.Ask.{Ask}
use Rattle.grid_event.specs.declared.call_events.RoundEvent.{RoundEvent}
use Rattle.grid_event.specs.declared.config.Config.{Config}
use Rattle.grid_event.specs.declared.event.Event.{Event}
use Rattle.grid_event.specs.declared.event.Event.TheVariants.{Write, Erase, Tick, Join, Depart, Announce, Install, Copy, Land, Invoke, Round, Begin, Scan, Fetch, Take, Done, Answer}
use Rattle.topology_coord.proofs.FirstNodes.{in_row}
use Rattle.topology_coord.specs.Coordination.{installed_id}
use Rattle.topology_phase.proofs.OwnerLists.{among-filter}
use Rattle.topology_phase.specs.Owners.{among}
use Rattle.cluster_model.specs.Calls.{all_complete, asks_from, has_open, incomplete}
use Rattle.cluster_model.specs.Causes.{each_round_failed, failed, is_ahead_of_rounds, last_asks, last_round_failed, refused_ahead, rounds_of}
use Rattle.cluster_model.specs.Guarantees.{rounds_in}
use Rattle.cluster_model.specs.State.{Call, State, Unit, call_of, goes_on, is_asked, is_ended, is_of, is_on, is_open_unit, segments_read}
use Rattle.cluster_model.specs.Step.{allowed}
use Rattle.cluster_model.specs.Topologies.{is_complete}
use Rattle.cluster_model.specs.Units.{can_begin, can_begin_unit, reads}
use Rattle.cluster_laws.proofs.causes.CauseDates.{DatesTold, closed_is, dated, each_dated}
use Rattle.cluster_laws.proofs.causes.CauseIds.{IdsOf, refused_behind}
use Rattle.cluster_laws.proofs.causes.CauseUnits.{asked_opens, RoundKnown, round_known}
use Rattle.cluster_laws.proofs.causes.CauseWords.{all_true, all_wider, any_wider, but_last, but_last-push, ended_on_more, failed_more, last_asks-push, last_failed, rounds_failed, row_below, some_fails}
use Rattle.cluster_laws.proofs.Lists.{each_both, each_imply}
use Rattle.cluster_laws.proofs.units.StageRuns.{IsTraced, ends_told}
use Rattle.cluster_laws.proofs.units.StageSteps.{StageKept}
use Rattle.cluster_laws.proofs.units.UnitFacts.{each_named}
use Rattle.cluster_laws.proofs.units.UnitPlaces.{Placed}
use Rattle.cluster_laws.specs.Laws.{ask_of}

-- what is known of the rounds of a call
pub record RoundsOf (config : Config) (past : List Event) (call : ℕ) : Type 0 where
  pub earlier : list_all (λ (r : RoundEvent). list_any (failed config past) r.asks) (but_last (rounds_of past call)) ≡ true
  pub asked : (segment : ℕ) → segment < config.segments → has_ended_on past call segment ≡ false
      → ((rounds_in past call == 0) || list_any (λ (ask : Ask). ask.segment == segment) (last_asks (rounds_of past call))) ≡ true
  pub ahead : refused_ahead config past call ≡ true

-- what wasn't so after an event wasn't before
unended_before : (past : List Event) (event : Event) (call segment : ℕ) → has_ended_on (event ∷ past) call segment ≡ false → has_ended_on past call segment ≡ false
unended_before past event call segment h = by_test (has_ended_on past call segment) refl
  where
    by_test : (b : Bool) → has_ended_on past call segment ≡ b → b ≡ false
    by_test false e = refl
    by_test true e = absurd (true≢false (sym (ended_on_more past event call segment e) ∙ h))

-- rounds that failed before an event failed after it
failed_rounds : (config : Config) (past : List Event) (event : Event) (rounds : List RoundEvent) → list_all (λ (r : RoundEvent). list_any (failed config past) r.asks) rounds ≡ true → list_all (λ (r : RoundEvent). list_any (failed config (event ∷ past)) r.asks) rounds ≡ true
failed_rounds config past event rounds h =
    all_wider (λ (r : RoundEvent). list_any (failed config past) r.asks) (λ (r : RoundEvent). list_any (failed config (event ∷ past)) r.asks)
    (λ r a. any_wider (failed config past) (failed config (event ∷ past)) (failed_more config past event) r.asks a) rounds h

-- an event that is no round of the call
pub rounds_stay : (config : Config) (past : List Event) (event : Event) (call : ℕ) → rounds_of (event ∷ past) call ≡ rounds_of past call → rounds_in (event ∷ past) call ≡ rounds_in past call → refused_ahead config (event ∷ past) call ≡ true →
    RoundsOf config past call → RoundsOf config (event ∷ past) call
rounds_stay config past event call same count ahead h = record {
  earlier = ap (λ rounds. list_all (λ (r : RoundEvent). list_any (failed config (event ∷ past)) r.asks) (but_last rounds)) same ∙ failed_rounds config past event (but_last (rounds_of past call)) h.earlier;
  asked = λ segment within left. (λ i. (count i == 0) || list_any (λ (ask : Ask). ask.segment == segment) (last_asks (same i))) ∙ h.asked segment within (unended_before past event call segment left);
  ahead = ahead;
}

-- where none passes a test each fails it
each_false : {A : Type 0} (p : A → Bool) (xs : List A) → list_any p xs ≡ false → AllByRecursion (λ x. p x ≡ false) xs
each_false p [] a = tt
each_false p (x ∷ xs) a = by_head (p x) refl a (each_false p xs)
  where
    by_head : (b : Bool) → p x ≡ b → (b || list_any p xs) ≡ false → (list_any p xs ≡ false → AllByRecursion (λ y. p y ≡ false) xs) → (p x ≡ false) × AllByRecursion (λ y. p y ≡ false) xs
    by_head true e a rest = absurd (cc)
    by_head false e a rest = (e, rest a)

module _ (config : Config) (past : List Event) (st : State) (h : IsTraced config past st) (told : DatesTold past st.calling.units) where
  -- where no unit of a call is open and a segment isn't complete, the last round failed on it, and each round failed
  pub last_round_fails : (call segment : ℕ) → RoundsOf config past call → segment < config.segments → has_open st.calling call ≡ false → has_ended_on past call segment ≡ false → last_round_failed config past call segment ≡ true
  last_round_fails call segment rounds within closed left =
      last_failed config past call segment
      (each_dated past st.calling.units told call (λ a. (is_closed config past a.0 ≡ true) × (((a.0.segment == segment) && has_ended past a.0.unit) ≡ false))
      (each_both (λ unit. (is_of call unit && is_open_unit unit) ≡ false) (λ unit. StageKept config past unit × ((is_on call segment unit && is_ended unit.work.state) ≡ false))
      (λ unit. is_of call unit ≡ true → (is_closed config past (ask_of unit) ≡ true) × (((unit.work.segment == segment) && has_ended past unit.work.id) ≡ false)) one st.calling.units
      (each_false (λ unit. is_of call unit && is_open_unit unit) st.calling.units closed)
      (each_both (StageKept config past) (λ unit. (is_on call segment unit && is_ended unit.work.state) ≡ false) (λ unit. StageKept config past unit × ((is_on call segment unit && is_ended unit.work.state) ≡ false)) (λ unit k e. (k, e)) st.calling.units h.stages.each
      (each_false (λ unit. is_on call segment unit && is_ended unit.work.state) st.calling.units (sym (ends_told config past st h call segment) ∙ left)))))
      (rounds.asked segment within left)
    where
      shut : (a b : Bool) → a ≡ true → (a && b) ≡ false → not b ≡ true
      shut true true a e = absurd (cc)
      shut true false a e = refl
      shut false b a e = absurd (cc)

      one : (unit : Unit) → (is_of call unit && is_open_unit unit) ≡ false → StageKept config past unit × ((is_on call segment unit && is_ended unit.work.state) ≡ false) → is_of call unit ≡ true →
          (is_closed config past (ask_of unit) ≡ true) × (((unit.work.segment == segment) && has_ended past unit.work.id) ≡ false)
      one unit o (k, e) of = (
        closed_is config past unit k ∙ shut (is_of call unit) (is_open_unit unit) of o,
        (λ i. (unit.work.segment == segment) && k.ended i) ∙ ap (λ b. (b && (unit.work.segment == segment)) && is_ended unit.work.state) (sym of) ∙ e,
      )

  -- and then each round failed
  pub each_round_fails : (call segment : ℕ) → RoundsOf config past call → last_round_failed config past call segment ≡ true → each_round_failed config past call ≡ true
  each_round_fails call segment rounds last = rounds_failed config past call segment rounds.earlier last

  -- an incomplete segment of a call, where not all are complete
  pub incomplete_one : (call : ℕ) → all_complete st.calling call ≡ false → (segment : ℕ) × ((segment < config.segments) × (has_ended_on past call segment ≡ false))
  incomplete_one call left =
      let some = some_fails (is_complete st.calling.units call) (segments_read st.calling) left in (
        some.0,
        (
          (let b = row_below 0 st.calling.segments some.0 some.1.1 in let n = h.kept.told.segments in omega arith),
          ends_told config past st h call some.0 ∙ some.1.0,
        ),
      )

  -- ---- rounds

  -- a round that is made for some segments asks for each of them
  asks_segment : (originator n : ℕ) (segments : List ℕ) (segment : ℕ) → among segment segments ≡ true → list_any (λ (ask : Ask). ask.segment == segment) (asks_from st.holding originator n segments) ≡ true
  asks_segment originator n [] segment there = absurd (cc)
  asks_segment originator n (s ∷ segments) segment there = elim (or_cases (s == segment) (among segment segments) there) [
    | inl here ↦ or_left (s == segment) _ here
    | inr further ↦ or_right (s == segment) _ (asks_segment originator (n + 1) segments segment further)
  ]

  -- a round of a call
  pub rounds_more : (r : RoundEvent) (call : Call) → RoundKnown st r call → RoundsOf config past r.call → RoundsOf config (Round r ∷ past) r.call
  rounds_more r call known rounds =
      let one = incomplete_one r.call known.missing in
      let last = last_round_fails r.call one.0 rounds one.1.0 known.closed one.1.1 in
      record {
        earlier =
            ap (λ b. list_all (λ (x : RoundEvent). list_any (failed config (Round r ∷ past)) x.asks) (but_last (if b then rounds_of past r.call ++ r ∷ [] else rounds_of past r.call))) (eq-eqb r.call r.call refl)
            ∙ ap (list_all (λ (x : RoundEvent). list_any (failed config (Round r ∷ past)) x.asks)) (but_last-push (rounds_of past r.call) r)
            ∙ failed_rounds config past (Round r) (rounds_of past r.call) (each_round_fails r.call one.0 rounds last);
        asked = λ segment within left.
            or_right (rounds_in (Round r ∷ past) r.call == 0) _
            (ap (λ b. list_any (λ (ask : Ask). ask.segment == segment) (last_asks (if b then rounds_of past r.call ++ r ∷ [] else rounds_of past r.call))) (eq-eqb r.call r.call refl)
            ∙ ap (list_any (λ (ask : Ask). ask.segment == segment)) (last_asks-push (rounds_of past r.call) r ∙ known.asks)
            ∙ asks_segment call.originator (length st.calling.units + 1) (incomplete st.calling r.call) segment (there segment within (unended_before past (Round r) r.call segment left)));
        ahead = rounds.ahead;
      }
    where
      there : (segment : ℕ) → segment < config.segments → has_ended_on past r.call segment ≡ false → among segment (incomplete st.calling r.call) ≡ true
      there segment within left =
          let n = h.kept.told.segments in
          among-filter segment (λ s. not (is_complete st.calling.units r.call s)) (segments_read st.calling)
          ∙ (λ i. not ((sym (ends_told config past st h r.call segment) ∙ left) i) && in_row 0 st.calling.segments segment (omega arith) (omega arith) i)

  -- ---- begins

  -- a flag that is the same as no is no
  not_so : (b : Bool) → beq false b ≡ true → b ≡ false
  not_so true h = absurd (cc)
  not_so false h = refl

  -- the ask is of another unit, or its node is live and has installed more than the topology of the ask
  abbrev IsAhead : ℕ → Ask × ℕ → Type 0
  IsAhead number a = (not (a.0.unit == number) || (is_live config past a.0.node && nat_lt a.1 (installed_topology config past a.0.node))) ≡ true

  -- a unit that is refused is behind what its node has installed, and the node is live
  ahead_one : (number : ℕ) (unit : Unit) → ((unit.work.id == number) ≡ true → can_begin_unit st false (Some unit) ≡ true) → Placed st.holding.coord unit → IdsOf config past st.holding.coord unit → IsAhead number (dated unit)
  ahead_one number unit test placed ids = by_test (unit.work.id == number) refl
    where
      by_test : (b : Bool) → (unit.work.id == number) ≡ b → (not b || (is_live config past unit.work.node && nat_lt unit.work.asked_at (installed_topology config past unit.work.node))) ≡ true
      by_test false t = refl
      by_test true t =
          let a = and_parts (goes_on st.holding (call_of st.calling unit.work.call)) (is_asked unit.work.state && (nat_le unit.work.asked_at (installed_id st.holding.coord unit.work.node) && beq false (reads st.holding unit))) (test t) in
          let b = and_parts (is_asked unit.work.state) (nat_le unit.work.asked_at (installed_id st.holding.coord unit.work.node) && beq false (reads st.holding unit)) a.1 in
          let d = and_parts (nat_le unit.work.asked_at (installed_id st.holding.coord unit.work.node)) (beq false (reads st.holding unit)) b.1 in
          let live = placed.live (asked_opens unit.work.state b.0) in
          let behind = refused_behind config past st h.kept unit live (leb-true unit.work.asked_at (installed_id st.holding.coord unit.work.node) d.0) ids.right (not_so (reads st.holding unit) d.1) in
          let e = h.kept.told.installed unit.work.node live in
          and_from (is_live config past unit.work.node) (nat_lt unit.work.asked_at (installed_topology config past unit.work.node)) (sym (h.kept.told.live unit.work.node) ∙ live)
          (lt-ltb unit.work.asked_at (installed_topology config past unit.work.node) (omega arith))

  -- a node that refuses is live, and has installed a higher topology than the unit's round
  pub begins_ahead : (number : ℕ) (runs : Bool) (call : ℕ) → can_begin st number runs ≡ true → AllByRecursion (IdsOf config past st.holding.coord) st.calling.units → (runs || is_ahead_of_rounds config past number (rounds_of past call)) ≡ true
  unfolding can_begin
  begins_ahead number true call may ids = refl
  begins_ahead number false call may ids =
      all_true (λ (round : RoundEvent). list_all (λ (ask : Ask). not (ask.unit == number) || (is_live config past ask.node && nat_lt round.id (installed_topology config past ask.node))) round.asks) (rounds_of past call)
      (each_imply (λ (round : RoundEvent). AllByRecursion (λ ask. IsAhead number (ask, round.id)) round.asks)
      (λ (round : RoundEvent). list_all (λ (ask : Ask). not (ask.unit == number) || (is_live config past ask.node && nat_lt round.id (installed_topology config past ask.node))) round.asks ≡ true)
      (λ round a. all_true (λ (ask : Ask). not (ask.unit == number) || (is_live config past ask.node && nat_lt round.id (installed_topology config past ask.node))) round.asks a) (rounds_of past call)
      (each_dated past st.calling.units told call (IsAhead number)
      (each_both (λ unit. IdsOf config past st.holding.coord unit × Placed st.holding.coord unit) (λ unit. (unit.work.id == number) ≡ true → can_begin_unit st false (Some unit) ≡ true) (λ unit. is_of call unit ≡ true → IsAhead number (dated unit))
      (λ unit p test of. ahead_one number unit test p.1 p.0) st.calling.units
      (each_both (IdsOf config past st.holding.coord) (Placed st.holding.coord) (λ unit. IdsOf config past st.holding.coord unit × Placed st.holding.coord unit) (λ unit i p. (i, p)) st.calling.units ids h.placed)
      (each_named st number (can_begin_unit st false) refl may h.units.numbered))))

  -- ---- all kinds

  -- an event that is neither a round of the call nor a refusal
  aside : (event : Event) (call : ℕ) → RoundsOf config past call → rounds_of (event ∷ past) call ≡ rounds_of past call → rounds_in (event ∷ past) call ≡ rounds_in past call → refused_ahead config (event ∷ past) call ≡ refused_ahead config past call → RoundsOf config (event ∷ past) call
  aside event call rounds same count ahead = rounds_stay config past event call same count (ahead ∙ rounds.ahead) rounds

  -- each event that may happen keeps what is known of the rounds of a call
  pub rounds_kept : (event : Event) → allowed st event ≡ true → AllByRecursion (IdsOf config past st.holding.coord) st.calling.units → (call : ℕ) → RoundsOf config past call → RoundsOf config (event ∷ past) call
  rounds_kept (Round r) may ids call rounds = by_test (r.call == call) refl
    where
      by_test : (b : Bool) → (r.call == call) ≡ b → RoundsOf config (Round r ∷ past) call
      by_test true t =
          let known : (x : Call) × RoundKnown st r x = round_known st r may in
          let same = eqb-true r.call call t in
          subst (RoundsOf config (Round r ∷ past)) same (rounds_more r known.0 known.1 (subst (RoundsOf config past) (sym same) rounds))
      by_test false t =
          aside (Round r) call rounds (ap (λ b. if b then rounds_of past call ++ r ∷ [] else rounds_of past call) t) (ap (λ b. (if b then 1 else 0) + rounds_in past call) t ∙ omega arith) refl
  rounds_kept (Begin number runs) may ids call rounds =
      rounds_stay config past (Begin number runs) call refl refl
      (and_from (runs || is_ahead_of_rounds config past number (rounds_of past call)) (refused_ahead config past call) (begins_ahead number runs call may ids) rounds.ahead) rounds
  rounds_kept (Write w) may ids call rounds = aside (Write w) call rounds refl refl refl
  rounds_kept (Erase e) may ids call rounds = aside (Erase e) call rounds refl refl refl
  rounds_kept (Tick ticks) may ids call rounds = aside (Tick ticks) call rounds refl refl refl
  rounds_kept (Join node) may ids call rounds = aside (Join node) call rounds refl refl refl
  rounds_kept (Depart node) may ids call rounds = aside (Depart node) call rounds refl refl refl
  rounds_kept (Announce topology) may ids call rounds = aside (Announce topology) call rounds refl refl refl
  rounds_kept (Install node id) may ids call rounds = aside (Install node id) call rounds refl refl refl
  rounds_kept (Copy c) may ids call rounds = aside (Copy c) call rounds refl refl refl
  rounds_kept (Land receiver segment) may ids call rounds = aside (Land receiver segment) call rounds refl refl refl
  rounds_kept (Invoke i) may ids call rounds = aside (Invoke i) call rounds refl refl refl
  rounds_kept (Scan s) may ids call rounds = aside (Scan s) call rounds refl refl refl
  rounds_kept (Fetch f) may ids call rounds = aside (Fetch f) call rounds refl refl refl
  rounds_kept (Take t) may ids call rounds = aside (Take t) call rounds refl refl refl
  rounds_kept (Done unit) may ids call rounds = aside (Done unit) call rounds refl refl refl
  rounds_kept (Answer a) may ids call rounds = aside (Answer a) call rounds refl refl refl
