-- In every run that a journal holds nothing is stuck.
use Rattle.std.proofs.Common.{◌≡◌, ℕ, zero, suc, ◌+◌, ◌≤◌, ◌<◌, ◌==◌, nat_le, nat_lt, Bool, true, false, not, ◌&&◌, ◌||◌, ◌⊎◌, inl, inr, cond, if◌then◌else◌, List, [], ◌∷◌, length, reverse, Option, None, Some, is_none, is_some, refl, sym, ap, ◌∙◌, arith, subst}
use mathlib.Core.List.{reverse_aux}
use Rattle.std.proofs.lemmas.Bool.{and_from, and_parts, cases_eq, eq-eqb, eqb-true, le-leb, leb-true, lt-ltb, ne_eqb, or_cases, or_left, or_right, true≢false}
use Rattle.std.specs.FinSet as set_of
use Rattle.std.specs.FinSet.{nat_cmp-IsAntisymmetric}
use Rattle.std.specs.Cmp.{nat_cmp_total}
use Rattle.std.specs.List.{AllByRecursion, filter, list_all, list_any, range_with_len}
use Rattle.std.specs.Option.{option_and_then, option_map}
use Rattle.std.specs.Ordering.{nat_cmp}
use Rattle.delivery_mode.specs.Guarantee.{asks_again}
use Rattle.grid_base.specs.declared.limits.TheConstants.{LAST_TOPOLOGY, MOST_EVENTS, MOST_READ, MOST_SEGMENTS, MOST_WEIGHT}
use Rattle.grid_event.specs.Weights.{total_weight}
use Rattle.grid_event.specs.declared.config.Config.{Config}
use Rattle.grid_event.specs.declared.event.Event.{Event}
use Rattle.grid_event.specs.declared.event.Event.TheVariants as events
use Rattle.grid_event.specs.declared.outcome.Outcome.{Outcome}
use Rattle.grid_event.specs.declared.outcome.Outcome.TheVariants as outcomes
use Rattle.suspect_retry.specs.Rounds.{closed_at}
use Rattle.topology_coord.proofs.FirstNodes.{in_row}
use Rattle.topology_coord.specs.Coordination.{installed_id, lives, some_live, topology_of}
use Rattle.topology_phase.proofs.Mending.{any_of}
use Rattle.topology_phase.proofs.OwnerLists.{among-filter}
use Rattle.topology_phase.specs.Owners.{among}
use Rattle.topology_phase.specs.Topologies.{Topology, read_owners}
use Rattle.cluster_model.specs.Answers.{can_answer, can_answer_call, first_of, given_up, is_that_outcome, is_whole, least_of, outcome_by, outcome_of, whole_outcome}
use Rattle.cluster_model.specs.Calls.{all_complete, asks_of, can_round, granted, has_caught_up, has_open, incomplete, is_due, is_next_round}
use Rattle.cluster_model.specs.Commands.{advance_event, answer_event, drive_event, first_some, if_any_allowed, is_unanswered, open_units, or_else, round_event, round_with, unit_event}
use Rattle.cluster_model.specs.Same.{same_ask}
use Rattle.cluster_model.specs.State.{Call, State, Unit, call_of, goes_on, is_ended, is_of, is_on, is_open_unit, segments_of, segments_read, start, unit_of}
use Rattle.cluster_model.specs.Step.{runs, state}
use Rattle.cluster_model.specs.Topologies.{is_complete}
use Rattle.cluster_model.specs.Units.{batch_size, next_batch, read_by}
use Rattle.cluster_model.specs.Writes.{has_reader}
use Rattle.cluster_laws.proofs.units.CallLinks.{rounds_found}
use Rattle.cluster_laws.proofs.causes.CauseFollows.{KnownCall}
use Rattle.cluster_laws.proofs.causes.CauseIds.{IdsOf}
use Rattle.cluster_laws.proofs.causes.CauseQuiet.{unasked_of}
use Rattle.cluster_laws.proofs.causes.CauseRuns.{IsReasoned, few_segments, reasoned_on, reasoned_start}
use Rattle.cluster_laws.proofs.causes.CauseWords.{none_true, some_fails}
use Rattle.cluster_laws.proofs.Lists.{each_both, each_imply}
use Rattle.cluster_laws.proofs.copies.Starts.{good_config}
use Rattle.cluster_laws.proofs.stuck.StuckAdvance.{advances, any_flat, install_there, unread_there}
use Rattle.cluster_laws.proofs.stuck.StuckKept.{RoomOf, room_kept, room_start}
use Rattle.cluster_laws.proofs.stuck.StuckUnits.{allowed_there, ask_itself, batch_short, each_found, first_there, other_there, outcome_itself, pointwise_itself, some_there, unit_goes}
use Rattle.cluster_laws.proofs.units.UnitPlaces.{Placed}
use Rattle.cluster_laws.specs.Laws.{NoCallIsStuck, NothingIsStuck, is_settled}
use Rattle.cluster_laws.proofs.Along.{along}

-- ---- lists

-- none passes where there is no first one
first_none : (p : ℕ → Bool) (xs : List ℕ) (s : ℕ) → first_of (filter p xs) ≡ None → among s xs ≡ true → p s ≡ false
first_none p [] s e there = absurd (cc)
first_none p (x ∷ xs) s e there = by_test (p x) refl e (first_none p xs s)
  where
    by_test : (b : Bool) → p x ≡ b → first_of (if b then x ∷ filter p xs else filter p xs) ≡ None → (first_of (filter p xs) ≡ None → among s xs ≡ true → p s ≡ false) → p s ≡ false
    by_test true t e rest = absurd (cc)
    by_test false t e rest = elim (or_cases (x == s) (among s xs) there) [
      | inl here ↦ ap p (sym (eqb-true x s here)) ∙ t
      | inr further ↦ rest e further
    ]

-- where none fails a test all pass it
all_passing : (p : ℕ → Bool) (xs : List ℕ) → first_of (filter (λ s. not (p s)) xs) ≡ None → list_all p xs ≡ true
all_passing p [] e = refl
all_passing p (x ∷ xs) e = by_test (p x) refl e (all_passing p xs)
  where
    by_test : (b : Bool) → p x ≡ b → first_of (if not b then x ∷ filter (λ s. not (p s)) xs else filter (λ s. not (p s)) xs) ≡ None → (first_of (filter (λ s. not (p s)) xs) ≡ None → list_all p xs ≡ true) → (p x && list_all p xs) ≡ true
    by_test true t e rest = and_from (p x) (list_all p xs) t (rest e)
    by_test false t e rest = absurd (cc)

-- where the first of a row fails, not all pass
fails_first : (p : ℕ → Bool) (n : ℕ) → 0 < n → p 0 ≡ false → list_all p (range_with_len 0 n) ≡ false
fails_first p zero some e = absurd (omega arith)
fails_first p (suc n) some e = ap (λ b. b && list_all p (range_with_len 1 n)) e

-- what all pass, those of a part do
all_filtered : {A : Type 0} (p q : A → Bool) (xs : List A) → AllByRecursion (λ x. p x ≡ true) xs → list_all p (filter q xs) ≡ true
all_filtered p q [] a = refl
all_filtered p q (x ∷ xs) a = by_test (q x) (all_filtered p q xs a.1)
  where
    by_test : (b : Bool) → list_all p (filter q xs) ≡ true → list_all p (if b then x ∷ filter q xs else filter q xs) ≡ true
    by_test true rest = and_from (p x) (list_all p (filter q xs)) a.0 rest
    by_test false rest = rest

-- some of a part pass where some of the whole are of the part and pass
any_filtered : {A : Type 0} (q p : A → Bool) (xs : List A) → list_any (λ x. q x && p x) xs ≡ true → list_any p (filter q xs) ≡ true
any_filtered q p [] h = absurd (cc)
any_filtered q p (x ∷ xs) h = by_test (q x) h (any_filtered q p xs)
  where
    by_test : (b : Bool) → ((b && p x) || list_any (λ y. q y && p y) xs) ≡ true → (list_any (λ y. q y && p y) xs ≡ true → list_any p (filter q xs) ≡ true) → list_any p (if b then x ∷ filter q xs else filter q xs) ≡ true
    by_test true h rest = elim (or_cases (p x) (list_any (λ y. q y && p y) xs) h) [
      | inl here ↦ or_left (p x) (list_any p (filter q xs)) here
      | inr there ↦ or_right (p x) (list_any p (filter q xs)) (rest there)
    ]
    by_test false h rest = rest h

-- an open unit of the call is of one of so many segments, and has an event, or else something other goes on
abbrev Goes : State → ℕ → Bool → ℕ → Unit → Type 0
Goes st number other segments unit =
    (unit.work.segment < segments) × (is_of number unit ≡ true → is_open_unit unit ≡ true → (is_some (unit_event st unit) ≡ true) ⊎ (other ≡ true))

-- where some unit of the call is open, one has an event, or the other goes on
one_goes : (st : State) (number : ℕ) (other : Bool) (segments : ℕ) (units : List Unit) → AllByRecursion (Goes st number other segments) units → list_any (λ unit. is_of number unit && is_open_unit unit) units ≡ true →
    ((s : ℕ) × ((s < segments) × (list_any (λ unit. (is_on number s unit && is_open_unit unit) && is_some (unit_event st unit)) units ≡ true))) ⊎ (other ≡ true)
one_goes st number other segments [] a h = absurd (cc)
one_goes st number other segments (unit ∷ units) a h = elim (or_cases (is_of number unit && is_open_unit unit) (list_any (λ u. is_of number u && is_open_unit u) units) h) [
  | inl here ↦ by_head (and_parts (is_of number unit) (is_open_unit unit) here)
  | inr there ↦ by_rest (one_goes st number other segments units a.1 there)
]
  where
    by_head : (is_of number unit ≡ true) × (is_open_unit unit ≡ true) → ((s : ℕ) × ((s < segments) × (list_any (λ u. (is_on number s u && is_open_unit u) && is_some (unit_event st u)) (unit ∷ units) ≡ true))) ⊎ (other ≡ true)
    by_head (of, opened) = elim (a.0.1 of opened) [
      | inl event ↦ inl (
        unit.work.segment,
        (
          a.0.0,
          or_left ((is_on number unit.work.segment unit && is_open_unit unit) && is_some (unit_event st unit)) _
              (and_from (is_on number unit.work.segment unit && is_open_unit unit) _
              (and_from (is_on number unit.work.segment unit) _ (and_from (is_of number unit) _ of (eq-eqb unit.work.segment unit.work.segment refl)) opened) event),
        ),
      )
      | inr on ↦ inr on
    ]

    by_rest : ((s : ℕ) × ((s < segments) × (list_any (λ u. (is_on number s u && is_open_unit u) && is_some (unit_event st u)) units ≡ true))) ⊎ (other ≡ true) →
        ((s : ℕ) × ((s < segments) × (list_any (λ u. (is_on number s u && is_open_unit u) && is_some (unit_event st u)) (unit ∷ units) ≡ true))) ⊎ (other ≡ true)
    by_rest (inl (s, (within, any))) = inl (s, (within, or_right ((is_on number s unit && is_open_unit unit) && is_some (unit_event st unit)) _ any))
    by_rest (inr on) = inr on

-- the state where a call is driven: there is room in the limits
module _ (config : Config) (past : List Event) (st : State) (h : IsReasoned config past st) (room : RoomOf config past st) (few : config.segments ≤ MOST_SEGMENTS) (some_segment : 0 < config.segments)
    (short : length past ≤ MOST_EVENTS) (light : total_weight past ≤ MOST_WEIGHT) where
  -- the cluster has as many segments as the settings say
  settings : st.holding.config.segments ≡ config.segments
  settings = ap (λ (c : Config). c.segments) h.traced.kept.told.settings

  -- and calls read as many
  read_all : st.calling.segments ≡ config.segments
  read_all = h.traced.kept.told.segments

  -- the newest topology isn't the last there can be
  early : st.holding.coord.newest.id < LAST_TOPOLOGY
  early = let s = room.steps in omega arith

  -- a live node without the newest topology may install it
  installs : (n : ℕ) → lives st.holding.coord n ≡ true → (installed_id st.holding.coord n == st.holding.coord.newest.id) ≡ false → is_some (advance_event st.holding) ≡ true
  installs = install_there config.segments st h.traced.kept.parts.topologies settings room.owned early

  -- a node that is behind a number may install
  behind : (n id : ℕ) → lives st.holding.coord n ≡ true → installed_id st.holding.coord n < id → id ≤ st.holding.coord.newest.id → is_some (advance_event st.holding) ≡ true
  behind n id live less most = installs n live (ne_eqb (installed_id st.holding.coord n) st.holding.coord.newest.id (λ e. absurd (omega arith)))

  -- Advance
  pub advance_on : is_settled st ≡ false → is_some (advance_event st.holding) ≡ true
  advance_on = advances config.segments st h.traced.kept.parts.topologies settings room.owned early

  module _ (number : ℕ) (call : Call) (there : call_of st.calling number ≡ Some call) (unanswered : call.outcome ≡ None) where
    -- an answer
    answers_on : (outcome : Outcome) → outcome_of st number call ≡ Some outcome → is_some (answer_event st number) ≡ true
    unfolding can_answer
    answers_on outcome e =
        ap (λ o. is_some (if_any_allowed st (option_map (λ x. events.Answer (record { call = number; outcome = x })) (option_and_then (outcome_of st number) o)))) there
        ∙ ap (λ o. is_some (if_any_allowed st (option_map (λ x. events.Answer (record { call = number; outcome = x })) o))) e
        ∙ allowed_there st (events.Answer (record { call = number; outcome = outcome }))
        (ap (can_answer_call st (record { call = number; outcome = outcome })) there
        ∙ and_from (is_none call.outcome) _ (ap is_none unanswered) (ap (is_that_outcome outcome) e ∙ outcome_itself outcome))

    -- an open unit has an event, or its node may install
    unit_on : (unit : Unit) → is_of number unit ≡ true → is_open_unit unit ≡ true → lives st.holding.coord call.originator ≡ true → unit_of st.calling unit.work.id ≡ Some unit → Placed st.holding.coord unit → IdsOf config past st.holding.coord unit →
        (is_some (unit_event st unit) ≡ true) ⊎ (is_some (advance_event st.holding) ≡ true)
    unit_on unit of opened live found placed ids =
        elim (unit_goes st unit call found calls (and_from (is_none call.outcome) _ (ap is_none unanswered) live) fits opened) [
          | inl event ↦ inl event
          | inr less ↦ inr (behind unit.work.node unit.work.asked_at (placed.live opened) less ids.asked)
        ]
      where
        calls : call_of st.calling unit.work.call ≡ Some call
        calls = ap (call_of st.calling) (eqb-true unit.work.call number of) ∙ there

        fits : read_by st.calling.units + length (next_batch st unit).entries ≤ MOST_READ
        fits =
            let b = batch_short st unit in
            let s = ap batch_size calls in
            let l = room.batches number call there in
            let r = room.read in
            omega arith

    drive_by : (is_some (answer_event st number) ≡ true) ⊎ ((is_some (first_some (unit_event st) (open_units st.calling number)) ≡ true) ⊎ ((is_some (round_event st number) ≡ true) ⊎ (is_some (advance_event st.holding) ≡ true))) → is_some (drive_event st number) ≡ true
    unfolding drive_event
    drive_by way =
        ap (λ b. is_some (if b then or_else (answer_event st number) (or_else (first_some (unit_event st) (open_units st.calling number)) (or_else (round_event st number) (advance_event st.holding))) else None)) (ap is_unanswered there ∙ ap is_none unanswered)
        ∙ by_way way
      where
        by_way : (is_some (answer_event st number) ≡ true) ⊎ ((is_some (first_some (unit_event st) (open_units st.calling number)) ≡ true) ⊎ ((is_some (round_event st number) ≡ true) ⊎ (is_some (advance_event st.holding) ≡ true))) →
            is_some (or_else (answer_event st number) (or_else (first_some (unit_event st) (open_units st.calling number)) (or_else (round_event st number) (advance_event st.holding)))) ≡ true
        by_way (inl a) = first_there (answer_event st number) _ a
        by_way (inr (inl u)) = other_there (answer_event st number) _ (first_there (first_some (unit_event st) (open_units st.calling number)) _ u)
        by_way (inr (inr (inl r))) = other_there (answer_event st number) _ (other_there (first_some (unit_event st) (open_units st.calling number)) _ (first_there (round_event st number) _ r))
        by_way (inr (inr (inr a))) = other_there (answer_event st number) _ (other_there (first_some (unit_event st) (open_units st.calling number)) _ (other_there (round_event st number) _ a))

    -- where a unit is open
    open_on : has_open st.calling number ≡ true → lives st.holding.coord call.originator ≡ true → is_some (drive_event st number) ≡ true
    open_on opened live = drive_by (inr (by_way (one_goes st number (is_some (advance_event st.holding)) config.segments st.calling.units facts opened)))
      where
        facts : AllByRecursion (Goes st number (is_some (advance_event st.holding)) config.segments) st.calling.units
        facts =
            each_both (λ unit. (unit_of st.calling unit.work.id ≡ Some unit) × (unit.work.segment < config.segments)) (λ unit. Placed st.holding.coord unit × IdsOf config past st.holding.coord unit) (Goes st number (is_some (advance_event st.holding)) config.segments)
            (λ unit a b. (a.1, λ of o. unit_on unit of o live a.0 b.0 b.1)) st.calling.units
            (each_both (λ unit. unit_of st.calling unit.work.id ≡ Some unit) (λ (unit : Unit). unit.work.segment < config.segments) (λ unit. (unit_of st.calling unit.work.id ≡ Some unit) × (unit.work.segment < config.segments)) (λ unit x y. (x, y)) st.calling.units (each_found st h.traced.units.numbered) room.segments)
            (each_both (Placed st.holding.coord) (IdsOf config past st.holding.coord) (λ unit. Placed st.holding.coord unit × IdsOf config past st.holding.coord unit) (λ unit x y. (x, y)) st.calling.units h.traced.placed h.ids)

        by_way : ((s : ℕ) × ((s < config.segments) × (list_any (λ unit. (is_on number s unit && is_open_unit unit) && is_some (unit_event st unit)) st.calling.units ≡ true))) ⊎ (is_some (advance_event st.holding) ≡ true) →
            (is_some (first_some (unit_event st) (open_units st.calling number)) ≡ true) ⊎ ((is_some (round_event st number) ≡ true) ⊎ (is_some (advance_event st.holding) ≡ true))
        by_way (inr a) = inr (inr a)
        by_way (inl (s, (within, any))) =
            inl
            (some_there (unit_event st) (open_units st.calling number)
            (any_flat (λ segment. filter (λ unit. is_on number segment unit && is_open_unit unit) st.calling.units) (λ unit. is_some (unit_event st unit)) (segments_read st.calling)
            (any_of (λ segment. list_any (λ unit. is_some (unit_event st unit)) (filter (λ unit. is_on number segment unit && is_open_unit unit) st.calling.units)) (segments_read st.calling) s
            (any_filtered (λ unit. is_on number s unit && is_open_unit unit) (λ unit. is_some (unit_event st unit)) st.calling.units any)
            (in_row 0 st.calling.segments s (omega arith) (let n = read_all in omega arith)))))

    -- ---- where no unit is open

    -- nothing is noted as lost
    none_noted : least_of call.lost ≡ None → (set_of.len call.lost == 0) ≡ true
    unfolding least_of
    none_noted none = eq-eqb (set_of.len call.lost) 0 (ap set_of.len (set_of.same_set nat_cmp_total nat_cmp-IsAntisymmetric call.lost set_of.empty (λ s. not_there s (set_of.contains call.lost s) refl ∙ sym (set_of.contains-empty nat_cmp s))) ∙ set_of.len-empty nat_cmp)
      where
        not_there : (s : ℕ) (b : Bool) → set_of.contains call.lost s ≡ b → b ≡ false
        not_there s false e = refl
        not_there s true e =
            let w = (h.traced.notes number call there).within s e in
            absurd (true≢false (sym e ∙ first_none (set_of.contains call.lost) (range_with_len 0 MOST_SEGMENTS) s none (in_row 0 MOST_SEGMENTS s (omega arith) (omega arith))))

    -- a round, or a step of the topology
    round_on : has_open st.calling number ≡ false → lives st.holding.coord call.originator ≡ true → least_of call.lost ≡ None → call.rounds < granted call → all_complete st.calling number ≡ false → is_some (drive_event st number) ≡ true
    unfolding can_round
    round_on closed live none left missing = by_installed (installed_id st.holding.coord call.originator == st.holding.coord.newest.id) refl
      where
        caught : installed_id st.holding.coord call.originator ≡ st.holding.coord.newest.id → has_caught_up st call ≡ true
        caught e =
            all_filtered (λ (unit : Unit). nat_le (closed_at unit.work.state) (installed_id st.holding.coord call.originator)) (λ (unit : Unit). among unit.work.id call.last_round) st.calling.units
            (each_imply (IdsOf config past st.holding.coord) (λ (unit : Unit). nat_le (closed_at unit.work.state) (installed_id st.holding.coord call.originator) ≡ true)
            (λ unit ids. le-leb (closed_at unit.work.state) (installed_id st.holding.coord call.originator) (let c = ids.closed in omega arith)) st.calling.units h.ids)

        may : installed_id st.holding.coord call.originator ≡ st.holding.coord.newest.id → list_all (has_reader st.holding call.originator) (incomplete st.calling number) ≡ true → is_due st number call ≡ true
        may e readers =
            and_from (set_of.len call.lost == 0) _ (none_noted none)
            (and_from (not (has_open st.calling number)) _ (ap not closed)
            (and_from (nat_lt call.rounds (granted call)) _ (lt-ltb call.rounds (granted call) left)
            (and_from (not (all_complete st.calling number)) _ (ap not missing)
            (and_from (list_all (has_reader st.holding call.originator) (incomplete st.calling number)) _ readers (caught e)))))

        by_readers : installed_id st.holding.coord call.originator ≡ st.holding.coord.newest.id → (b : Bool) → list_all (has_reader st.holding call.originator) (incomplete st.calling number) ≡ b → is_some (drive_event st number) ≡ true
        by_readers e true readers =
            drive_by
            (inr
            (inr
            (inl
            (ap (λ o. is_some (if_any_allowed st (option_map (round_with st number) o))) there
            ∙ allowed_there st (round_with st number call)
            (ap (λ o. goes_on st.holding o && is_next_round st (record { call = number; id = installed_id st.holding.coord call.originator; asks = asks_of st number call }) o) there
            ∙ and_from (goes_on st.holding (Some call)) _ (and_from (is_none call.outcome) _ (ap is_none unanswered) live)
            (and_from (is_due st number call) _ (may e readers)
            (and_from (installed_id st.holding.coord call.originator == installed_id st.holding.coord call.originator) _ (eq-eqb (installed_id st.holding.coord call.originator) (installed_id st.holding.coord call.originator) refl)
            (pointwise_itself same_ask ask_itself (asks_of st number call)))))))))
        by_readers e false unread =
            let one = some_fails (has_reader st.holding call.originator) (incomplete st.calling number) unread in
            let newest : topology_of st.holding.coord call.originator ≡ st.holding.coord.newest = ap (λ b. cond b st.holding.coord.newest st.holding.coord.before) (eq-eqb (installed_id st.holding.coord call.originator) st.holding.coord.newest.id e) in
            drive_by
            (inr
            (inr
            (inr
            (unread_there config.segments st h.traced.kept.parts.topologies settings room.owned early one.0
            (subst (λ n. among one.0 (range_with_len 0 n) ≡ true) (read_all ∙ sym settings)
            (and_parts (not (is_complete st.calling.units number one.0)) (among one.0 (segments_read st.calling)) (sym (among-filter one.0 (λ segment. not (is_complete st.calling.units number segment)) (segments_read st.calling)) ∙ one.1.1)).1)
            (ap (λ (t : Topology). some_live st.holding.coord (read_owners t one.0)) (sym newest) ∙ one.1.0)))))

        by_installed : (b : Bool) → (installed_id st.holding.coord call.originator == st.holding.coord.newest.id) ≡ b → is_some (drive_event st number) ≡ true
        by_installed false other = drive_by (inr (inr (inr (installs call.originator live other))))
        by_installed true same =
            let e = eqb-true (installed_id st.holding.coord call.originator) st.holding.coord.newest.id same in
            by_readers e (list_all (has_reader st.holding call.originator) (incomplete st.calling number)) refl

    known : KnownCall config past st number call
    known = h.known number call there

    -- a call that isn't whole, and doesn't give up, has a round left and a segment to ask for
    left_over : has_open st.calling number ≡ false → is_whole st.calling number call ≡ false → given_up st.calling number call (first_of (incomplete st.calling number)) ≡ None → (call.rounds < granted call) × (all_complete st.calling number ≡ false)
    left_over closed whole gives = by_again (asks_again call.request.guarantee) refl whole
      where
        not_all : (call.rounds == granted call) ≡ false → call.rounds < granted call
        not_all e = elim (cases_eq call.rounds (granted call)) [
          | inl same ↦ absurd (true≢false (sym (eq-eqb call.rounds (granted call) same) ∙ e))
          | inr other ↦ let g = known.granted_at_most in omega (arith, other)
        ]

        by_first : asks_again call.request.guarantee ≡ true → all_complete st.calling number ≡ false → (o : Option ℕ) → first_of (incomplete st.calling number) ≡ o → given_up st.calling number call o ≡ None → (call.rounds == granted call) ≡ false
        by_first again missing None e g = absurd (true≢false (sym (all_passing (is_complete st.calling.units number) (segments_read st.calling) e) ∙ missing))
        by_first again missing (Some s) e g = by_test (call.rounds == granted call) refl
          where
            none_given : (b : Bool) → (if b then Some (outcomes.Again call.rounds s) else None) ≡ None → b ≡ false
            none_given true x = absurd (cc)
            none_given false x = refl

            by_test : (b : Bool) → (call.rounds == granted call) ≡ b → b ≡ false
            by_test false t = refl
            by_test true t =
                absurd
                (true≢false
                (sym (and_from (asks_again call.request.guarantee) _ again (and_from (call.rounds == granted call) (not (has_open st.calling number)) t (ap not closed)))
                ∙ none_given (asks_again call.request.guarantee && ((call.rounds == granted call) && not (has_open st.calling number))) g))

        by_again : (b : Bool) → asks_again call.request.guarantee ≡ b → (if b then all_complete st.calling number else not (call.rounds == 0) && not (has_open st.calling number)) ≡ false → (call.rounds < granted call) × (all_complete st.calling number ≡ false)
        by_again true again missing = (not_all (by_first again missing (first_of (incomplete st.calling number)) refl gives), missing)
        by_again false again none =
            let zero_rounds : call.rounds ≡ 0 = eqb-true call.rounds 0 (no_round (call.rounds == 0) (has_open st.calling number) closed none) in
            let one : granted call ≡ 1 = ap (λ b. if b then call.request.rounds else 1) again in (
              omega arith,
              fails_first (is_complete st.calling.units number) st.calling.segments (let n = read_all in omega arith)
                  (none_true (λ unit. is_on number 0 unit && is_ended unit.work.state) st.calling.units
                  (each_imply (λ unit. is_of number unit ≡ false) (λ unit. (is_on number 0 unit && is_ended unit.work.state) ≡ false)
                  (λ unit other. ap (λ b. (b && (unit.work.segment == 0)) && is_ended unit.work.state) other) st.calling.units
                  (unasked_of config past st h.traced h.ids h.dates number ((h.traced.calls number).rounds ∙ ap rounds_found there ∙ zero_rounds)))),
            )
          where
            no_round : (a b : Bool) → b ≡ false → (not a && not b) ≡ false → a ≡ true
            no_round true b e n = refl
            no_round false true e n = absurd (cc)
            no_round false false e n = absurd (cc)

    -- Drive
    pub drive_call : is_some (drive_event st number) ≡ true
    unfolding outcome_of
    drive_call = by_outcome (outcome_of st number call) refl
      where
        by_open : lives st.holding.coord call.originator ≡ true → least_of call.lost ≡ None → is_whole st.calling number call ≡ false → given_up st.calling number call (first_of (incomplete st.calling number)) ≡ None → (b : Bool) → has_open st.calling number ≡ b → is_some (drive_event st number) ≡ true
        by_open live none whole gives true opened = open_on opened live
        by_open live none whole gives false closed = let l = left_over closed whole gives in round_on closed live none l.0 l.1

        by_whole : lives st.holding.coord call.originator ≡ true → least_of call.lost ≡ None → (b : Bool) → is_whole st.calling number call ≡ b → (if b then Some (whole_outcome st.calling number call) else given_up st.calling number call (first_of (incomplete st.calling number))) ≡ None → is_some (drive_event st number) ≡ true
        by_whole live none true t e = absurd (cc)
        by_whole live none false t e = by_open live none t e (has_open st.calling number) refl

        by_lost : lives st.holding.coord call.originator ≡ true → (o : Option ℕ) → least_of call.lost ≡ o → outcome_by st.calling number call o ≡ None → is_some (drive_event st number) ≡ true
        by_lost live (Some s) n e = absurd (cc)
        by_lost live None n e = by_whole live n (is_whole st.calling number call) refl e

        by_live : (b : Bool) → lives st.holding.coord call.originator ≡ b → (if not b then Some outcomes.OriginatorLeft else outcome_by st.calling number call (least_of call.lost)) ≡ None → is_some (drive_event st number) ≡ true
        by_live false l e = absurd (cc)
        by_live true l e = by_lost l (least_of call.lost) refl e

        by_outcome : (o : Option Outcome) → outcome_of st number call ≡ o → is_some (drive_event st number) ≡ true
        by_outcome (Some outcome) e = drive_by (inl (answers_on outcome e))
        by_outcome None e = by_live (lives st.holding.coord call.originator) refl e

  -- after such a run nothing is stuck
  pub nothing_stuck : NothingIsStuck st
  nothing_stuck = record {
    drive = λ number waits. by_call number (call_of st.calling number) refl waits;
    advance = advance_on;
    reach = λ node segment live within none. by_newest node segment live within none (installed_id st.holding.coord node == st.holding.coord.newest.id) refl;
  }
    where
      by_newest : (node segment : ℕ) → lives st.holding.coord node ≡ true → among segment (segments_of st.holding) ≡ true → has_reader st.holding node segment ≡ false →
          (b : Bool) → (installed_id st.holding.coord node == st.holding.coord.newest.id) ≡ b → is_some (advance_event st.holding) ≡ true
      by_newest node segment live within none false other = installs node live other
      by_newest node segment live within none true same =
          unread_there config.segments st h.traced.kept.parts.topologies settings room.owned early segment within
          (ap (λ (t : Topology). some_live st.holding.coord (read_owners t segment)) (sym (ap (λ b. cond b st.holding.coord.newest st.holding.coord.before) same)) ∙ none)

      unanswered_is : {A : Type 0} (o : Option A) → is_none o ≡ true → o ≡ None
      unanswered_is None e = refl
      unanswered_is (Some x) e = absurd (cc)

      by_call : (number : ℕ) (found : Option Call) → call_of st.calling number ≡ found → is_unanswered (call_of st.calling number) ≡ true → is_some (drive_event st number) ≡ true
      by_call number None e waits = absurd (true≢false (sym waits ∙ ap is_unanswered e))
      by_call number (Some call) e waits = drive_call number call e (unanswered_is call.outcome (ap is_unanswered (sym e) ∙ waits))

-- ---- runs

-- both together
record IsRoomy (config : Config) (past : List Event) (st : State) : Type 0 where
  reasoned : IsReasoned config past st
  room : RoomOf config past st

-- each run keeps both
roomy_run : (config : Config) → config.segments ≤ MOST_SEGMENTS → (past : List Event) (st : State) (events : List Event) → runs st events ≡ true → IsRoomy config past st → IsRoomy config (reverse_aux events past) (state st events)
roomy_run config few = along (IsRoomy config) (λ past st event may h. record {
  reasoned = reasoned_on config few past st h.reasoned event may;
  room = room_kept config past st event may h.reasoned.traced.kept h.reasoned.traced.units.numbered h.room;
})

-- a past has as many events as the run
reversed_length : (events past : List Event) → length (reverse_aux events past) ≡ length events + length past
reversed_length [] past = omega arith
reversed_length (event ∷ events) past = let r = reversed_length events (event ∷ past) in omega arith

-- and as many entries and items
reversed_weight : (events past : List Event) → total_weight (reverse_aux events past) ≡ total_weight events + total_weight past
reversed_weight [] past = omega arith
reversed_weight (event ∷ events) past = let r = reversed_weight events (event ∷ past) in omega arith

-- in every run that a journal holds
pub never_stuck : NoCallIsStuck
never_stuck config events good is fits =
    let limits = good_config config good in
    let few = few_segments config good in
    let h = roomy_run config few [] (start config) events is (record { reasoned = reasoned_start config good; room = room_start config limits.nodes limits.owners }) in
    let f = and_parts (nat_le (length events) MOST_EVENTS) (nat_le (total_weight events) MOST_WEIGHT) fits in
    nothing_stuck config (reverse events) (state (start config) events) h.reasoned h.room few limits.segments
    (let l = reversed_length events [] in let m = leb-true (length events) MOST_EVENTS f.0 in omega arith)
    (let l = reversed_weight events [] in let m = leb-true (total_weight events) MOST_WEIGHT f.1 in omega arith)
