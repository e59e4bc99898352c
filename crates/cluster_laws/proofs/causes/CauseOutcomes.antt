-- The outcome of a call at one moment is the first cause that applies to what went before.
use Rattle.std.proofs.Common.{◌≡◌, ℕ, zero, suc, ◌+◌, ◌≤◌, ◌<◌, ◌==◌, ◌-◌, nat_lt, Bool, true, false, not, ◌&&◌, inl, inr, cond, if◌then◌else◌, List, [], ◌∷◌, Option, None, Some, refl, sym, ap, ◌∙◌, arith, subst}
use Rattle.std.proofs.lemmas.Bool.{and_parts, eq-eqb, eqb-true, ltb-true, or_cases, or_left, or_right, true≢false}
use Rattle.std.proofs.lemmas.Bool.Decides.{nat_tests}
use Rattle.std.specs.FinSet as set_of
use Rattle.std.specs.List.{AllByRecursion, filter, list_all, range_with_len}
use Rattle.std.specs.Option.{option_map}
use Rattle.std.specs.Ordering.{nat_cmp}
use Rattle.delivery_mode.specs.Guarantee.{asks_again}
use Rattle.grid_base.specs.declared.limits.TheConstants.{MOST_SEGMENTS}
use Rattle.grid_event.specs.Members.{is_live}
use Rattle.grid_event.specs.Spans.{invoke_of, since_invoke}
use Rattle.grid_event.specs.UnitHistories.{has_ended_on}
use Rattle.grid_event.specs.declared.call_events.Ask.{Ask}
use Rattle.grid_event.specs.declared.call_events.InvokeEvent.{InvokeEvent}
use Rattle.grid_event.specs.declared.config.Config.{Config}
use Rattle.grid_event.specs.declared.event.Event.{Event}
use Rattle.grid_event.specs.declared.outcome.Outcome.{Outcome}
use Rattle.grid_event.specs.declared.outcome.Outcome.TheVariants as outcomes
use Rattle.pipeline_eval.specs.Pipes.{pipe}
use Rattle.topology_coord.specs.Coordination.{lives}
use Rattle.topology_phase.specs.Owners.{among}
use Rattle.cluster_model.specs.Answers.{evidence_of, first_of, given_up, is_whole, least_of, outcome_by, outcome_of, whole_outcome}
use Rattle.cluster_model.specs.Calls.{all_complete, granted, has_open, incomplete}
use Rattle.cluster_model.specs.Causes.{Cause, disturbs, failed, is_not_again, last_asks, moved_since_round, moves_at, rounds_of, was_even, Further, GaveUp, IsCaused, Left, Whole, all_closed, all_ended, all_segments, first_cause, gave_up, has_given_up, is_satisfied, later_cause, least_such, named_cause, was_lost}
use Rattle.cluster_model.specs.Guarantees.{rounds_in}
use Rattle.cluster_model.specs.State.{Call, State, call_of, is_of, is_walk, segments_read}
use Rattle.cluster_model.specs.Topologies.{is_complete}
use Rattle.cluster_laws.proofs.units.CallLinks.{rounds_found}
use Rattle.cluster_laws.proofs.causes.CauseCalls.{same_some}
use Rattle.cluster_laws.proofs.causes.CauseDates.{DatesTold, closed_told, each_dated, failed_is}
use Rattle.cluster_laws.proofs.causes.CauseFollows.{KnownCall}
use Rattle.cluster_laws.proofs.causes.CauseQuiet.{AllQuiet, IsGood, QuietOf}
use Rattle.cluster_laws.proofs.causes.CauseRounds.{RoundsOf, each_round_fails, last_round_fails}
use Rattle.cluster_laws.proofs.causes.CauseWords.{each_last, losses_leave_nobody, none_true, quiet_nobody_left, quiet_nothing_lost, row_below}
use Rattle.cluster_laws.proofs.copies.Facts.{turned}
use Rattle.cluster_laws.proofs.Lists.{each_both}
use Rattle.cluster_laws.proofs.units.StageRuns.{IsTraced, ends_told}
use Rattle.cluster_laws.proofs.units.StageSteps.{StageKept}
use Rattle.cluster_laws.specs.Laws.{ask_of}

-- ---- the least segment

-- the first of those that pass a test is the least that does
pub first_filtered : (p : ℕ → Bool) (xs : List ℕ) → first_of (filter p xs) ≡ least_such p xs
first_filtered p [] = refl
first_filtered p (x ∷ xs) = by_test (p x) (first_filtered p xs)
  where
    by_test : (b : Bool) → first_of (filter p xs) ≡ least_such p xs → first_of (if b then x ∷ filter p xs else filter p xs) ≡ (if b then Some x else least_such p xs)
    by_test true h = refl
    by_test false h = h

-- it passes the test, and is one of them
pub first_passes : (p : ℕ → Bool) (xs : List ℕ) (s : ℕ) → first_of (filter p xs) ≡ Some s → (p s ≡ true) × (among s xs ≡ true)
first_passes p [] s e = absurd (cc)
first_passes p (x ∷ xs) s e = by_test (p x) refl e (first_passes p xs s)
  where
    by_test : (b : Bool) → p x ≡ b → first_of (if b then x ∷ filter p xs else filter p xs) ≡ Some s → (first_of (filter p xs) ≡ Some s → (p s ≡ true) × (among s xs ≡ true)) → (p s ≡ true) × (among s (x ∷ xs) ≡ true)
    by_test true t e rest =
        let same : x ≡ s = same_some x s e in
        (ap p (sym same) ∙ t, or_left (x == s) (among s xs) (eq-eqb x s same))
    by_test false t e rest = let r = rest e in (r.0, or_right (x == s) (among s xs) r.1)

-- where two tests are the same so are the least ones
least_same : (p q : ℕ → Bool) → ((s : ℕ) → p s ≡ q s) → (xs : List ℕ) → least_such p xs ≡ least_such q xs
least_same p q same xs = λ i. least_such (λ s. same s i) xs

-- none passes a test that fails everywhere
least_none : (p : ℕ → Bool) → ((s : ℕ) → p s ≡ false) → (xs : List ℕ) → least_such p xs ≡ None
least_none p fails [] = refl
least_none p fails (x ∷ xs) = ap (λ b. if b then Some x else least_such p xs) (fails x) ∙ least_none p fails xs

-- the least of a longer row is the least of a shorter one, where those that follow fail
least_none_from : (p : ℕ → Bool) (a n : ℕ) → ((s : ℕ) → a ≤ s → p s ≡ false) → least_such p (range_with_len a n) ≡ None
least_none_from p a zero fails = refl
least_none_from p a (suc n) fails = ap (λ b. if b then Some a else least_such p (range_with_len (a + 1) n)) (fails a (omega arith)) ∙ least_none_from p (a + 1) n (λ s from. fails s (omega arith))

-- and so the least of a longer row
least_shorter : (p : ℕ → Bool) (a n more : ℕ) → ((s : ℕ) → a + n ≤ s → p s ≡ false) → least_such p (range_with_len a (n + more)) ≡ least_such p (range_with_len a n)
least_shorter p a zero more fails = ap (λ k. least_such p (range_with_len a k)) (omega arith) ∙ least_none_from p a more (λ s from. fails s (omega arith))
least_shorter p a (suc n) more fails =
    ap (λ k. least_such p (range_with_len a k)) (one_later n more)
    ∙ ap (λ o. if p a then Some a else o) (least_shorter p (a + 1) n more (λ s from. fails s (omega arith)))
  where
    one_later : (n more : ℕ) → suc n + more ≡ suc (n + more)
    one_later n more = omega arith

-- the least of the noted segments is the least that passes their test
noted_least : (set : set_of.FinSet nat_cmp) (n : ℕ) → n ≤ MOST_SEGMENTS → ((s : ℕ) → set_of.contains set s ≡ true → s < n) → least_of set ≡ least_such (set_of.contains set) (range_with_len 0 n)
unfolding least_of
noted_least set n few within =
    first_filtered (set_of.contains set) (range_with_len 0 MOST_SEGMENTS)
    ∙ ap (λ k. least_such (set_of.contains set) (range_with_len 0 k)) (whole n MOST_SEGMENTS few)
    ∙ least_shorter (set_of.contains set) 0 n (MOST_SEGMENTS - n) (λ s past. by_test s past (set_of.contains set s) refl)
  where
    whole : (n most : ℕ) → n ≤ most → most ≡ n + (most - n)
    whole n most few = omega arith

    by_test : (s : ℕ) → 0 + n ≤ s → (b : Bool) → set_of.contains set s ≡ b → b ≡ false
    by_test s past false e = refl
    by_test s past true e = let w = within s e in absurd (omega arith)

-- ---- the outcome

module _ (config : Config) (past : List Event) (st : State) (few : config.segments ≤ MOST_SEGMENTS) (h : IsTraced config past st) (told : DatesTold past st.calling.units) (number : ℕ) (call : Call) (there : call_of st.calling number ≡ Some call) (unanswered : call.outcome ≡ None) (known : KnownCall config past st number call) where
  -- calls read as many segments as the settings say
  settings : st.calling.segments ≡ config.segments
  settings = h.kept.told.segments

  -- the noted segment that is the least is the least that was lost, for a call that asks again
  lost_least : (again : Bool) → asks_again call.request.guarantee ≡ again → least_of call.lost ≡ (if again then least_such (was_lost config past number) (all_segments config) else None)
  lost_least true asks =
      noted_least call.lost config.segments few (h.notes number call there).within
      ∙ least_same (set_of.contains call.lost) (was_lost config past number) ((h.notes number call there).told unanswered asks) (all_segments config)
  lost_least false asks =
      noted_least call.lost config.segments few (h.notes number call there).within
      ∙ least_none (set_of.contains call.lost) ((h.notes number call there).none asks) (all_segments config)

  -- the segments that are complete are those that ended
  complete_is : (s : ℕ) → is_complete st.calling.units number s ≡ has_ended_on past number s
  complete_is s = sym (ends_told config past st h number s)

  -- all segments are complete exactly where all have ended
  all_is : all_complete st.calling number ≡ all_ended config past number
  all_is = λ i. list_all (λ s. complete_is s i) (range_with_len 0 (settings i))

  -- the first incomplete segment is the least that hasn't ended
  incomplete_is : first_of (incomplete st.calling number) ≡ least_such (λ s. not (has_ended_on past number s)) (all_segments config)
  incomplete_is =
      first_filtered (λ s. not (is_complete st.calling.units number s)) (segments_read st.calling)
      ∙ (λ i. least_such (λ s. not (complete_is s i)) (range_with_len 0 (settings i)))

  -- no unit is open exactly where all are closed
  closed_is_told : not (has_open st.calling number) ≡ all_closed config past number
  closed_is_told = sym (closed_told config past st number h.asks h.stages.each)

  -- the rounds made are those that the events tell
  rounds_is : call.rounds ≡ rounds_in past number
  rounds_is = sym ((h.calls number).rounds ∙ ap rounds_found there)

  -- a number that isn't 0 is above it
  some_rounds : (n : ℕ) → not (n == 0) ≡ nat_lt 0 n
  some_rounds n = grind (arith, nat_tests)

  -- the call as the events have it
  abbrev made : InvokeEvent → InvokeEvent
  made invoke = record invoke { node = call.originator; request = call.request }

  -- a call is whole exactly where it is satisfied
  whole_is : (invoke : InvokeEvent) → is_whole st.calling number call ≡ is_satisfied config past number (made invoke)
  whole_is invoke = by_again (asks_again call.request.guarantee)
    where
      by_again : (b : Bool) → (if b then all_complete st.calling number else not (call.rounds == 0) && not (has_open st.calling number)) ≡ (if b then all_ended config past number else nat_lt 0 (rounds_in past number) && all_closed config past number)
      by_again true = all_is
      by_again false = λ i. (some_rounds call.rounds ∙ ap (nat_lt 0) rounds_is) i && closed_is_told i

  -- it may give up exactly where the events say so
  given_is : (invoke : InvokeEvent) → (asks_again call.request.guarantee && ((call.rounds == granted call) && not (has_open st.calling number))) ≡ has_given_up config past number (made invoke)
  given_is invoke = λ i. asks_again call.request.guarantee && ((rounds_is i == granted call) && closed_is_told i)

  -- what the first cause is of an outcome that there may be
  abbrev named : Option Outcome → Option Cause
  named found = option_map named_cause found

  -- and names the same segment and rounds
  gave_up_is : (invoke : InvokeEvent) → named (given_up st.calling number call (first_of (incomplete st.calling number))) ≡ (if has_given_up config past number (made invoke) then gave_up (rounds_in past number) (least_such (λ s. not (has_ended_on past number s)) (all_segments config)) else None)
  gave_up_is invoke =
      ap (λ o. named (given_up st.calling number call o)) incomplete_is
      ∙ by_least (least_such (λ s. not (has_ended_on past number s)) (all_segments config))
    where
      by_test : (s : ℕ) (b : Bool) → named (if b then Some (outcomes.Again call.rounds s) else None) ≡ (if b then Some (GaveUp (rounds_in past number) s) else None)
      by_test s true = ap (λ n. Some (GaveUp n s)) rounds_is
      by_test s false = refl

      nothing : (b : Bool) → ◌≡◌ {A = Option Cause} None (if b then None else None)
      nothing true = refl
      nothing false = refl

      by_least : (o : Option ℕ) → named (given_up st.calling number call o) ≡ (if has_given_up config past number (made invoke) then gave_up (rounds_in past number) o else None)
      by_least None = nothing (has_given_up config past number (made invoke))
      by_least (Some s) = ap (λ b. named (if b then Some (outcomes.Again call.rounds s) else None)) (given_is invoke) ∙ by_test s (has_given_up config past number (made invoke))

  -- behind the originator the causes come in the same order
  later_is : (invoke : InvokeEvent) (lost : Option ℕ) → named (outcome_by st.calling number call lost) ≡ later_cause config past number (made invoke) lost
  later_is invoke (Some s) = refl
  later_is invoke None =
      by_test (is_whole st.calling number call)
      ∙ (λ i. if whole_is invoke i then Some Whole else gave_up_is invoke i)
    where
      whole : (b : Bool) → named_cause (if b then outcomes.Ended else outcomes.Value (pipe call.request.pipeline (evidence_of st.calling number call))) ≡ Whole
      whole true = refl
      whole false = refl

      by_test : (b : Bool) → named (if b then Some (whole_outcome st.calling number call) else given_up st.calling number call (first_of (incomplete st.calling number))) ≡ (if b then Some Whole else named (given_up st.calling number call (first_of (incomplete st.calling number))))
      by_test true = ap (λ (c : Cause). Some c) (whole (is_walk call.request))
      by_test false = refl

  -- the first cause that applies is the one that the outcome names
  cause_is : (invoke : InvokeEvent) → named (outcome_of st number call) ≡ first_cause config past number (made invoke)
  unfolding outcome_of first_cause
  cause_is invoke =
      by_test (not (lives st.holding.coord call.originator))
      ∙ (λ i. if (ap not (h.kept.told.live call.originator) ∙ sym known.moves.left) i then Some Left else (later_is invoke (least_of call.lost) ∙ ap (later_cause config past number (made invoke)) (lost_least (asks_again call.request.guarantee) refl)) i)
    where
      by_test : (b : Bool) → named (if b then Some outcomes.OriginatorLeft else outcome_by st.calling number call (least_of call.lost)) ≡ (if b then Some Left else named (outcome_by st.calling number call (least_of call.lost)))
      by_test true = refl
      by_test false = refl

  -- ---- what an outcome says

  -- where the call gives up, none of its units is open, all granted rounds were made, and the segment is the least incomplete one
  pub record GivesUp (suspect : ℕ) : Type 0 where
    pub again : asks_again call.request.guarantee ≡ true
    pub rounds : call.rounds ≡ granted call
    pub closed : has_open st.calling number ≡ false
    pub within : suspect < config.segments
    pub left : has_ended_on past number suspect ≡ false

  -- that a call gives up says this of it
  again_of : (rounds suspect : ℕ) → outcome_of st number call ≡ Some (outcomes.Again rounds suspect) → GivesUp suspect
  unfolding outcome_of
  again_of rounds suspect e = by_left (not (lives st.holding.coord call.originator)) e
    where
      facts : first_of (incomplete st.calling number) ≡ Some suspect → (asks_again call.request.guarantee && ((call.rounds == granted call) && not (has_open st.calling number))) ≡ true → GivesUp suspect
      facts first test =
          let a = and_parts (asks_again call.request.guarantee) ((call.rounds == granted call) && not (has_open st.calling number)) test in
          let b = and_parts (call.rounds == granted call) (not (has_open st.calling number)) a.1 in
          let f = first_passes (λ s. not (is_complete st.calling.units number s)) (segments_read st.calling) suspect first in
          record {
            again = a.0;
            rounds = eqb-true call.rounds (granted call) b.0;
            closed = turned (has_open st.calling number) b.1;
            within = let r = row_below 0 st.calling.segments suspect f.1 in let n = settings in omega arith;
            left = sym (complete_is suspect) ∙ turned (is_complete st.calling.units number suspect) f.0;
          }

      by_test : (s : ℕ) → first_of (incomplete st.calling number) ≡ Some s → (b : Bool) → (asks_again call.request.guarantee && ((call.rounds == granted call) && not (has_open st.calling number))) ≡ b → (if b then Some (outcomes.Again call.rounds s) else None) ≡ Some (outcomes.Again rounds suspect) → GivesUp suspect
      by_test s first true t e = let same : s ≡ suspect = cc in facts (first ∙ ap (λ n. Some n) same) t
      by_test s first false t e = absurd (cc)

      by_first : (o : Option ℕ) → first_of (incomplete st.calling number) ≡ o → given_up st.calling number call o ≡ Some (outcomes.Again rounds suspect) → GivesUp suspect
      by_first None first e = absurd (cc)
      by_first (Some s) first e = by_test s first (asks_again call.request.guarantee && ((call.rounds == granted call) && not (has_open st.calling number))) refl e

      not_whole : (b : Bool) → (if b then outcomes.Ended else outcomes.Value (pipe call.request.pipeline (evidence_of st.calling number call))) ≡ outcomes.Again rounds suspect → ⊥
      not_whole true e = cc
      not_whole false e = cc

      by_whole : (b : Bool) → (if b then Some (whole_outcome st.calling number call) else given_up st.calling number call (first_of (incomplete st.calling number))) ≡ Some (outcomes.Again rounds suspect) → GivesUp suspect
      by_whole true e = absurd (not_whole (is_walk call.request) (same_some (whole_outcome st.calling number call) (outcomes.Again rounds suspect) e))
      by_whole false e = by_first (first_of (incomplete st.calling number)) refl e

      by_lost : (o : Option ℕ) → outcome_by st.calling number call o ≡ Some (outcomes.Again rounds suspect) → GivesUp suspect
      by_lost None e = by_whole (is_whole st.calling number call) e
      by_lost (Some s) e = absurd (cc)

      by_left : (b : Bool) → (if b then Some outcomes.OriginatorLeft else outcome_by st.calling number call (least_of call.lost)) ≡ Some (outcomes.Again rounds suspect) → GivesUp suspect
      by_left true e = absurd (cc)
      by_left false e = by_lost (least_of call.lost) e

  -- ---- the cause

  -- what made the call has its originator and its request
  pub invoke_is : (invoke : InvokeEvent) → invoke_of past number ≡ Some invoke → made invoke ≡ invoke
  invoke_is invoke e =
      let r : invoke.request ≡ call.request = same_some invoke.request call.request (sym (ap (option_map (λ (i : InvokeEvent). i.request)) e) ∙ (h.calls number).request ∙ ap (option_map (λ (c : Call). c.request)) there) in
      let n : invoke.node ≡ call.originator = same_some invoke.node call.originator (sym (ap (option_map (λ (i : InvokeEvent). i.node)) e) ∙ (h.calls number).originator ∙ ap (option_map (λ (c : Call). c.originator)) there) in
      λ i. record invoke { node = sym n i; request = sym r i }

  -- the outcome of the call at this moment is caused
  pub caused_now : RoundsOf config past number → (invoke : InvokeEvent) → invoke_of past number ≡ Some invoke → (outcome : Outcome) → outcome_of st number call ≡ Some outcome → IsCaused config past number invoke outcome
  caused_now rounds invoke e outcome o =
      subst (λ v. IsCaused config past number v outcome) (invoke_is invoke e) (record {
        first = sym (cause_is invoke) ∙ ap (option_map named_cause) o;
        further = by_outcome outcome o;
      })
    where
      by_outcome : (outcome : Outcome) → outcome_of st number call ≡ Some outcome → Further config past number (made invoke) (named_cause outcome)
      by_outcome (outcomes.Value answer) o = tt
      by_outcome outcomes.Ended o = tt
      by_outcome (outcomes.Again n suspect) o =
          let up = again_of n suspect o in
          let last = last_round_fails config past st h told number suspect rounds up.within up.closed up.left in
          record { each_round = each_round_fails config past st h told number suspect rounds last; last_round = last; moved = known.moves.moved; ahead = rounds.ahead }
      by_outcome (outcomes.SegmentLost segment) o = losses_leave_nobody config past number segment
      by_outcome outcomes.OriginatorLeft o = tt

  -- ---- quiet calls, and enough rounds

  -- a call that gives up has made as many rounds as it stated
  all_granted : (suspect : ℕ) → GivesUp suspect → rounds_in past number ≡ call.request.rounds
  all_granted suspect up = sym rounds_is ∙ up.rounds ∙ ap (λ b. if b then call.request.rounds else 1) up.again

  -- a quiet call doesn't give up
  quiet_stays : (suspect : ℕ) → RoundsOf config past number → QuietOf st.holding.coord number st.calling.units → GivesUp suspect → ⊥
  quiet_stays suspect rounds quiet up = elim (or_cases (rounds_in past number == 0) _ (last_round_fails config past st h told number suspect rounds up.within up.closed up.left)) [
    | inl none ↦ let n = eqb-true (rounds_in past number) 0 none in let g = all_granted suspect up in let s = known.some_round in absurd (omega arith)
    | inr some ↦ absurd (true≢false (sym some ∙ none_true (λ (ask : Ask). (ask.segment == suspect) && failed config past ask) (last_asks (rounds_of past number)) none_fails))
  ]
    where
      and_never : (a b : Bool) → b ≡ false → (a && b) ≡ false
      and_never true b e = e
      and_never false b e = refl

      none_fails : AllByRecursion (λ (ask : Ask). ((ask.segment == suspect) && failed config past ask) ≡ false) (last_asks (rounds_of past number))
      none_fails =
          each_last (λ (ask : Ask). ((ask.segment == suspect) && failed config past ask) ≡ false) (rounds_of past number)
          (each_dated past st.calling.units told number (λ a. ((a.0.segment == suspect) && failed config past a.0) ≡ false)
          (each_both (StageKept config past) (IsGood st.holding.coord number) (λ unit. is_of number unit ≡ true → ((unit.work.segment == suspect) && failed config past (ask_of unit)) ≡ false)
          (λ unit k good of. and_never (unit.work.segment == suspect) (failed config past (ask_of unit)) (failed_is config past unit k ∙ (good of).1)) st.calling.units h.stages.each quiet.good))

  -- the outcome of a quiet call is whole
  pub quiet_now : RoundsOf config past number → was_even config past number ≡ true → since_invoke disturbs past number ≡ 0 → AllQuiet config past st → (outcome : Outcome) → outcome_of st number call ≡ Some outcome → named_cause outcome ≡ Whole
  unfolding outcome_of
  quiet_now rounds even calm quiet outcome o = by_whole (is_whole st.calling number call) refl (sym plain ∙ o)
    where
      live : lives st.holding.coord call.originator ≡ true
      live = h.kept.told.live call.originator ∙ twice (is_live config past call.originator) (sym known.moves.left ∙ quiet_nobody_left past number call.originator calm)
        where
          twice : (b : Bool) → not b ≡ false → b ≡ true
          twice true e = refl
          twice false e = absurd (cc)

      nothing_lost : least_of call.lost ≡ None
      nothing_lost =
          lost_least (asks_again call.request.guarantee) refl
          ∙ by_again (asks_again call.request.guarantee) (least_none (was_lost config past number) (λ s. quiet_nothing_lost config past number s calm) (all_segments config))
        where
          by_again : (b : Bool) → least_such (was_lost config past number) (all_segments config) ≡ None → (if b then least_such (was_lost config past number) (all_segments config) else None) ≡ None
          by_again true e = e
          by_again false e = refl

      plain : outcome_of st number call ≡ outcome_by st.calling number call None
      plain = λ i. if not (live i) then Some outcomes.OriginatorLeft else outcome_by st.calling number call (nothing_lost i)

      whole : (b : Bool) → named_cause (if b then outcomes.Ended else outcomes.Value (pipe call.request.pipeline (evidence_of st.calling number call))) ≡ Whole
      whole true = refl
      whole false = refl

      by_test : (s : ℕ) (b : Bool) → (if b then Some (outcomes.Again call.rounds s) else None) ≡ Some outcome → outcome ≡ outcomes.Again call.rounds s
      by_test s true e = sym (same_some (outcomes.Again call.rounds s) outcome e)
      by_test s false e = absurd (cc)

      by_first : (first : Option ℕ) → given_up st.calling number call first ≡ Some outcome → named_cause outcome ≡ Whole
      by_first None e = absurd (cc)
      by_first (Some s) e =
          let is = by_test s (asks_again call.request.guarantee && ((call.rounds == granted call) && not (has_open st.calling number))) e in
          absurd (quiet_stays s rounds (quiet number even calm) (again_of call.rounds s (o ∙ ap (λ (x : Outcome). Some x) is)))

      by_whole : (b : Bool) → is_whole st.calling number call ≡ b → (if b then Some (whole_outcome st.calling number call) else given_up st.calling number call (first_of (incomplete st.calling number))) ≡ Some outcome → named_cause outcome ≡ Whole
      by_whole true t e = ap named_cause (sym (same_some (whole_outcome st.calling number call) outcome e)) ∙ whole (is_walk call.request)
      by_whole false t e = by_first (first_of (incomplete st.calling number)) e

  -- where the rounds are enough the call doesn't give up
  pub enough_now : nat_lt (1 + since_invoke (moves_at call.originator) past number) call.request.rounds ≡ true → (outcome : Outcome) → outcome_of st number call ≡ Some outcome → is_not_again outcome ≡ true
  enough_now more (outcomes.Value answer) o = refl
  enough_now more outcomes.Ended o = refl
  enough_now more (outcomes.Again rounds suspect) o =
      let up = again_of rounds suspect o in
      let g = all_granted suspect up in
      let m = ltb-true (1 + since_invoke (moves_at call.originator) past number) call.request.rounds more in
      let e = known.moves.enough in
      absurd (too_few (moved_since_round past number call.originator) e g m)
    where
      too_few : (b : Bool) → rounds_in past number ≤ since_invoke (moves_at call.originator) past number + cond {A = ℕ} b 0 1 → rounds_in past number ≡ call.request.rounds → 1 + since_invoke (moves_at call.originator) past number < call.request.rounds → ⊥
      too_few true e g m = omega arith
      too_few false e g m = omega arith
  enough_now more (outcomes.SegmentLost segment) o = refl
  enough_now more outcomes.OriginatorLeft o = refl
