-- In every run all outcomes are caused.
use Rattle.std.proofs.Common.{◌≡◌, ℕ, ◌+◌, ◌≤◌, ◌<◌, ◌==◌, nat_le, nat_lt, Bool, true, false, ◌&&◌, if◌then◌else◌, List, [], ◌∷◌, reverse, Option, None, Some, is_none, refl, sym, ap, ◌∙◌, arith, subst, unwrap_or}
use mathlib.Core.List.{reverse_aux}
use Rattle.std.proofs.lemmas.Bool.{and_parts, eq-eqb, eqb-true, leb-true, lt-ltb, ltb-true, true≢false}
use Rattle.std.specs.FinMap as map_of
use Rattle.std.specs.List.{AllByRecursion}
use Rattle.std.specs.Ordering.{nat_cmp}
use Rattle.grid_base.specs.declared.limits.TheConstants.{MOST_NODES, MOST_SEGMENTS}
use Rattle.grid_event.specs.Configs.{is_config, is_up_to}
use Rattle.grid_event.specs.Spans.{answers, before_answer, invoke_of, invokes, outcome_in, since_invoke, span_end, up_to_answer}
use Rattle.grid_event.specs.declared.call_events.AnswerEvent.{AnswerEvent}
use Rattle.grid_event.specs.declared.call_events.InvokeEvent.{InvokeEvent}
use Rattle.grid_event.specs.declared.config.Config.{Config}
use Rattle.grid_event.specs.declared.event.Event.{Event}
use Rattle.grid_event.specs.declared.event.Event.TheVariants.{Invoke, Answer}
use Rattle.grid_event.specs.declared.outcome.Outcome.{Outcome}
use Rattle.topology_coord.specs.Coordination.{lives}
use Rattle.cluster_model.specs.Calls.{can_invoke}
use Rattle.cluster_model.specs.Causes.{IsCaused, disturbs, moves_at, was_even}
use Rattle.cluster_model.specs.State.{Call, State, call_of, start}
use Rattle.cluster_model.specs.Step.{allowed, changed, runs, state}
use Rattle.cluster_laws.proofs.units.CallLinks.{outcome_found}
use Rattle.cluster_laws.proofs.units.CallRequests.{CanAnswer, answer_facts}
use Rattle.cluster_laws.proofs.causes.CauseCalls.{same_some}
use Rattle.cluster_laws.proofs.causes.CauseDates.{DatesTold, dates_told}
use Rattle.cluster_laws.proofs.causes.CauseFollows.{AllKnown, known_kept}
use Rattle.cluster_laws.proofs.causes.CauseIds.{IdsOf, ids_kept, numbers_step}
use Rattle.cluster_laws.proofs.causes.CauseOutcomes.{caused_now, enough_now, invoke_is, quiet_now}
use Rattle.cluster_laws.proofs.causes.CauseQuiet.{AllQuiet, FewMembers, few_kept, quiet_kept}
use Rattle.cluster_laws.proofs.causes.CauseRounds.{RoundsOf, rounds_kept}
use Rattle.cluster_laws.proofs.units.CompletionRuns.{next_known}
use Rattle.cluster_laws.proofs.units.StageRuns.{IsTraced, traced_on, traced_start}
use Rattle.cluster_laws.specs.Laws.{HasCause, OutcomesAreCaused}
use Rattle.cluster_laws.proofs.Along.{along}

-- ---- what is told of a call after an event that doesn't answer it

-- an event that doesn't answer the call leaves its outcome
outcome_same : (past : List Event) (call : ℕ) (event : Event) → answers call event ≡ false → outcome_in (event ∷ past) call ≡ outcome_in past call
outcome_same past call (Answer a) other = ap (λ b. if b then Some a.outcome else outcome_in past call) other
outcome_same past call _ other = refl

-- and one that doesn't make it leaves what made it
invoke_same : (past : List Event) (call : ℕ) (event : Event) → invokes call event ≡ false → invoke_of (event ∷ past) call ≡ invoke_of past call
invoke_same past call (Invoke i) other = ap (λ b. if b then Some i else invoke_of past call) other
invoke_same past call _ other = refl

-- a call that has an outcome has an answer
answer_there : (past : List Event) (call : ℕ) (outcome : Outcome) → outcome_in past call ≡ Some outcome → (found : List Event) × (up_to_answer past call ≡ Some found)
answer_there [] call outcome e = absurd (cc)
answer_there (Answer a ∷ past) call outcome e = by_test (a.call == call) e (answer_there past call outcome)
  where
    by_test : (b : Bool) → (if b then Some a.outcome else outcome_in past call) ≡ Some outcome → (outcome_in past call ≡ Some outcome → (found : List Event) × (up_to_answer past call ≡ Some found)) →
        (found : List Event) × ((if b then Some (Answer a ∷ past) else up_to_answer past call) ≡ Some found)
    by_test true e rest = (Answer a ∷ past, refl)
    by_test false e rest = rest e
answer_there (_ ∷ past) call outcome e = answer_there past call outcome e

-- the span of an answered call stays
span_same : (past : List Event) (call : ℕ) (event : Event) (outcome : Outcome) → answers call event ≡ false → outcome_in past call ≡ Some outcome → span_end (event ∷ past) call ≡ span_end past call
span_same past call event outcome other e =
    let there = answer_there past call outcome e in
    ap (λ b. unwrap_or (if b then Some (event ∷ past) else up_to_answer past call) (event ∷ past)) other
    ∙ ap (λ o. unwrap_or o (event ∷ past)) there.1
    ∙ sym (ap (λ o. unwrap_or o past) there.1)

-- an event that doesn't answer the call, and doesn't make it where it has an outcome
cause_stays : (config : Config) (past : List Event) (event : Event) (call : ℕ) → answers call event ≡ false → (invokes call event ≡ true → outcome_in past call ≡ None) → HasCause config past call → HasCause config (event ∷ past) call
cause_stays config past event call other made h = record {
  caused = λ before invoke outcome b i o. h.caused before invoke outcome (sym (ap (λ t. if t then Some past else before_answer past call) other) ∙ b) (made_before outcome o ∙ i) (had outcome o);
  quiet = λ invoke outcome i asks quiet o.
      h.quiet invoke outcome (made_before outcome o ∙ i) asks
      (sym (ap (λ span. was_even config span call && (since_invoke disturbs span call == 0)) (span_same past call event outcome other (had outcome o))) ∙ quiet) (had outcome o);
  enough = λ invoke outcome i enough o.
      h.enough invoke outcome (made_before outcome o ∙ i)
      (sym (ap (λ span. nat_lt (1 + since_invoke (moves_at invoke.node) span call) invoke.request.rounds) (span_same past call event outcome other (had outcome o))) ∙ enough) (had outcome o);
}
  where
    had : (outcome : Outcome) → outcome_in (event ∷ past) call ≡ Some outcome → outcome_in past call ≡ Some outcome
    had outcome o = sym (outcome_same past call event other) ∙ o

    made_before : (outcome : Outcome) → outcome_in (event ∷ past) call ≡ Some outcome → invoke_of past call ≡ invoke_of (event ∷ past) call
    made_before outcome o = by_test (invokes call event) refl
      where
        by_test : (b : Bool) → invokes call event ≡ b → invoke_of past call ≡ invoke_of (event ∷ past) call
        by_test false t = sym (invoke_same past call event t)
        by_test true t = let none = made t in let some = had outcome o in absurd (cc)

-- ---- what is kept

-- all that a run keeps of causes
pub record IsReasoned (config : Config) (past : List Event) (st : State) : Type 0 where
  pub traced : IsTraced config past st
  pub dates : DatesTold past st.calling.units
  pub ids : AllByRecursion (IdsOf config past st.holding.coord) st.calling.units
  pub rounds : (call : ℕ) → RoundsOf config past call
  pub known : AllKnown config past st
  pub few : FewMembers config past
  pub quiet : AllQuiet config past st
  pub causes : (call : ℕ) → HasCause config past call

module _ (config : Config) (few : config.segments ≤ MOST_SEGMENTS) (past : List Event) (st : State) (h : IsReasoned config past st) where
  -- a call that is answered
  answered_cause : (a : AnswerEvent) → allowed st (Answer a) ≡ true → HasCause config (Answer a ∷ past) a.call
  answered_cause a may =
      let found : (call : Call) × CanAnswer st a call = answer_facts st a may in
      by_call found.0 found.1
    where
      itself : (a.call == a.call) ≡ true
      itself = eq-eqb a.call a.call refl

      outcome_is : (outcome : Outcome) → outcome_in (Answer a ∷ past) a.call ≡ Some outcome → a.outcome ≡ outcome
      outcome_is outcome o = same_some a.outcome outcome (sym (ap (λ b. if b then Some a.outcome else outcome_in past a.call) itself) ∙ o)

      span_is : span_end (Answer a ∷ past) a.call ≡ Answer a ∷ past
      span_is = ap (λ b. unwrap_or (if b then Some (Answer a ∷ past) else up_to_answer past a.call) (Answer a ∷ past)) itself

      by_call : (call : Call) → CanAnswer st a call → HasCause config (Answer a ∷ past) a.call
      by_call call can = record {
        caused = λ before invoke outcome b i o.
            let same : past ≡ before = same_some past before (sym (ap (λ t. if t then Some past else before_answer past a.call) itself) ∙ b) in
            subst (λ p. IsCaused config p a.call invoke outcome) same
            (caused_now config past st few h.traced h.dates a.call call can.there can.unanswered (h.known a.call call can.there) (h.rounds a.call) invoke i outcome
            (can.outcome ∙ ap (λ (x : Outcome). Some x) (outcome_is outcome o)));
        quiet = λ invoke outcome i asks quiet o.
            let q = and_parts (was_even config (Answer a ∷ past) a.call) (since_invoke disturbs (Answer a ∷ past) a.call == 0) (ap (λ span. was_even config span a.call && (since_invoke disturbs span a.call == 0)) (sym span_is) ∙ quiet) in
            quiet_now config past st few h.traced h.dates a.call call can.there can.unanswered (h.known a.call call can.there) (h.rounds a.call) q.0
            (let n = eqb-true (since_invoke disturbs (Answer a ∷ past) a.call) 0 q.1 in omega arith) h.quiet outcome (can.outcome ∙ ap (λ (x : Outcome). Some x) (outcome_is outcome o));
        enough = λ invoke outcome i enough o.
            enough_now config past st few h.traced h.dates a.call call can.there can.unanswered (h.known a.call call can.there)
            (lt-ltb (1 + since_invoke (moves_at call.originator) past a.call) call.request.rounds
            (fewer invoke (invoke_is config past st few h.traced h.dates a.call call can.there can.unanswered (h.known a.call call can.there) invoke i)
            (ap (λ span. nat_lt (1 + since_invoke (moves_at invoke.node) span a.call) invoke.request.rounds) (sym span_is) ∙ enough)))
            outcome (can.outcome ∙ ap (λ (x : Outcome). Some x) (outcome_is outcome o));
      }
        where
          fewer : (invoke : InvokeEvent) → record invoke { node = call.originator; request = call.request } ≡ invoke → nat_lt (1 + since_invoke (moves_at invoke.node) (Answer a ∷ past) a.call) invoke.request.rounds ≡ true →
              1 + since_invoke (moves_at call.originator) past a.call < call.request.rounds
          fewer invoke same enough =
              let l = ltb-true (1 + since_invoke (moves_at call.originator) (Answer a ∷ past) a.call) call.request.rounds
              (ap (λ (i : InvokeEvent). nat_lt (1 + since_invoke (moves_at i.node) (Answer a ∷ past) a.call) i.request.rounds) same ∙ enough) in
              omega arith

  -- a call that is made had no outcome
  unmade : (event : Event) (call : ℕ) → allowed st event ≡ true → invokes call event ≡ true → outcome_in past call ≡ None
  unfolding can_invoke
  unmade (Invoke i) call may t =
      let none = (and_parts (is_none (call_of st.calling i.call)) _ (and_parts (lives st.holding.coord i.node) _ may).1).0 in
      (h.traced.calls call).outcome ∙ by_none (call_of st.calling call) (ap (λ n. is_none (call_of st.calling n)) (sym (eqb-true i.call call t)) ∙ none)
    where
      by_none : (found : Option Call) → is_none found ≡ true → outcome_found found ≡ None
      by_none None e = refl
      by_none (Some call) e = absurd (cc)
  unmade _ call may t = absurd (cc)

  -- an event that answers a call gives it its cause
  answered_by : (event : Event) (call : ℕ) → allowed st event ≡ true → answers call event ≡ true → HasCause config (event ∷ past) call
  answered_by (Answer a) call may t = subst (HasCause config (Answer a ∷ past)) (eqb-true a.call call t) (answered_cause a may)
  answered_by _ call may t = absurd (cc)

  -- each event that may happen keeps that outcomes are caused
  causes_kept : (event : Event) → allowed st event ≡ true → (call : ℕ) → HasCause config (event ∷ past) call
  causes_kept event may call = by_answer (answers call event) refl
    where
      by_answer : (b : Bool) → answers call event ≡ b → HasCause config (event ∷ past) call
      by_answer false other = cause_stays config past event call other (unmade event call may) (h.causes call)
      by_answer true t = answered_by event call may t

  -- each event that may happen keeps it
  pub reasoned_on : (event : Event) → allowed st event ≡ true → IsReasoned config (event ∷ past) (changed st event)
  reasoned_on event may =
      let traced = traced_on config past st event may h.traced in
      let step = numbers_step config past st event h.traced.kept (λ next e. (next_known config past st event may h.traced.kept next e).1) in
      record {
        traced = traced;
        dates = dates_told past st event h.dates;
        ids = ids_kept config past st event h.traced.kept step may h.traced.units.numbered h.traced.placed traced.placed h.ids;
        rounds = λ call. rounds_kept config past st h.traced h.dates event may h.ids call (h.rounds call);
        known = known_kept config past st h.traced h.dates event may h.rounds h.ids h.known;
        few = few_kept config past st event may h.few;
        quiet = quiet_kept config past st h.traced h.ids h.dates h.few event may h.quiet;
        causes = causes_kept event may;
      }

-- the limits of a configuration that are needed here
pub few_segments : (config : Config) → is_config config ≡ true → config.segments ≤ MOST_SEGMENTS
few_segments config good =
    let a = and_parts (is_up_to MOST_NODES config.nodes) _ good in
    let b = and_parts (is_up_to MOST_SEGMENTS config.segments) _ a.1 in
    leb-true config.segments MOST_SEGMENTS (and_parts (nat_le 1 config.segments) (nat_le config.segments MOST_SEGMENTS) b.0).1

-- and of nodes
few_nodes : (config : Config) → is_config config ≡ true → config.nodes ≤ 16
few_nodes config good =
    let a = and_parts (is_up_to MOST_NODES config.nodes) _ good in
    leb-true config.nodes 16 (and_parts (nat_le 1 config.nodes) (nat_le config.nodes 16) a.0).1

-- at the start no call was made
pub reasoned_start : (config : Config) → is_config config ≡ true → IsReasoned config [] (start config)
reasoned_start config good = record {
  traced = traced_start config good;
  dates = λ call. refl;
  ids = tt;
  rounds = λ call. record { earlier = refl; asked = λ segment within left. refl; ahead = refl };
  known = λ number call e. let none : call_of (start config).calling number ≡ None = map_of.get-empty {X = Call} nat_cmp number in absurd (cc);
  few = λ n member. let l = ltb-true n config.nodes member in let m = few_nodes config good in omega arith;
  quiet = λ call even none. absurd (true≢false (sym even));
  causes = λ call. record {
    caused = λ before invoke outcome b i o. absurd (cc);
    quiet = λ invoke outcome i asks quiet o. absurd (cc);
    enough = λ invoke outcome i enough o. absurd (cc);
  };
}

-- and so does a run
reasoned_run : (config : Config) → config.segments ≤ MOST_SEGMENTS → (past : List Event) (st : State) (events : List Event) → runs st events ≡ true → IsReasoned config past st → IsReasoned config (reverse_aux events past) (state st events)
reasoned_run config few = along (IsReasoned config) (λ past st event may h. reasoned_on config few past st h event may)

-- in every run from the start
pub always_reasoned : (config : Config) (events : List Event) → is_config config ≡ true → runs (start config) events ≡ true → IsReasoned config (reverse events) (state (start config) events)
always_reasoned config events good is = reasoned_run config (few_segments config good) [] (start config) events is (reasoned_start config good)

-- all outcomes are caused
pub all_caused : OutcomesAreCaused
all_caused config events good is = (always_reasoned config events good is).causes
