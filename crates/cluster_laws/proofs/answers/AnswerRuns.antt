-- Every run keeps what is known of calls and their units, and so the answers of every call are right.
use Rattle.std.proofs.Common.{◌≡◌, ℕ, ◌+◌, ◌≤◌, ◌==◌, Bool, true, false, ◌&&◌, ◌||◌, cond, if◌then◌else◌, List, [], ◌∷◌, reverse, Option, None, Some, is_none, refl, sym, ap, subst, ◌∙◌, arith}
use mathlib.Core.List.{reverse_aux}
use Rattle.std.proofs.lemmas.Bool.{eqb-true}
use Rattle.std.specs.Option.{option_map}
use Rattle.grid_base.specs.declared.entry.Entry.{Entry}
use Rattle.grid_event.specs.Configs.{is_config}
use Rattle.grid_event.specs.Spans.{answers, invoke_of, invokes, outcome_in}
use Rattle.grid_event.specs.declared.call_events.InvokeEvent.{InvokeEvent}
use Rattle.grid_event.specs.declared.config.Config.{Config}
use Rattle.grid_event.specs.declared.event.Event.{Event}
use Rattle.grid_event.specs.declared.event.Event.TheVariants.{Invoke, Take, Answer}
use Rattle.grid_event.specs.declared.outcome.Outcome.{Outcome}
use Rattle.grid_event.specs.declared.request.Request.{Request}
use Rattle.local_publisher.specs.Stages.{is_open}
use Rattle.local_publisher.specs.declared.unit_state.UnitState.{UnitState}
use Rattle.local_publisher.specs.declared.unit_state.UnitState.TheVariants.{Asked, Running, Refused, Lost, Ended}
use Rattle.cluster_model.specs.Evidence.{request_of}
use Rattle.cluster_model.specs.Rightness.{IsRight, IsRightSoFar, RightAfterTakes, RightOutcome, takes_for}
use Rattle.cluster_model.specs.State.{Call, State, Unit, call_of, is_ended, is_on, is_open_unit, is_walk, start}
use Rattle.cluster_model.specs.Step.{allowed, changed, runs, state}
use Rattle.cluster_laws.specs.Laws.{HasOneUnit, TellsCalls, TellsTheSame}
use Rattle.cluster_laws.proofs.answers.AnswerEvidence.{reduction_told}
use Rattle.cluster_laws.proofs.answers.AnswerStays.{answered_apart, claims_stay, outcome_stays, stays_told}
use Rattle.cluster_laws.proofs.answers.AnswerTaking.{found_each}
use Rattle.cluster_laws.proofs.answers.AnswerUnits.{Has, request_stays}
use Rattle.cluster_laws.proofs.units.CallLinks.{CallTold, CallsTold, asks_walk, ended_told, none_told, request_told, unit_told}
use Rattle.cluster_laws.proofs.units.CallRequests.{CanAnswer, CanTake, answer_facts, take_facts}
use Rattle.cluster_laws.proofs.Counts.{count_any, count_apart}
use Rattle.cluster_laws.proofs.Lists.{how_many_le}
use Rattle.cluster_laws.proofs.units.UnitCounts.{CountsKept, is_standing, made_anew}
use Rattle.cluster_laws.proofs.answers.AnswerKept.{AllKept, all_kept, all_first, end_told, known_units}
use Rattle.cluster_laws.proofs.answers.AnswerOutcomes.{answer_right, so_far}
use Rattle.cluster_laws.proofs.Along.{along}

-- what was taken was right so far, for each request that may be the call's
abbrev TakesRight : Config → List Event → Type 0
TakesRight config past = (call : ℕ) (request : Request) → ((other : Request) → request_of past call ≡ Some other → other ≡ request) → RightAfterTakes config past call request

-- what a call asks for it goes on asking for
request_on : (past : List Event) (st : State) (event : Event) (call : ℕ) (request : Request) → allowed st event ≡ true → CallsTold past st → request_of past call ≡ Some request → request_of (event ∷ past) call ≡ Some request
request_on past st event call request may told asked = by_test (invokes call event) refl
  where
    there : (o : Option InvokeEvent) → option_map (λ (i : InvokeEvent). i.request) o ≡ Some request → is_none o ≡ false
    there None e = absurd (cc)
    there (Some i) e = refl

    by_test : (b : Bool) → invokes call event ≡ b → request_of (event ∷ past) call ≡ Some request
    by_test false e = request_stays past event call e ∙ asked
    by_test true e = let anew = made_anew past st event call may told e in let known = there (invoke_of past call) asked in absurd (cc)

-- after a take of the call, what it gave so far is right
take_right : (config : Config) (past : List Event) (st : State) (event : Event) (call : ℕ) (request : Request) → allowed st event ≡ true → AllKept config past st → ((other : Request) → request_of past call ≡ Some other → other ≡ request) →
    takes_for past call event ≡ true → IsRightSoFar config (event ∷ past) call request
take_right config past st (Take t) call request may h alone mine =
    let facts = take_facts st t may in by_facts facts.0 facts.1.0 facts.1.1.0 facts.1.1.1
  where
    by_facts : (unit : Unit) (found : Call) (batch : List Entry) → CanTake st t unit found batch → IsRightSoFar config (Take t ∷ past) call request
    by_facts unit found batch can =
        let of_call : (unit.work.call == call) ≡ true = sym (unit_told past st call t.unit unit h.units.numbered h.links.asks can.found) ∙ mine in
        let same_call : unit.work.call ≡ call = eqb-true unit.work.call call of_call in
        let there : call_of st.calling call ≡ Some found = ap (call_of st.calling) (sym same_call) ∙ can.there in
        let told : CallTold past call (Some found) = subst (CallTold past call) there (h.links.calls call) in
        let asked : request_of past call ≡ Some found.request = request_told past st call found h.links.calls there in
        let same : found.request ≡ request = alone found.request asked in
        let has = found_each (Has config past) (λ u. u.work.id == t.unit) st.calling.units unit h.has.each can.found in
        let walked : asks_walk (request_of past unit.work.call) ≡ true = has.walked (ap is_none can.flies) in
        let form : is_walk request ≡ true = ap is_walk (sym same) ∙ sym (ap asks_walk asked) ∙ ap (λ n. asks_walk (request_of past n)) (sym same_call) ∙ walked in
        so_far config (Take t ∷ past) (changed st (Take t)) call request (all_kept config past st (Take t) may h) (asked ∙ ap (λ r. Some r) same) form (ap is_none told.outcome ∙ ap is_none can.unanswered)
take_right config past st _ call request may h alone mine = absurd (cc)

-- every event that may happen keeps that takes are right
takes_step : (config : Config) (past : List Event) (st : State) (event : Event) → allowed st event ≡ true → AllKept config past st → TakesRight config past → TakesRight config (event ∷ past)
takes_step config past st event may h before call request alone =
    let alone_before : (other : Request) → request_of past call ≡ Some other → other ≡ request = λ other asked. alone other (request_on past st event call other may h.links.calls asked) in
    (take_right config past st event call request may h alone_before, before call request alone_before)

-- the outcome of each call is right
abbrev OutcomesRight : Config → List Event → Type 0
OutcomesRight config past = (call : ℕ) (request : Request) (outcome : Outcome) → request_of past call ≡ Some request → outcome_in past call ≡ Some outcome → RightOutcome config past call request outcome

-- the event that answers a call
answering : (config : Config) (past : List Event) (st : State) (event : Event) (call : ℕ) (request : Request) (outcome : Outcome) → is_config config ≡ true → allowed st event ≡ true → AllKept config past st → answers call event ≡ true →
    request_of past call ≡ Some request → outcome_in (event ∷ past) call ≡ Some outcome → RightOutcome config (event ∷ past) call request outcome
answering config past st (Answer a) call request outcome good may h mine asked is =
    let found : (x : Call) × CanAnswer st a x = answer_facts st a may in by_found found.0 found.1
  where
    by_found : (x : Call) → CanAnswer st a x → RightOutcome config (Answer a ∷ past) call request outcome
    by_found x can =
        let same_call : a.call ≡ call = eqb-true a.call call mine in
        let here : Some a.outcome ≡ Some outcome = sym (ap (λ b. if b then Some a.outcome else outcome_in past call) mine) ∙ is in
        let same_outcome : a.outcome ≡ outcome = cc in
        let asks : Some x.request ≡ Some request = sym (request_told past st a.call x h.links.calls can.there) ∙ ap (request_of past) same_call ∙ asked in
        let same_request : x.request ≡ request = cc in
        subst (λ n. RightOutcome config (Answer a ∷ past) n request outcome) same_call
        (subst (λ r. RightOutcome config (Answer a ∷ past) a.call r outcome) same_request
        (subst (RightOutcome config (Answer a ∷ past) a.call x.request) same_outcome (answer_right config past st a x good h can)))
answering config past st _ call request outcome good may h mine asked is = absurd (cc)

-- every event that may happen keeps that outcomes are right
outcomes_step : (config : Config) (past : List Event) (st : State) (event : Event) → is_config config ≡ true → allowed st event ≡ true → AllKept config past st → OutcomesRight config past → OutcomesRight config (event ∷ past)
outcomes_step config past st event good may h before call request outcome asked is = by_invoke (invokes call event) refl
  where
    by_answer : (b : Bool) → answers call event ≡ b → request_of past call ≡ Some request → RightOutcome config (event ∷ past) call request outcome
    by_answer true e asked_before = answering config past st event call request outcome good may h e asked_before is
    by_answer false e asked_before =
        let was : outcome_in past call ≡ Some outcome = sym (outcome_stays past event call e) ∙ is in
        claims_stay config past st event call request outcome may h.units.numbered h.links (ap is_none was) (before call request outcome asked_before was)

    -- a call that is made is not answered yet
    fresh : (event : Event) → invokes call event ≡ true → outcome_in (event ∷ past) call ≡ outcome_in past call
    fresh (Invoke i) e = refl
    fresh _ e = absurd (cc)

    open_yet : (found : Option Call) → CallTold past call found → is_none found ≡ true → outcome_in past call ≡ None
    open_yet None told e = told.outcome
    open_yet (Some x) told e = absurd (cc)

    by_invoke : (b : Bool) → invokes call event ≡ b → RightOutcome config (event ∷ past) call request outcome
    by_invoke false e = by_answer (answers call event) refl (sym (request_stays past event call e) ∙ asked)
    by_invoke true e =
        let anew = made_anew past st event call may h.links.calls e in
        let none = open_yet (call_of st.calling call) (h.links.calls call) (sym (none_told past call (call_of st.calling call) (h.links.calls call)) ∙ anew) in
        let yet : Some outcome ≡ None = sym is ∙ fresh event e ∙ none in
        absurd (cc)

-- a run keeps all, and all that is right
pub record AllRight (config : Config) (past : List Event) (st : State) : Type 0 where
  pub kept : AllKept config past st
  pub takes : TakesRight config past
  pub outcomes : OutcomesRight config past

-- every run keeps all of this
pub run_right : (config : Config) (past : List Event) (st : State) (events : List Event) → is_config config ≡ true → runs st events ≡ true → AllRight config past st → AllRight config (reverse_aux events past) (state st events)
run_right config past st events good =
    along (AllRight config) (λ past st event may h. record {
      kept = all_kept config past st event may h.kept;
      takes = takes_step config past st event may h.kept h.takes;
      outcomes = outcomes_step config past st event good may h.kept h.outcomes;
    }) past st events

-- after every run all is right
pub always_right : (config : Config) (events : List Event) → is_config config ≡ true → runs (start config) events ≡ true → AllRight config (reverse events) (state (start config) events)
always_right config events good is =
    run_right config [] (start config) events good is (record { kept = all_first config good; takes = λ call request alone. tt; outcomes = λ call request outcome asked. absurd (cc) })

-- and so is each call
pub calls_right : (config : Config) (events : List Event) → is_config config ≡ true → runs (start config) events ≡ true → (call : ℕ) → IsRight config (reverse events) call
calls_right config events good is call =
    let h = always_right config events good is in
    record {
      outcome = λ request outcome asked was. h.outcomes call request outcome asked was;
      takes = λ request asked. h.takes call request (λ other is. (let same : Some other ≡ Some request = sym is ∙ asked in cc));
    }

-- a call has at most one open unit on a segment, and none on a complete one
one_unit : (past : List Event) (units : List Unit) (call segment : ℕ) → CountsKept past units → HasOneUnit units call segment
one_unit past units call segment h = record {
  stands = h.one call segment;
  one_open = (let a = how_many_le (λ unit. is_on call segment unit && is_open_unit unit) (is_standing call segment) open_stands units in let b = h.one call segment in omega arith);
  none_open = λ complete.
      let a = count_apart (λ unit. is_on call segment unit && is_open_unit unit) (λ unit. is_on call segment unit && is_ended unit.work.state) (is_standing call segment) apart units in
      let b = count_any (λ unit. is_on call segment unit && is_ended unit.work.state) units complete in
      let c = h.one call segment in omega arith;
}
  where
    open_stands : (unit : Unit) → (is_on call segment unit && is_open_unit unit) ≡ true → is_standing call segment unit ≡ true
    open_stands unit t = by_on (is_on call segment unit) (is_open_unit unit) t
      where
        by_on : (a b : Bool) → (a && b) ≡ true → (a && (b || is_ended unit.work.state)) ≡ true
        by_on true true t = refl
        by_on true false t = absurd (cc)
        by_on false b t = absurd (cc)

    apart : (unit : Unit) → cond {A = ℕ} (is_on call segment unit && is_open_unit unit) 1 0 + cond {A = ℕ} (is_on call segment unit && is_ended unit.work.state) 1 0 ≤ cond {A = ℕ} (is_standing call segment unit) 1 0
    apart unit = by_stage (is_on call segment unit) unit.work.state
      where
        by_stage : (b : Bool) (stage : UnitState) → cond {A = ℕ} (b && is_open stage) 1 0 + cond {A = ℕ} (b && is_ended stage) 1 0 ≤ cond {A = ℕ} (b && (is_open stage || is_ended stage)) 1 0
        by_stage false stage = omega arith
        by_stage true Asked = omega arith
        by_stage true Running = omega arith
        by_stage true (Refused at) = omega arith
        by_stage true (Lost at) = omega arith
        by_stage true Ended = omega arith

-- and so in every run
pub units_alone : (config : Config) (events : List Event) → is_config config ≡ true → runs (start config) events ≡ true → (call segment : ℕ) → HasOneUnit (state (start config) events).calling.units call segment
units_alone config events good is call segment =
    one_unit (reverse events) (state (start config) events).calling.units call segment (always_right config events good is).kept.numbers

-- in every run the events tell calls
pub calls_told_by : (config : Config) (events : List Event) → is_config config ≡ true → runs (start config) events ≡ true → TellsCalls config (reverse events) (state (start config) events)
calls_told_by config events good is = tells config (reverse events) (state (start config) events) (always_right config events good is).kept
  where
    tells : (config : Config) (past : List Event) (st : State) → AllKept config past st → TellsCalls config past st
    tells config past st h = record {
      calls = λ number call there.
          let told : CallTold past number (Some call) = subst (CallTold past number) there (h.links.calls number) in
          record {
            request = told.request;
            rounds = told.rounds;
            outcome = told.outcome;
            taken = told.taken;
            given = told.given;
            evidence = reduction_told config past st number call h.kept.told.segments h.links (known_units config past st h) there;
          };
      others = λ number none. (h.links.calls number).request ∙ ap (option_map (λ (call : Call). call.request)) none;
      asks = h.links.asks;
      ended = λ number segment. ended_told past st.calling.units number segment h.links.asks (end_told config past st h);
    }

-- in every run the same is told of an answered call after one more event
pub answered_stay : (config : Config) (events : List Event) (event : Event) → is_config config ≡ true → runs (start config) events ≡ true → allowed (state (start config) events) event ≡ true →
    (call : ℕ) (outcome : Outcome) → outcome_in (reverse events) call ≡ Some outcome → TellsTheSame config (reverse events) (event ∷ reverse events) call
answered_stay config events event good is may call outcome was =
    let h = (always_right config events good is).kept in
    stays_told config (reverse events) event call (answered_apart (reverse events) (state (start config) events) event call may h.units.numbered h.links (ap is_none was)) (ap is_none was)
