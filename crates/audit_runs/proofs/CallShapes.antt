-- In a run the events of calls and of their units fit their past.
use Rattle.std.proofs.Common.{◌≡◌, ℕ, ◌+◌, ◌==◌, Bool, true, false, not, ◌&&◌, cond, List, [], ◌∷◌, map, length, Option, None, Some, is_none, is_some, refl, sym, ap, subst, ◌∙◌, arith}
use Rattle.std.proofs.lemmas.Bool.{and_parts, eq-eqb, eqb-true}
use Rattle.std.proofs.lemmas.List.{length-append, length-map}
use Rattle.std.specs.Bool.{beq}
use Rattle.std.specs.List.{AllByRecursion}
use Rattle.std.specs.Prelude.{find}
use Rattle.std.specs.Option.{option_map}
use Rattle.grid_base.specs.Portion.{Portion}
use Rattle.grid_base.specs.declared.entry.Entry.{Entry}
use Rattle.grid_base.specs.declared.limits.TheConstants.{LAST_CALL, MOST_BATCH, MOST_ROUNDS}
use Rattle.grid_event.specs.Configs.{is_up_to}
use Rattle.grid_event.specs.Members.{installed_topology, is_live}
use Rattle.grid_event.specs.Spans.{invoke_of, outcome_in}
use Rattle.grid_event.specs.Taking.{Taking}
use Rattle.grid_event.specs.UnitHistories.{asker_of, has_begun, has_ended, was_refused}
use Rattle.grid_event.specs.declared.call_events.AnswerEvent.{AnswerEvent}
use Rattle.grid_event.specs.declared.call_events.InvokeEvent.{InvokeEvent}
use Rattle.grid_event.specs.declared.call_events.RoundEvent.{RoundEvent}
use Rattle.grid_event.specs.declared.config.Config.{Config}
use Rattle.grid_event.specs.declared.event.Event.{Event}
use Rattle.grid_event.specs.declared.event.Event.TheVariants.{Invoke, Round, Begin, Scan, Fetch, Take, Done, Answer}
use Rattle.grid_event.specs.declared.unit_events.FetchEvent.{FetchEvent}
use Rattle.grid_event.specs.declared.unit_events.ScanEvent.{ScanEvent}
use Rattle.local_publisher.specs.declared.unit_state.UnitState.{UnitState}
use Rattle.local_publisher.specs.declared.unit_state.UnitState.TheVariants.{Asked, Running, Refused, Lost, Ended}
use Rattle.topology_coord.specs.Coordination.{installed_id, lives}
use Rattle.cluster_model.specs.Calls.{asks_from, can_invoke, checks, incomplete, is_request, unit_made}
use Rattle.cluster_model.specs.Evidence.{is_unit_of, request_of}
use Rattle.cluster_model.specs.State.{Call, State, Unit, call_of, is_asked, is_running, is_walk, unit_of}
use Rattle.cluster_model.specs.State as states
use Rattle.cluster_model.specs.Step.{allowed, changed}
use Rattle.cluster_model.specs.Units.{can_begin, can_begin_unit, can_end, can_end_unit, can_fetch, can_read, can_scan}
use Rattle.cluster_laws.proofs.answers.AnswerKept.{AllKept}
use Rattle.cluster_laws.proofs.answers.AnswerTaking.{found_each}
use Rattle.cluster_laws.proofs.answers.AnswerUnits.{Has}
use Rattle.cluster_laws.proofs.causes.CauseUnits.{RoundKnown, round_known}
use Rattle.cluster_laws.proofs.units.CallLinks.{CallTold, asks_walk, none_told, unit_told, walks_told}
use Rattle.cluster_laws.proofs.units.CallRequests.{CanAnswer, CanTake, GoesOn, answer_facts, going, take_facts}
use Rattle.cluster_laws.proofs.units.Reading.{reads_in}
use Rattle.cluster_laws.proofs.units.StageRuns.{IsTraced}
use Rattle.cluster_laws.proofs.units.StageSteps.{StageKept}
use Rattle.cluster_laws.proofs.units.UnitEffects.{MayBegin, MayEnd, MayRead, begin_known, end_known, read_known, unit_after, units_are, units_made}
use Rattle.cluster_laws.specs.Laws.{is_refused}
use Rattle.audit_clauses.specs.Shapes.{are_numbered, asker_goes_on, asker_has_form, fits_past, goes_on, has_form, is_at_originator, reads_for, reads_on, suits, units_asked}
use Rattle.audit_runs.proofs.Askers.{asker_own, asker_there}
use Rattle.audit_runs.proofs.DueOutcomes.{due, due_suits}
use Rattle.audit_runs.proofs.Flights.{Flies}

-- ---- how many units there are

-- as many units were asked for as there are
abbrev pub UnitsTold : List Event → State → Type 0
UnitsTold past st = units_asked past ≡ length st.calling.units

-- every event keeps it
pub units_told : (past : List Event) (st : State) (event : Event) → UnitsTold past st → UnitsTold (event ∷ past) (changed st event)
units_told past st event h =
    asked event ∙ ap (λ n. n + length (units_made event)) h
    ∙ ap (λ n. n + length (units_made event)) (sym (length-map st.calling.units (unit_after st event)))
    ∙ sym (length-append (map (unit_after st event) st.calling.units) (units_made event))
    ∙ ap (λ (us : List Unit). length us) (sym (units_are st event))
  where
    none_more : units_asked past ≡ units_asked past + 0
    none_more = omega arith

    asked : (event : Event) → units_asked (event ∷ past) ≡ units_asked past + length (units_made event)
    asked (Round r) = ap (λ n. units_asked past + n) (sym (length-map r.asks (unit_made r.call r.id)))
    asked _ = none_more

-- ---- shapes

-- what isn't None is there
some_by : {A : Type 0} (o : Option A) → is_none o ≡ false → is_some o ≡ true
some_by None e = absurd (cc)
some_by (Some x) e = refl

module _ (config : Config) (past : List Event) (st : State) (k : AllKept config past st) (t : IsTraced config past st) where
  -- the call that asked for a unit is the unit's
  asker_is : (number : ℕ) (unit : Unit) → unit_of st.calling number ≡ Some unit → asker_of past number ≡ Some unit.work.call
  asker_is number unit found =
      let of_call = unit_told past st unit.work.call number unit k.units.numbered k.links.asks found in
      let mine : is_unit_of past unit.work.call number ≡ true = of_call ∙ eq-eqb unit.work.call unit.work.call refl in
      by_asker (asker_of past number) refl (asker_there past unit.work.call number mine)
    where
      by_asker : (o : Option ℕ) → asker_of past number ≡ o → is_some o ≡ true → o ≡ Some unit.work.call
      by_asker None e there = absurd (cc)
      by_asker (Some call) e there =
          let own = asker_own past number call e in
          let same : (unit.work.call == call) ≡ true = sym (unit_told past st call number unit k.units.numbered k.links.asks found) ∙ own in
          ap (λ n. Some n) (sym (eqb-true unit.work.call call same))

  -- what is told of a call that is there
  told_of : (number : ℕ) (call : Call) → call_of st.calling number ≡ Some call → CallTold past number (Some call)
  told_of number call there = subst (CallTold past number) there (k.links.calls number)

  -- an unanswered call goes on by what the past tells
  open_goes : (number : ℕ) (call : Call) → call_of st.calling number ≡ Some call → call.outcome ≡ None → goes_on past number ≡ true
  open_goes number call there unanswered =
      let told = told_of number call there in
      let made = some_by (invoke_of past number) (none_told past number (Some call) told) in
      let yet : is_none (outcome_in past number) ≡ true = ap is_none (told.outcome ∙ unanswered) in
      λ i. made i && yet i

  -- so does a call that goes on
  call_goes : (number : ℕ) → states.goes_on st.holding (call_of st.calling number) ≡ true → goes_on past number ≡ true
  call_goes number h =
      let on : (call : Call) × GoesOn st (call_of st.calling number) call = going st (call_of st.calling number) h in
      open_goes number on.0 on.1.there on.1.unanswered

  -- and so does the call that asked for a unit
  asker_goes : (number : ℕ) (unit : Unit) → unit_of st.calling number ≡ Some unit
      → states.goes_on st.holding (call_of st.calling unit.work.call) ≡ true
      → asker_goes_on past (asker_of past number) ≡ true
  asker_goes number unit found h = ap (asker_goes_on past) (asker_is number unit found) ∙ call_goes unit.work.call h

  -- the number of a unit that is found
  number_is : (number : ℕ) (unit : Unit) → unit_of st.calling number ≡ Some unit → unit.work.id ≡ number
  number_is number unit found = eqb-true unit.work.id number (found_test st.calling.units found)
    where
      found_test : (units : List Unit) → find (λ (u : Unit). u.work.id == number) units ≡ Some unit → (unit.work.id == number) ≡ true
      found_test [] e = absurd (cc)
      found_test (u ∷ units) e = by_head (u.work.id == number) refl e (found_test units)
        where
          by_head : (b : Bool) → (u.work.id == number) ≡ b
              → cond b (Some u) (find (λ (u : Unit). u.work.id == number) units) ≡ Some unit
              → (find (λ (u : Unit). u.work.id == number) units ≡ Some unit → (unit.work.id == number) ≡ true)
              → (unit.work.id == number) ≡ true
          by_head true is here rest = let same : u ≡ unit = cc in ap (λ (w : Unit). w.work.id == number) (sym same) ∙ is
          by_head false is there rest = rest there

  -- what the past tells of a unit's stage
  stage_is : (number : ℕ) (unit : Unit) → unit_of st.calling number ≡ Some unit → StageKept config past unit
  stage_is number unit found = found_each (StageKept config past) (λ (u : Unit). u.work.id == number) st.calling.units unit t.stages.each found

  -- a unit begins that was asked for and hasn't begun
  begin_fits : (number : ℕ) (runs : Bool) (found : Option Unit) → unit_of st.calling number ≡ found
      → can_begin_unit st runs found ≡ true → fits_past config past (Begin number runs) ≡ true
  unfolding fits_past
  begin_fits number runs None is can = absurd (cc)
  begin_fits number runs (Some unit) is can =
      let may : MayBegin st runs unit = begin_known st runs unit can in
      let s = stage_is number unit is in
      let same = number_is number unit is in
      let asked = asked_facts unit.work.state may.asked in
      let unbegun : has_begun past number ≡ false = ap (has_begun past) (sym same) ∙ s.begun asked.0 ∙ asked.1 in
      let unrefused : was_refused past number ≡ false = ap (was_refused past) (sym same) ∙ s.refused ∙ asked.2 in
      λ i. asker_goes number unit is may.going i && (not (unbegun i) && not (unrefused i))
    where
      asked_facts : (stage : UnitState) → is_asked stage ≡ true
          → (states.is_lost stage ≡ false) × (reads_in stage ≡ false) × (is_refused stage ≡ false)
      asked_facts Asked h = (refl, refl, refl)
      asked_facts Running h = absurd (cc)
      asked_facts (Refused at) h = absurd (cc)
      asked_facts (Lost at) h = absurd (cc)
      asked_facts Ended h = absurd (cc)

  -- a unit that runs, of a call that goes on, reads on
  running_reads : (number : ℕ) (unit : Unit) → unit_of st.calling number ≡ Some unit → goes_on past unit.work.call ≡ true
      → is_running unit.work.state ≡ true → reads_on past number ≡ true
  running_reads number unit is on runs =
      let s = stage_is number unit is in
      let same = number_is number unit is in
      let running = running_facts unit.work.state runs in
      let begun : has_begun past number ≡ true = ap (has_begun past) (sym same) ∙ s.begun running.0 ∙ running.1 in
      let not_done : has_ended past number ≡ false = ap (has_ended past) (sym same) ∙ s.ended ∙ running.2 in
      λ i. (ap (asker_goes_on past) (asker_is number unit is) ∙ on) i && (begun i && not (not_done i))
    where
      running_facts : (stage : UnitState) → is_running stage ≡ true
          → (states.is_lost stage ≡ false) × (reads_in stage ≡ true) × (states.is_ended stage ≡ false)
      running_facts Asked h = absurd (cc)
      running_facts Running h = (refl, refl, refl)
      running_facts (Refused at) h = absurd (cc)
      running_facts (Lost at) h = absurd (cc)
      running_facts Ended h = absurd (cc)

  -- a unit ends that reads on
  done_fits : (number : ℕ) (found : Option Unit) → unit_of st.calling number ≡ found → can_end_unit st found ≡ true
      → fits_past config past (Done number) ≡ true
  unfolding fits_past
  done_fits number None is can = absurd (cc)
  done_fits number (Some unit) is can =
      let may : MayEnd st unit = end_known st unit can in running_reads number unit is (call_goes unit.work.call may.going) may.running

  -- the call of a unit has the form that is told
  form_is : (walk : Bool) (number : ℕ) (unit : Unit) → unit_of st.calling number ≡ Some unit → goes_on past unit.work.call ≡ true
      → walk ≡ asks_walk (request_of past unit.work.call)
      → asker_has_form past walk (asker_of past number) ≡ true
  form_is walk number unit is on form = ap (asker_has_form past walk) (asker_is number unit is) ∙ by_invoke (invoke_of past unit.work.call) on form
    where
      same_form : (a b : Bool) → a ≡ b → beq a b ≡ true
      same_form true true e = refl
      same_form false false e = refl
      same_form true false e = absurd (cc)
      same_form false true e = absurd (cc)

      by_invoke : (o : Option InvokeEvent) → (is_some o && is_none (outcome_in past unit.work.call)) ≡ true
          → walk ≡ asks_walk (option_map (λ (i : InvokeEvent). i.request) o) → has_form walk o ≡ true
      by_invoke None on form = absurd (cc)
      by_invoke (Some i) on form = same_form walk (is_walk i.request) form

  -- a unit reads that reads on, for a call of the form
  read_fits : (walk : Bool) (number : ℕ) (batch : Portion Entry) (found : Option Unit) → unit_of st.calling number ≡ found
      → can_read st walk batch found ≡ true → reads_for walk past number ≡ true
  read_fits walk number batch None is can = absurd (cc)
  read_fits walk number batch (Some unit) is can =
      let may : MayRead st walk batch unit = read_known st walk batch unit can in
      let on = call_goes unit.work.call may.going in
      let form = may.form ∙ walks_told past st unit.work.call k.links.calls in
      λ i. running_reads number unit is on may.running i && form_is walk number unit is on form i

  -- a batch is taken of a unit that reads on, for a walk
  pub take_fits : (x : Taking) → AllByRecursion Flies st.calling.units → allowed st (Take x) ≡ true
      → fits_past config past (Take x) ≡ true
  unfolding fits_past
  take_fits x flies may = let facts = take_facts st x may in by_facts facts.0 facts.1.0 facts.1.1.0 facts.1.1.1
    where
      by_facts : (unit : Unit) (call : Call) (batch : List Entry) → CanTake st x unit call batch → reads_for true past x.unit ≡ true
      by_facts unit call batch can =
          let there : is_none unit.flying ≡ false = ap is_none can.flies in
          let runs = found_each Flies (λ (u : Unit). u.work.id == x.unit) st.calling.units unit flies can.found there in
          let walked = (found_each (Has config past) (λ (u : Unit). u.work.id == x.unit) st.calling.units unit k.has.each can.found).walked there in
          let on = open_goes unit.work.call call can.there can.unanswered in
          λ i. running_reads x.unit unit can.found on runs i && form_is true x.unit unit can.found on (sym walked) i

  -- begins, scans, fetches and ends fit their past
  pub begin_event_fits : (number : ℕ) (runs : Bool) → allowed st (Begin number runs) ≡ true
      → fits_past config past (Begin number runs) ≡ true
  unfolding can_begin
  begin_event_fits number runs may = begin_fits number runs (unit_of st.calling number) refl may

  pub scan_fits : (s : ScanEvent) → allowed st (Scan s) ≡ true → fits_past config past (Scan s) ≡ true
  unfolding can_scan fits_past
  scan_fits s may = read_fits false s.unit s.batch (unit_of st.calling s.unit) refl may

  pub fetch_fits : (f : FetchEvent) → allowed st (Fetch f) ≡ true → fits_past config past (Fetch f) ≡ true
  unfolding can_fetch fits_past
  fetch_fits f may = read_fits true f.unit f.batch (unit_of st.calling f.unit) refl may

  pub done_event_fits : (number : ℕ) → allowed st (Done number) ≡ true → fits_past config past (Done number) ≡ true
  unfolding can_end
  done_event_fits number may = done_fits number (unit_of st.calling number) refl may

  -- the asks of a round are numbered on
  asks_numbered : (originator n m : ℕ) (segments : List ℕ) → n ≡ m → are_numbered m (asks_from st.holding originator n segments) ≡ true
  asks_numbered originator n m [] same = refl
  asks_numbered originator n m (segment ∷ segments) same =
      λ i. eq-eqb n m same i && asks_numbered originator (n + 1) (m + 1) segments (ap (λ x. x + 1) same) i

  -- the originator of a round is live, and has installed the topology of its number
  at_originator : (id : ℕ) (call : Call) (o : Option InvokeEvent) → option_map (λ (i : InvokeEvent). i.node) o ≡ Some call.originator
      → lives st.holding.coord call.originator ≡ true
      → id ≡ installed_id st.holding.coord call.originator → is_at_originator config past id o ≡ true
  at_originator id call None e live at = absurd (cc)
  at_originator id call (Some invoke) e live at =
      let same : invoke.node ≡ call.originator = cc in
      let live_told : is_live config past invoke.node ≡ true =
      ap (is_live config past) same ∙ sym (k.kept.told.live call.originator) ∙ live in
      let id_told : installed_topology config past invoke.node ≡ id =
      ap (installed_topology config past) same ∙ sym (k.kept.told.installed call.originator live) ∙ sym at in
      λ i. live_told i && eq-eqb (installed_topology config past invoke.node) id id_told i

  -- a round is of a call that goes on, at its originator, and its units have the following numbers
  pub round_fits : (r : RoundEvent) → UnitsTold past st → allowed st (Round r) ≡ true → fits_past config past (Round r) ≡ true
  unfolding fits_past
  round_fits r many may = let known : (call : Call) × RoundKnown st r call = round_known st r may in by_known known.0 known.1
    where
      by_known : (call : Call) → RoundKnown st r call
          → (goes_on past r.call && (is_at_originator config past r.id (invoke_of past r.call) && are_numbered (units_asked past + 1) r.asks)) ≡ true
      by_known call known =
          let goes = open_goes r.call call known.there known.unanswered in
          let at = at_originator r.id call (invoke_of past r.call) (told_of r.call call known.there).originator known.live known.id in
          let first : length st.calling.units + 1 ≡ units_asked past + 1 = (let h : units_asked past ≡ length st.calling.units = many in omega (arith, h)) in
          let numbers : are_numbered (units_asked past + 1) r.asks ≡ true =
          ap (are_numbered (units_asked past + 1)) known.asks
          ∙ asks_numbered call.originator (length st.calling.units + 1) (units_asked past + 1) (incomplete st.calling r.call) first in
          λ i. goes i && (at i && numbers i)

  -- an invocation is of a new call
  pub invoke_fits : (i : InvokeEvent) → allowed st (Invoke i) ≡ true → fits_past config past (Invoke i) ≡ true
  unfolding can_invoke fits_past
  invoke_fits i may =
      let p = and_parts (lives st.holding.coord i.node) _ may in
      let q = and_parts (is_none (call_of st.calling i.call)) _ p.1 in
      let r = and_parts (is_up_to LAST_CALL i.call) (is_request st.holding.config.values i.request) q.1 in
      let s = and_parts (is_up_to MOST_ROUNDS i.request.rounds) _ r.1 in
      let u = and_parts (is_up_to MOST_BATCH i.request.batch) (checks i.request.pipeline st.holding.config.values) s.1 in
      let new : is_none (invoke_of past i.call) ≡ true = none_told past i.call (call_of st.calling i.call) (k.links.calls i.call) ∙ q.0 in
      let live : is_live config past i.node ≡ true = sym (k.kept.told.live i.node) ∙ p.0 in
      let checked : checks i.request.pipeline config.values ≡ true =
      ap (λ (c : Config). checks i.request.pipeline c.values) (sym k.kept.told.settings) ∙ u.1 in
      λ j. new j && (r.0 j && (live j && checked j))

  -- an answer is of a call that goes on, and suits its form
  pub answer_fits : (a : AnswerEvent) → allowed st (Answer a) ≡ true → fits_past config past (Answer a) ≡ true
  unfolding fits_past
  answer_fits a may = let facts : (call : Call) × CanAnswer st a call = answer_facts st a may in by_facts facts.0 facts.1
    where
      by_invoke : (call : Call) → CanAnswer st a call → (o : Option InvokeEvent)
          → option_map (λ (i : InvokeEvent). i.request) o ≡ Some call.request → suits a.outcome o ≡ true
      by_invoke call can None e = absurd (cc)
      by_invoke call can (Some invoke) e =
          let same : invoke.request ≡ call.request = cc in
          due_suits st a.call call a.outcome (due st a.call call a.outcome can.outcome) invoke same

      by_facts : (call : Call) → CanAnswer st a call → (goes_on past a.call && suits a.outcome (invoke_of past a.call)) ≡ true
      by_facts call can =
          let on = open_goes a.call call can.there can.unanswered in
          let suited = by_invoke call can (invoke_of past a.call) (told_of a.call call can.there).request in
          λ i. on i && suited i
