-- What comes after the answer of a call changes nothing of what is claimed of it.
use Rattle.std.proofs.Common.{◌≡◌, ℕ, ◌≤◌, ◌==◌, Bool, true, false, ◌&&◌, ◌||◌, cond, if◌then◌else◌, List, [], ◌∷◌, ◌++◌, Option, None, Some, is_none, unwrap_or, refl, sym, ap, subst, ◌∙◌, arith}
use Rattle.std.proofs.lemmas.Bool.{and_parts, eq-eqb, eqb-true, or_parts}
use Rattle.std.specs.List.{AllByRecursion, filter, find, flat_map, list_any, range_with_len}
use Rattle.delivery_mode.specs.Guarantee.{keeps_lost}
use Rattle.delivery_mode.specs.declared.guarantee.Guarantee.{Guarantee}
use Rattle.delivery_mode.specs.declared.guarantee.Guarantee.TheVariants.{Exact, AtLeast, AtMost}
use Rattle.grid_base.specs.declared.entry.Entry.{Entry}
use Rattle.grid_event.specs.Spans.{answers, invokes, outcome_in, since_invoke, span_end, up_to_answer}
use Rattle.grid_event.specs.Taking.{Taking}
use Rattle.grid_event.specs.UnitHistories.{asks_of_call, has_ended}
use Rattle.grid_event.specs.declared.call_events.Ask.{Ask}
use Rattle.grid_event.specs.declared.config.Config.{Config}
use Rattle.grid_event.specs.declared.event.Event.{Event}
use Rattle.grid_event.specs.declared.event.Event.TheVariants.{Invoke, Round, Begin, Scan, Fetch, Take, Done, Answer}
use Rattle.grid_event.specs.declared.outcome.Outcome.{Outcome}
use Rattle.grid_event.specs.declared.unit_events.ScanEvent.{ScanEvent}
use Rattle.grid_event.specs.declared.outcome.Outcome.TheVariants as outcomes
use Rattle.grid_event.specs.declared.request.Request.{Request}
use Rattle.pipeline_eval.specs.Pipes.{pipe}
use Rattle.pipeline_expr.specs.declared.answer.Answer.TheVariants as values
use Rattle.cluster_model.specs.Calls.{can_round, is_next_round}
use Rattle.cluster_model.specs.Evidence.{EachHeld, Stable, StoodOnce, StoodThroughout, entry_times, evidence, evidence_by, given_in, is_counted, is_unit_of, request_of, scanned_by, taken_in, times}
use Rattle.cluster_model.specs.Guarantees.{Keeps, is_move, rounds_in}
use Rattle.cluster_model.specs.Rightness.{RightOutcome}
use Rattle.cluster_model.specs.State.{Call, State, Unit, call_of, goes_on, is_walk, unit_of}
use Rattle.cluster_model.specs.Step.{allowed}
use Rattle.cluster_model.specs.Units.{call_of_unit, can_begin, can_begin_unit, can_end, can_end_unit, can_fetch, can_read, can_scan, can_take, can_take_unit}
use Rattle.cluster_laws.proofs.answers.AnswerUnits.{request_stays}
use Rattle.cluster_laws.proofs.units.CallLinks.{CallTold, CallsTold, unit_told}
use Rattle.cluster_laws.proofs.units.CallRequests.{CanAnswer, GoesOn, answer_facts, going}
use Rattle.cluster_laws.specs.Laws.{TellsTheSame}
use Rattle.cluster_laws.proofs.answers.AnswerLinks.{LinksKept}
use Rattle.cluster_laws.proofs.Lists.{each_any}
use Rattle.cluster_laws.proofs.Numbers.{NumberedFrom}
use Rattle.cluster_laws.proofs.units.UnitCounts.{made_absent}
use Rattle.cluster_laws.proofs.units.UnitEffects.{apart_turned, begin_known, end_known, none_is, read_known}

-- the event is of the call: it makes it, asks for it, answers it, or names a unit of it
abbrev pub concerns : List Event → ℕ → Event → Bool
concerns past call (Invoke i) = i.call == call
concerns past call (Round r) = r.call == call
concerns past call (Begin number runs) = is_unit_of past call number
concerns past call (Scan s) = is_unit_of past call s.unit
concerns past call (Fetch f) = is_unit_of past call f.unit
concerns past call (Take t) = is_unit_of past call t.unit
concerns past call (Done number) = is_unit_of past call number
concerns past call (Answer a) = a.call == call
concerns past call _ = false

-- an event leaves what is told of the unit of an ask
abbrev LeavesAsk : List Event → Event → Ask → Type 0
LeavesAsk past event ask = (scanned_by (event ∷ past) ask.unit ≡ scanned_by past ask.unit) × (has_ended (event ∷ past) ask.unit ≡ has_ended past ask.unit)

-- a scan of another unit leaves the units of the asks
none_scanned : (past : List Event) (s : ScanEvent) (asks : List Ask) → list_any (λ (ask : Ask). ask.unit == s.unit) asks ≡ false → AllByRecursion (LeavesAsk past (Scan s)) asks
none_scanned past s [] h = tt
none_scanned past s (ask ∷ asks) h =
    let p : ((ask.unit == s.unit) ≡ false) × (list_any (λ (ask : Ask). ask.unit == s.unit) asks ≡ false) = or_parts (ask.unit == s.unit) _ h in
    ((ap (λ b. if b then scanned_by past ask.unit ++ s.batch.entries else scanned_by past ask.unit) (apart_turned ask.unit s.unit p.0), refl), none_scanned past s asks p.1)

-- the end of another unit leaves the units of the asks
none_ended : (past : List Event) (number : ℕ) (asks : List Ask) → list_any (λ (ask : Ask). ask.unit == number) asks ≡ false → AllByRecursion (LeavesAsk past (Done number)) asks
none_ended past number [] h = tt
none_ended past number (ask ∷ asks) h =
    let p : ((ask.unit == number) ≡ false) × (list_any (λ (ask : Ask). ask.unit == number) asks ≡ false) = or_parts (ask.unit == number) _ h in
    ((refl, ap (λ b. b || has_ended past ask.unit) (apart_turned ask.unit number p.0)), none_ended past number asks p.1)

-- an event of another call leaves the units of the call
leaves_asks : (past : List Event) (event : Event) (call : ℕ) → concerns past call event ≡ false → AllByRecursion (LeavesAsk past event) (asks_of_call past call)
leaves_asks past (Scan s) call h = none_scanned past s (asks_of_call past call) h
leaves_asks past (Done number) call h = none_ended past number (asks_of_call past call) h
leaves_asks past event call h = each_any (LeavesAsk past event) (λ ask. (refl, refl)) (asks_of_call past call)

-- an event of another call leaves the asks
asks_stay : (past : List Event) (event : Event) (call : ℕ) → concerns past call event ≡ false → asks_of_call (event ∷ past) call ≡ asks_of_call past call
asks_stay past (Round r) call h = ap (λ b. if b then asks_of_call past call ++ r.asks else asks_of_call past call) h
asks_stay past _ call h = refl

-- and the number of rounds
rounds_stay : (past : List Event) (event : Event) (call : ℕ) → concerns past call event ≡ false → rounds_in (event ∷ past) call ≡ rounds_in past call
rounds_stay past (Round r) call h = let e = ap (λ b. cond {A = ℕ} b 1 0) h in omega arith
rounds_stay past _ call h = refl

-- and the entries taken
taken_stay : (past : List Event) (event : Event) (call : ℕ) → concerns past call event ≡ false → taken_in (event ∷ past) call ≡ taken_in past call
taken_stay past (Take t) call h = ap (λ b. if b then taken_in past call ++ t.entries else taken_in past call) h
taken_stay past _ call h = refl

-- and the items given
given_stay : (past : List Event) (event : Event) (call : ℕ) → concerns past call event ≡ false → given_in (event ∷ past) call ≡ given_in past call
given_stay past (Take t) call h = ap (λ b. if b then given_in past call ++ t.given else given_in past call) h
given_stay past _ call h = refl

-- and doesn't make the call
makes_not : (past : List Event) (event : Event) (call : ℕ) → concerns past call event ≡ false → invokes call event ≡ false
makes_not past (Invoke i) call h = h
makes_not past _ call h = refl

-- what is scanned of the units of a call, where they are left
same_scanned : (past : List Event) (event : Event) (request : Request) (segment : ℕ) (asks : List Ask) → AllByRecursion (LeavesAsk past event) asks →
    flat_map (λ (ask : Ask). scanned_by (event ∷ past) ask.unit) (filter (λ (ask : Ask). (ask.segment == segment) && is_counted (event ∷ past) request ask) asks)
    ≡ flat_map (λ (ask : Ask). scanned_by past ask.unit) (filter (λ (ask : Ask). (ask.segment == segment) && is_counted past request ask) asks)
same_scanned past event request segment [] h = refl
same_scanned past event request segment (ask ∷ asks) h =
    ap (λ b. flat_map (λ (ask : Ask). scanned_by (event ∷ past) ask.unit) (if (ask.segment == segment) && (keeps_lost request.guarantee || b) then ask ∷ filter (λ (ask : Ask). (ask.segment == segment) && is_counted (event ∷ past) request ask) asks else filter (λ (ask : Ask). (ask.segment == segment) && is_counted (event ∷ past) request ask) asks)) h.0.1
    ∙ by_test ((ask.segment == segment) && is_counted past request ask) (same_scanned past event request segment asks h.1)
  where
    by_test : (b : Bool) →
        flat_map (λ (ask : Ask). scanned_by (event ∷ past) ask.unit) (filter (λ (ask : Ask). (ask.segment == segment) && is_counted (event ∷ past) request ask) asks)
        ≡ flat_map (λ (ask : Ask). scanned_by past ask.unit) (filter (λ (ask : Ask). (ask.segment == segment) && is_counted past request ask) asks) →
        flat_map (λ (ask : Ask). scanned_by (event ∷ past) ask.unit) (if b then ask ∷ filter (λ (ask : Ask). (ask.segment == segment) && is_counted (event ∷ past) request ask) asks else filter (λ (ask : Ask). (ask.segment == segment) && is_counted (event ∷ past) request ask) asks)
        ≡ flat_map (λ (ask : Ask). scanned_by past ask.unit) (if b then ask ∷ filter (λ (ask : Ask). (ask.segment == segment) && is_counted past request ask) asks else filter (λ (ask : Ask). (ask.segment == segment) && is_counted past request ask) asks)
    by_test true rest = λ i. h.0.0 i ++ rest i
    by_test false rest = rest

-- which units of a call have ended, where they are left
same_ended : (past : List Event) (event : Event) (segment : ℕ) (asks : List Ask) → AllByRecursion (LeavesAsk past event) asks →
    list_any (λ (ask : Ask). (ask.segment == segment) && has_ended (event ∷ past) ask.unit) asks ≡ list_any (λ (ask : Ask). (ask.segment == segment) && has_ended past ask.unit) asks
same_ended past event segment [] h = refl
same_ended past event segment (ask ∷ asks) h = λ i. ((ask.segment == segment) && h.0.1 i) || same_ended past event segment asks h.1 i

-- a call that goes on is unanswered
going_open : (past : List Event) (st : State) (number : ℕ) → CallsTold past st → goes_on st.holding (call_of st.calling number) ≡ true → is_none (outcome_in past number) ≡ true
going_open past st number told h =
    let g : (call : Call) × GoesOn st (call_of st.calling number) call = going st (call_of st.calling number) h in
    let here : CallTold past number (Some g.0) = subst (CallTold past number) g.1.there (told number) in
    ap is_none here.outcome ∙ ap is_none g.1.unanswered

-- an event that names a unit of a call that goes on is not of an answered call
unit_apart : (past : List Event) (st : State) (call number : ℕ) (test : Option Unit → Bool) → NumberedFrom 1 st.calling.units → LinksKept past st → is_none (outcome_in past call) ≡ false → test None ≡ false →
    ((unit : Unit) → test (Some unit) ≡ true → goes_on st.holding (call_of st.calling unit.work.call) ≡ true) → test (unit_of st.calling number) ≡ true → is_unit_of past call number ≡ false
unit_apart past st call number test numbered links answered none on passed = by_found (unit_of st.calling number) refl passed
  where
    by_call : (unit : Unit) → find (λ (u : Unit). u.work.id == number) st.calling.units ≡ Some unit → test (Some unit) ≡ true → (b : Bool) → (unit.work.call == call) ≡ b → is_unit_of past call number ≡ false
    by_call unit e p false t = unit_told past st call number unit numbered links.asks e ∙ t
    by_call unit e p true t = let free = ap (λ n. is_none (outcome_in past n)) (sym (eqb-true unit.work.call call t)) ∙ going_open past st unit.work.call links.calls (on unit p) in absurd (cc)

    by_found : (found : Option Unit) → unit_of st.calling number ≡ found → test found ≡ true → is_unit_of past call number ≡ false
    by_found None e p = absurd (cc)
    by_found (Some unit) e p = by_call unit e p (unit.work.call == call) refl

-- an answered call isn't an unanswered one
by_number : (past : List Event) (call other : ℕ) → is_none (outcome_in past call) ≡ false → is_none (outcome_in past other) ≡ true → (other == call) ≡ false
by_number past call other answered free = by_test (other == call) refl
  where
    by_test : (b : Bool) → (other == call) ≡ b → b ≡ false
    by_test false t = refl
    by_test true t = let same = ap (λ n. is_none (outcome_in past n)) (eqb-true other call t) in absurd (cc)

-- a call that is made wasn't answered
made_open : (past : List Event) (st : State) (event : Event) (call : ℕ) → allowed st event ≡ true → CallsTold past st → invokes call event ≡ true → is_none (outcome_in past call) ≡ true
made_open past st event call may told h =
    let absent = none_is (call_of st.calling call) (made_absent st event call may h) in
    let none : CallTold past call None = subst (CallTold past call) absent (told call) in ap is_none none.outcome

-- the call of which a batch is taken goes on
take_going : (st : State) (t : Taking) (unit : Unit) (found : Option Call) → can_take_unit st t (Some unit) found ≡ true → goes_on st.holding found ≡ true
take_going st t unit None h = absurd (cc)
take_going st t unit (Some call) h = (and_parts (goes_on st.holding (Some call)) _ h).0

-- an event that may happen is of no answered call
pub answered_apart : (past : List Event) (st : State) (event : Event) (call : ℕ) → allowed st event ≡ true → NumberedFrom 1 st.calling.units → LinksKept past st → is_none (outcome_in past call) ≡ false → concerns past call event ≡ false
unfolding can_round can_begin can_scan can_fetch can_take can_end
answered_apart past st (Invoke i) call may numbered links answered = by_number past call i.call answered (made_open past st (Invoke i) i.call may links.calls (eq-eqb i.call i.call refl))
answered_apart past st (Round r) call may numbered links answered =
    let p = and_parts (goes_on st.holding (call_of st.calling r.call)) (is_next_round st r (call_of st.calling r.call)) may in by_number past call r.call answered (going_open past st r.call links.calls p.0)
answered_apart past st (Begin number runs) call may numbered links answered = unit_apart past st call number (can_begin_unit st runs) numbered links answered refl (λ unit t. (begin_known st runs unit t).going) may
answered_apart past st (Scan s) call may numbered links answered = unit_apart past st call s.unit (can_read st false s.batch) numbered links answered refl (λ unit t. (read_known st false s.batch unit t).going) may
answered_apart past st (Fetch f) call may numbered links answered = unit_apart past st call f.unit (can_read st true f.batch) numbered links answered refl (λ unit t. (read_known st true f.batch unit t).going) may
answered_apart past st (Take t) call may numbered links answered =
    unit_apart past st call t.unit (λ found. can_take_unit st t found (call_of_unit st.calling found)) numbered links answered refl (λ unit p. take_going st t unit (call_of st.calling unit.work.call) p) may
answered_apart past st (Done number) call may numbered links answered = unit_apart past st call number (can_end_unit st) numbered links answered refl (λ unit t. (end_known st unit t).going) may
answered_apart past st (Answer a) call may numbered links answered =
    let found : (x : Call) × CanAnswer st a x = answer_facts st a may in
    let here : CallTold past a.call (Some found.0) = subst (CallTold past a.call) found.1.there (links.calls a.call) in
    by_number past call a.call answered (ap is_none here.outcome ∙ ap is_none found.1.unanswered)
answered_apart past st _ call may numbered links answered = refl

-- an event that doesn't answer the call leaves its outcome
pub outcome_stays : (past : List Event) (event : Event) (call : ℕ) → answers call event ≡ false → outcome_in (event ∷ past) call ≡ outcome_in past call
outcome_stays past (Answer a) call h = ap (λ b. if b then Some a.outcome else outcome_in past call) h
outcome_stays past _ call h = refl

-- where a call has an outcome, its span has an end
answered_ends : (past : List Event) (call : ℕ) → is_none (outcome_in past call) ≡ false → is_none (up_to_answer past call) ≡ false
answered_ends [] call h = absurd (cc)
answered_ends (Answer a ∷ past) call h = by_test (a.call == call) h (answered_ends past call)
  where
    by_test : (b : Bool) → is_none (if b then Some a.outcome else outcome_in past call) ≡ false → (is_none (outcome_in past call) ≡ false → is_none (up_to_answer past call) ≡ false) → is_none (if b then Some (Answer a ∷ past) else up_to_answer past call) ≡ false
    by_test true h f = refl
    by_test false h f = f h
answered_ends (_ ∷ past) call h = answered_ends past call h

-- and where it has none, the span goes on
pub open_goes_on : (past : List Event) (call : ℕ) → is_none (outcome_in past call) ≡ true → up_to_answer past call ≡ None
open_goes_on [] call h = refl
open_goes_on (Answer a ∷ past) call h = by_test (a.call == call) h (open_goes_on past call)
  where
    by_test : (b : Bool) → is_none (if b then Some a.outcome else outcome_in past call) ≡ true → (is_none (outcome_in past call) ≡ true → up_to_answer past call ≡ None) → (if b then Some (Answer a ∷ past) else up_to_answer past call) ≡ None
    by_test true h f = absurd (cc)
    by_test false h f = f h
open_goes_on (_ ∷ past) call h = open_goes_on past call h

-- an event that doesn't answer the call
answers_not : (past : List Event) (event : Event) (call : ℕ) → concerns past call event ≡ false → answers call event ≡ false
answers_not past (Answer a) call h = h
answers_not past _ call h = refl

-- an event of another call leaves the span of an answered one
span_stays : (past : List Event) (event : Event) (call : ℕ) → concerns past call event ≡ false → is_none (outcome_in past call) ≡ false → span_end (event ∷ past) call ≡ span_end past call
span_stays past event call h answered =
    ap (λ b. unwrap_or (if b then Some (event ∷ past) else up_to_answer past call) (event ∷ past)) (answers_not past event call h) ∙ by_end (up_to_answer past call) (answered_ends past call answered)
  where
    by_end : (o : Option (List Event)) → is_none o ≡ false → unwrap_or o (event ∷ past) ≡ unwrap_or o past
    by_end None e = absurd (cc)
    by_end (Some x) e = refl

-- an event of another call leaves what is told of a call
pub stays_told : (config : Config) (past : List Event) (event : Event) (call : ℕ) → concerns past call event ≡ false → is_none (outcome_in past call) ≡ false → TellsTheSame config past (event ∷ past) call
unfolding evidence
stays_told config past event call h answered = record {
  span = span_stays past event call h answered;
  request = request;
  outcome = outcome_stays past event call (answers_not past event call h);
  evidence = ap (evidence_by config (event ∷ past) call) request ∙ by_request (request_of past call);
  given = given_stay past event call h;
  rounds = rounds_stay past event call h;
  ended = λ segment.
      ap (list_any (λ (ask : Ask). (ask.segment == segment) && has_ended (event ∷ past) ask.unit)) (asks_stay past event call h) ∙ same_ended past event segment (asks_of_call past call) (leaves_asks past event call h);
}
  where
    request : request_of (event ∷ past) call ≡ request_of past call
    request = request_stays past event call (makes_not past event call h)

    one : (r : Request) (segment : ℕ) →
        flat_map (λ (ask : Ask). scanned_by (event ∷ past) ask.unit) (filter (λ (ask : Ask). (ask.segment == segment) && is_counted (event ∷ past) r ask) (asks_of_call (event ∷ past) call))
        ≡ flat_map (λ (ask : Ask). scanned_by past ask.unit) (filter (λ (ask : Ask). (ask.segment == segment) && is_counted past r ask) (asks_of_call past call))
    one r segment =
        ap (λ asks. flat_map (λ (ask : Ask). scanned_by (event ∷ past) ask.unit) (filter (λ (ask : Ask). (ask.segment == segment) && is_counted (event ∷ past) r ask) asks)) (asks_stay past event call h)
        ∙ same_scanned past event r segment (asks_of_call past call) (leaves_asks past event call h)

    by_request : (found : Option Request) → evidence_by config (event ∷ past) call found ≡ evidence_by config past call found
    by_request None = refl
    by_request (Some r) = λ i. if is_walk r then taken_stay past event call h i else flat_map (λ segment. one r segment i) (range_with_len 0 config.segments)

module _ (config : Config) (past later : List Event) (call : ℕ) (same : TellsTheSame config past later call) where
  -- what is held stays held
  held_stays : EachHeld config past call (evidence config past call) → EachHeld config later call (evidence config later call)
  held_stays h =
      subst (EachHeld config later call) (sym same.evidence)
      (subst (λ s. AllByRecursion (λ (e : Entry). StoodOnce config s call e.key e.value) (evidence config past call)) (sym same.span) h)

  -- what is stable was stable
  stable_stays : (key : List ℕ) (datum : _) → Stable config later call key datum → Stable config past call key datum
  stable_stays key datum s = subst (λ x. StoodThroughout config x call key datum) same.span s

  -- what a guarantee says stays
  keeps_stays : (g : Guarantee) → Keeps g config past call → Keeps g config later call
  keeps_stays Exact h = record {
    stable = λ key datum s. ap (entry_times key datum) same.evidence ∙ h.stable key datum (stable_stays key datum s);
    once = λ key. subst (λ es. times key es ≤ 1) (sym same.evidence) (h.once key);
    held = held_stays h.held;
  }
  keeps_stays AtLeast h = record {
    stable = λ key datum s. subst (λ es. 1 ≤ entry_times key datum es) (sym same.evidence) (h.stable key datum (stable_stays key datum s));
    held = held_stays h.held;
    by_rounds = λ key. let a = h.by_rounds key in let b = ap (times key) same.evidence in let c = same.rounds in omega arith;
    by_moves = λ key. let a = h.by_moves key in let b = ap (times key) same.evidence in let c = ap (λ s. since_invoke is_move s call) same.span in omega arith;
  }
  keeps_stays AtMost h = record {
    once = λ key. subst (λ es. times key es ≤ 1) (sym same.evidence) (h.once key);
    held = held_stays h.held;
    ended = λ key datum segment is ended s. subst (λ es. 1 ≤ entry_times key datum es) (sym same.evidence) (h.ended key datum segment is (sym (same.ended segment) ∙ ended) (stable_stays key datum s));
  }

  -- what an outcome claims stays
  right_stays : (request : Request) (outcome : Outcome) → RightOutcome config past call request outcome → RightOutcome config later call request outcome
  right_stays request (outcomes.Value answer) h = record { plain = h.plain ∙ ap (pipe request.pipeline) (sym same.evidence); keeps = keeps_stays request.guarantee h.keeps }
  right_stays request outcomes.Ended h = record { plain = ap (λ x. values.List x) same.given ∙ h.plain ∙ ap (pipe request.pipeline) (sym same.evidence); keeps = keeps_stays request.guarantee h.keeps }
  right_stays request (outcomes.Again rounds suspect) h = tt
  right_stays request (outcomes.SegmentLost segment) h = tt
  right_stays request outcomes.OriginatorLeft h = tt

-- what is claimed of an answered call stays
pub claims_stay : (config : Config) (past : List Event) (st : State) (event : Event) (call : ℕ) (request : Request) (outcome : Outcome) → allowed st event ≡ true → NumberedFrom 1 st.calling.units → LinksKept past st → is_none (outcome_in past call) ≡ false →
    RightOutcome config past call request outcome → RightOutcome config (event ∷ past) call request outcome
claims_stay config past st event call request outcome may numbered links answered h =
    right_stays config past (event ∷ past) call (stays_told config past event call (answered_apart past st event call may numbered links answered) answered) request outcome h
