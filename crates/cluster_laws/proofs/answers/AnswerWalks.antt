-- What walks took and gave: each entry taken stood at some place since the call was made, the items given are what the pipeline
-- makes of the entries taken, with exactly once no key was taken twice, what was taken had landed, and what a unit read that isn't
-- lost was taken or flies.
use Rattle.std.proofs.Common.{◌≡◌, ℕ, ◌+◌, ◌≤◌, ◌==◌, Bool, true, false, cond, List, [], ◌∷◌, ◌++◌, map, Option, None, Some, is_none, refl, sym, ap, subst, ◌∙◌, arith}
use Rattle.std.proofs.lemmas.Bool.{eqb-true}
use Rattle.std.proofs.lemmas.List.{nil_from_length}
use Rattle.std.specs.FinMap as map_of
use Rattle.std.specs.List.{AllByRecursion}
use Rattle.std.specs.Option.{option_map}
use Rattle.grid_base.specs.declared.entry.Entry.{Entry}
use Rattle.grid_event.specs.Spans.{invoke_of, invokes}
use Rattle.grid_event.specs.declared.call_events.Ask.{Ask}
use Rattle.grid_event.specs.declared.call_events.RoundEvent.{RoundEvent}
use Rattle.grid_event.specs.declared.config.Config.{Config}
use Rattle.grid_event.specs.declared.event.Event.{Event}
use Rattle.grid_event.specs.declared.event.Event.TheVariants.{Depart, Invoke, Round, Take, Answer}
use Rattle.grid_event.specs.declared.request.Request.{Request}
use Rattle.local_publisher.specs.declared.unit_state.UnitState.{UnitState}
use Rattle.pipeline_eval.specs.Pipes.{ops_items, pipe_items}
use Rattle.pipeline_expr.specs.declared.op.Op.{Op}
use Rattle.pipeline_expr.specs.declared.op.Op.TheVariants as op
use Rattle.pipeline_expr.specs.declared.pipeline.Pipeline.{Pipeline}
use Rattle.topology_coord.specs.Coordination.{lost_segments}
use Rattle.cluster_model.proofs.Frames.{others_stay}
use Rattle.cluster_model.specs.Answers.{answered, with_outcome}
use Rattle.cluster_model.specs.Calls.{new_call, invoked, rounded, unit_made, with_round}
use Rattle.cluster_model.specs.Evidence.{StoodOnce, given_in, request_of, taken_in, times}
use Rattle.cluster_model.specs.State.{Call, State, Taken, Unit, call_of, is_exact, is_lost, is_of}
use Rattle.cluster_model.specs.Step.{allowed, changed}
use Rattle.cluster_model.specs.Topologies.{departed, lost_by_departure, notes_losses}
use Rattle.cluster_laws.proofs.answers.AnswerTakes.{FromSegment, landed, landed_by, landed_more}
use Rattle.cluster_laws.proofs.answers.AnswerUnits.{flight, once_later, request_stays, unit_quiet}
use Rattle.cluster_laws.proofs.units.CallLinks.{CallTold, CallsTold, IsKnown, asks_walk, call_each, call_put, none_told, walks_told}
use Rattle.cluster_laws.proofs.units.CallRequests.{CanAnswer, answer_facts}
use Rattle.cluster_laws.proofs.answers.AnswerLinks.{LinksKept}
use Rattle.cluster_laws.proofs.answers.EvidenceCounts.{EachStood, sum_of, times-append}
use Rattle.cluster_laws.proofs.Lists.{each-append, each_both, each_changed, each_imply}
use Rattle.cluster_laws.proofs.units.UnitCounts.{asked_stands, made_absent, made_anew, running_stands, standing_unlost}
use Rattle.cluster_laws.proofs.units.UnitEffects.{Effect, HasEffect, none_is, Stays, Loses, Begins, Scans, Fetches, Takes, Ends, same_call, unit_after, units_are, units_made}
use Rattle.cluster_laws.proofs.units.UnitFacts.{CanRound, round_facts}

-- what was taken by a call, and nothing where there is none
abbrev pub taken_of : Option Call → List Taken
taken_of None = []
taken_of (Some call) = call.taken

-- of a unit of a walk that isn't lost, each key that was read was taken by its call, or flies
abbrev pub Reaches : List Event → Unit → Type 0
Reaches past unit =
    asks_walk (request_of past unit.work.call) ≡ true → is_lost unit.work.state ≡ false → (key : List ℕ) →
    times key unit.work.entries ≤ times key (taken_in past unit.work.call) + times key (flight unit.flying)

-- what is kept of walks: what was taken stood, is of its segments, was given through the pipeline, once with exactly once, and no more than has landed
pub record WalksKept (config : Config) (past : List Event) (st : State) : Type 0 where
  pub held : (call : ℕ) → EachStood config past call (taken_in past call)
  pub segments : (call : ℕ) → AllByRecursion (FromSegment config) (taken_of (call_of st.calling call))
  pub plain : (call : ℕ) (request : Request) → request_of past call ≡ Some request → given_in past call ≡ pipe_items request.pipeline (taken_in past call)
  pub once : (call : ℕ) (request : Request) → request_of past call ≡ Some request → is_exact request.guarantee ≡ true → (key : List ℕ) → times key (taken_in past call) ≤ 1
  pub bound : (call : ℕ) (key : List ℕ) → times key (taken_in past call) ≤ landed_by key call st.calling.units
  pub reaches : AllByRecursion (Reaches past) st.calling.units

-- by a call that wasn't made nothing was taken and given
record Untouched (past : List Event) (call : ℕ) : Type 0 where
  pub taken : taken_in past call ≡ []
  pub given : given_in past call ≡ []

-- so it is where the events don't tell that a call was made
untouched : (past : List Event) (st : State) (call : ℕ) → CallsTold past st → is_none (invoke_of past call) ≡ true → Untouched past call
untouched past st call told none = by_found (call_of st.calling call) (told call) (sym (none_told past call (call_of st.calling call) (told call)) ∙ none)
  where
    by_found : (found : Option Call) → CallTold past call found → is_none found ≡ true → Untouched past call
    by_found None h e = record { taken = h.taken; given = nil_from_length (given_in past call) h.given }
    by_found (Some x) h e = absurd (cc)

-- a pipeline makes nothing of no entries
ops_nothing : (ops : List Op) → [] ≡ ops_items ops []
ops_nothing [] = refl
ops_nothing (op.Filter e ∷ ops) = ops_nothing ops
ops_nothing (op.Map e ∷ ops) = ops_nothing ops
ops_nothing (op.FlatMap spread ∷ ops) = ops_nothing ops
ops_nothing (op.Distinct ∷ ops) = ops_nothing ops

-- a pipeline makes nothing of no entries
nothing_made : (pipeline : Pipeline) → [] ≡ pipe_items pipeline []
nothing_made pipeline = ops_nothing pipeline.ops

-- the event takes a batch
abbrev pub is_take : Event → Bool
is_take (Take t) = true
is_take _ = false

-- the entries taken stay
same_taken : (past : List Event) (event : Event) (call : ℕ) → is_take event ≡ false → taken_in (event ∷ past) call ≡ taken_in past call
same_taken past (Take t) call h = absurd (cc)
same_taken past _ call h = refl

-- the items given stay
same_given : (past : List Event) (event : Event) (call : ℕ) → is_take event ≡ false → given_in (event ∷ past) call ≡ given_in past call
same_given past (Take t) call h = absurd (cc)
same_given past _ call h = refl

-- what was taken stays
taken_stays : (st : State) (event : Event) → allowed st event ≡ true → is_take event ≡ false → (call : ℕ) → taken_of (call_of (changed st event).calling call) ≡ taken_of (call_of st.calling call)
unfolding departed lost_by_departure invoked rounded answered
taken_stays st (Depart node) may h call = ap taken_of (call_each (notes_losses st.calling.units (lost_segments st.holding.coord node)) st.calling.calls call) ∙ by_found (call_of st.calling call)
  where
    by_found : (found : Option Call) → taken_of (option_map (notes_losses st.calling.units (lost_segments st.holding.coord node) call) found) ≡ taken_of found
    by_found None = refl
    by_found (Some x) = refl
taken_stays st (Invoke v) may h call = ap taken_of (call_put st.calling.calls v.call (new_call v.node v.request) call) ∙ by_test (v.call == call) refl
  where
    by_test : (b : Bool) → (v.call == call) ≡ b → taken_of (cond b (Some (new_call v.node v.request)) (call_of st.calling call)) ≡ taken_of (call_of st.calling call)
    by_test false t = refl
    by_test true t = sym (ap taken_of (none_is (call_of st.calling call) (made_absent st (Invoke v) call may t)))
taken_stays st (Round r) may h call =
    let found : (x : Call) × CanRound st r x = round_facts st r may in
    ap (λ o. taken_of (map_of.get (with_round st.calling r o) call)) found.1.there
    ∙ ap taken_of (call_put st.calling.calls r.call (record found.0 { rounds = found.0.rounds + 1; last_round = map (λ (ask : Ask). ask.unit) r.asks }) call)
    ∙ by_test found.0 found.1.there (r.call == call) refl
  where
    by_test : (x : Call) → call_of st.calling r.call ≡ Some x → (b : Bool) → (r.call == call) ≡ b → taken_of (cond b (Some (record x { rounds = x.rounds + 1; last_round = map (λ (ask : Ask). ask.unit) r.asks })) (call_of st.calling call)) ≡ taken_of (call_of st.calling call)
    by_test x there false t = refl
    by_test x there true t = sym (ap taken_of (ap (call_of st.calling) (sym (eqb-true r.call call t)) ∙ there))
taken_stays st (Take t) may h call = absurd (cc)
taken_stays st (Answer a) may h call =
    let found : (x : Call) × CanAnswer st a x = answer_facts st a may in
    ap (λ o. taken_of (map_of.get (with_outcome st.calling a o) call)) found.1.there
    ∙ ap taken_of (call_put st.calling.calls a.call (record found.0 { outcome = Some a.outcome }) call)
    ∙ by_test found.0 found.1.there (a.call == call) refl
  where
    by_test : (x : Call) → call_of st.calling a.call ≡ Some x → (b : Bool) → (a.call == call) ≡ b → taken_of (cond b (Some (record x { outcome = Some a.outcome })) (call_of st.calling call)) ≡ taken_of (call_of st.calling call)
    by_test x there false t = refl
    by_test x there true t = sym (ap taken_of (ap (call_of st.calling) (sym (eqb-true a.call call t)) ∙ there))
taken_stays st event may h call = ap (λ m. taken_of (map_of.get m call)) (others_stay.calls st event refl)

-- reaching, by what a unit has
abbrev ReachesBy : Bool → List Entry → List Entry → Option (List Entry) → UnitState → Type 0
ReachesBy walk taken entries flying stage = walk ≡ true → is_lost stage ≡ false → (key : List ℕ) → times key entries ≤ times key taken + times key (flight flying)

-- but for a take, an event leaves what a unit reaches
effect_reaches : (past : List Event) (st : State) (event : Event) (before later : Unit) → Effect st event before later → is_take event ≡ false → CallsTold past st →
    ReachesBy (asks_walk (request_of past before.work.call)) (taken_in past before.work.call) before.work.entries before.flying before.work.state →
    ReachesBy (asks_walk (request_of past before.work.call)) (taken_in past before.work.call) later.work.entries later.flying later.work.state
effect_reaches past st event before later (Stays e d) still told h = subst (λ (u : Unit). ReachesBy (asks_walk (request_of past before.work.call)) (taken_in past before.work.call) u.work.entries u.flying u.work.state) (sym e) h
effect_reaches past st event before later (Loses at e o m) still told h =
    subst (λ (u : Unit). ReachesBy (asks_walk (request_of past before.work.call)) (taken_in past before.work.call) u.work.entries u.flying u.work.state) (sym e) (λ w l. absurd (cc))
effect_reaches past st event before later (Begins runs x e m) still told h =
    subst (λ (u : Unit). ReachesBy (asks_walk (request_of past before.work.call)) (taken_in past before.work.call) u.work.entries u.flying u.work.state) (sym e) (λ w l. h w (standing_unlost before.work.state (asked_stands before.work.state m.asked)))
effect_reaches past st event before later (Scans s x n e m) still told h =
    subst (λ (u : Unit). ReachesBy (asks_walk (request_of past before.work.call)) (taken_in past before.work.call) u.work.entries u.flying u.work.state) (sym e) (λ w l. let form = m.form ∙ walks_told past st before.work.call told in absurd (cc))
effect_reaches past st event before later (Fetches f x n e m) still told h =
    subst (λ (u : Unit). ReachesBy (asks_walk (request_of past before.work.call)) (taken_in past before.work.call) u.work.entries u.flying u.work.state) (sym e)
    (λ w l key.
    let a = times-append key before.work.entries f.batch.entries in
    let b = h w l key in
    let c = ap (λ o. times key (flight o)) m.landed in omega arith)
effect_reaches past st event before later (Takes t x n e) still told h = let taking = ap is_take x in absurd (cc)
effect_reaches past st event before later (Ends x e m) still told h =
    subst (λ (u : Unit). ReachesBy (asks_walk (request_of past before.work.call)) (taken_in past before.work.call) u.work.entries u.flying u.work.state) (sym e) (λ w l. h w (standing_unlost before.work.state (running_stands before.work.state m.running)))

-- what has landed of a unit has landed
effect_landed : (st : State) (event : Event) (before later : Unit) (key : List ℕ) → Effect st event before later → landed key before ≤ landed key later
effect_landed st event before later key (Stays e d) = subst (λ u. landed key before ≤ landed key u) (sym e) (omega arith)
effect_landed st event before later key (Loses at e o m) = subst (λ u. landed key before ≤ landed key u) (sym e) (omega arith)
effect_landed st event before later key (Begins runs x e m) = subst (λ u. landed key before ≤ landed key u) (sym e) (omega arith)
effect_landed st event before later key (Scans s x n e m) = subst (λ u. landed key before ≤ landed key u) (sym e) (let a = times-append key before.work.entries s.batch.entries in omega arith)
effect_landed st event before later key (Fetches f x n e m) =
    subst (λ u. landed key before ≤ landed key u) (sym e) (let a = times-append key before.work.entries f.batch.entries in let c = ap (λ o. times key (flight o)) m.landed in omega arith)
effect_landed st event before later key (Takes t x n e) = subst (λ u. landed key before ≤ landed key u) (sym e) (omega arith)
effect_landed st event before later key (Ends x e m) = subst (λ u. landed key before ≤ landed key u) (sym e) (omega arith)

-- a sum over two lists together
sum-append : (f : Unit → ℕ) (test : Unit → Bool) (xs ys : List Unit) → sum_of f test (xs ++ ys) ≡ sum_of f test xs + sum_of f test ys
sum-append f test [] ys = omega arith
sum-append f test (x ∷ xs) ys = let h = sum-append f test xs ys in omega arith

-- no unit of a round has read anything
asked_reaches : (past : List Event) (r : RoundEvent) (asks : List Ask) → AllByRecursion (Reaches past) (map (unit_made r.call r.id) asks)
asked_reaches past r [] = tt
asked_reaches past r (ask ∷ asks) = ((λ w l key. omega arith), asked_reaches past r asks)

-- nor has a unit that an event makes
made_reaches : (past : List Event) (event : Event) → AllByRecursion (Reaches (event ∷ past)) (units_made event)
made_reaches past (Round r) = asked_reaches (Round r ∷ past) r r.asks
made_reaches past _ = tt

-- an event that takes nothing keeps what is known of walks
pub still_kept : (config : Config) (past : List Event) (st : State) (event : Event) → allowed st event ≡ true → is_take event ≡ false → LinksKept past st → AllByRecursion (HasEffect st event) st.calling.units → WalksKept config past st → WalksKept config (event ∷ past) (changed st event)
still_kept config past st event may still links effects h = record { held = held; segments = segments; plain = plain; once = once; bound = bound; reaches = reaches }
  where
    anew : (call : ℕ) → invokes call event ≡ true → Untouched past call
    anew call i = untouched past st call links.calls (made_anew past st event call may links.calls i)

    held : (call : ℕ) → EachStood config (event ∷ past) call (taken_in (event ∷ past) call)
    held call = subst (EachStood config (event ∷ past) call) (sym (same_taken past event call still)) (by_invoke (invokes call event) refl)
      where
        by_invoke : (b : Bool) → invokes call event ≡ b → EachStood config (event ∷ past) call (taken_in past call)
        by_invoke true i = subst (EachStood config (event ∷ past) call) (sym (anew call i).taken) tt
        by_invoke false i =
            each_imply (λ (e : Entry). StoodOnce config past call e.key e.value) (λ (e : Entry). StoodOnce config (event ∷ past) call e.key e.value) (λ e s. once_later config past event call e.key e.value i s) (taken_in past call) (h.held call)

    segments : (call : ℕ) → AllByRecursion (FromSegment config) (taken_of (call_of (changed st event).calling call))
    segments call = subst (AllByRecursion (FromSegment config)) (sym (taken_stays st event may still call)) (h.segments call)

    plain : (call : ℕ) (request : Request) → request_of (event ∷ past) call ≡ Some request → given_in (event ∷ past) call ≡ pipe_items request.pipeline (taken_in (event ∷ past) call)
    plain call request asked = same_given past event call still ∙ by_invoke (invokes call event) refl ∙ ap (pipe_items request.pipeline) (sym (same_taken past event call still))
      where
        by_invoke : (b : Bool) → invokes call event ≡ b → given_in past call ≡ pipe_items request.pipeline (taken_in past call)
        by_invoke true i = (anew call i).given ∙ nothing_made request.pipeline ∙ ap (pipe_items request.pipeline) (sym (anew call i).taken)
        by_invoke false i = h.plain call request (sym (request_stays past event call i) ∙ asked)

    once : (call : ℕ) (request : Request) → request_of (event ∷ past) call ≡ Some request → is_exact request.guarantee ≡ true → (key : List ℕ) → times key (taken_in (event ∷ past) call) ≤ 1
    once call request asked exact key = subst (λ es. times key es ≤ 1) (sym (same_taken past event call still)) (by_invoke (invokes call event) refl)
      where
        by_invoke : (b : Bool) → invokes call event ≡ b → times key (taken_in past call) ≤ 1
        by_invoke true i = subst (λ es. times key es ≤ 1) (sym (anew call i).taken) (omega arith)
        by_invoke false i = h.once call request (sym (request_stays past event call i) ∙ asked) exact key

    bound : (call : ℕ) (key : List ℕ) → times key (taken_in (event ∷ past) call) ≤ landed_by key call (changed st event).calling.units
    bound call key =
        let a = ap (times key) (same_taken past event call still) in
        let b = h.bound call key in
        let c = landed_more key call (unit_after st event) st.calling.units
        (each_imply (HasEffect st event) (λ unit. ((unit_after st event unit).work.call ≡ unit.work.call) × (landed key unit ≤ landed key (unit_after st event unit)))
        (λ unit f. (same_call st event unit (unit_after st event unit) f, effect_landed st event unit (unit_after st event unit) key f)) st.calling.units effects) in
        let d = ap (landed_by key call) (units_are st event) in
        let e = sum-append (landed key) (is_of call) (map (unit_after st event) st.calling.units) (units_made event) in
        omega arith

    reaches : AllByRecursion (Reaches (event ∷ past)) (changed st event).calling.units
    reaches =
        subst (AllByRecursion (Reaches (event ∷ past))) (sym (units_are st event))
        (each-append (Reaches (event ∷ past)) (map (unit_after st event) st.calling.units) (units_made event)
        (each_changed (λ unit. IsKnown past unit × Reaches past unit) (HasEffect st event) (Reaches (event ∷ past)) (unit_after st event) one st.calling.units
        (each_both (IsKnown past) (Reaches past) (λ unit. IsKnown past unit × Reaches past unit) (λ unit a b. (a, b)) st.calling.units links.known h.reaches) effects)
        (made_reaches past event))
      where
        one : (unit : Unit) → IsKnown past unit × Reaches past unit → HasEffect st event unit → Reaches (event ∷ past) (unit_after st event unit)
        one unit k f =
            let later = unit_after st event unit in
            subst (λ n. ReachesBy (asks_walk (request_of (event ∷ past) n)) (taken_in (event ∷ past) n) later.work.entries later.flying later.work.state) (sym (same_call st event unit later f))
            (subst (λ r. ReachesBy (asks_walk r) (taken_in (event ∷ past) unit.work.call) later.work.entries later.flying later.work.state) (sym (request_stays past event unit.work.call (unit_quiet past st event may links.calls unit k.0)))
            (subst (λ es. ReachesBy (asks_walk (request_of past unit.work.call)) es later.work.entries later.flying later.work.state) (sym (same_taken past event unit.work.call still))
            (effect_reaches past st event unit later f still links.calls k.1)))
