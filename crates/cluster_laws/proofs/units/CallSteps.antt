-- Each event keeps that what the events tell of calls and of their units is what the cluster has.
use Rattle.std.proofs.Common.{◌≡◌, ℕ, ◌+◌, ◌==◌, Bool, true, false, ◌&&◌, cond, if◌then◌else◌, List, [], ◌∷◌, ◌++◌, map, length, length-append, append-nil, Option, None, Some, is_none, refl, sym, ap, subst, ◌∙◌, arith}
use Rattle.std.proofs.lemmas.Bool.{and_parts, eqb-true}
use Rattle.std.proofs.lemmas.List.{map-append}
use Rattle.std.proofs.lemmas.List.Elements.{filter-append}
use Rattle.std.specs.FinMap as map_of
use Rattle.std.specs.List.{filter}
use Rattle.std.specs.Option.{option_map}
use Rattle.grid_base.specs.declared.entry.Entry.{Entry}
use Rattle.grid_event.specs.Spans.{invoke_of, outcome_in}
use Rattle.grid_event.specs.Taking.{Taking}
use Rattle.grid_event.specs.UnitHistories.{asks_of_call}
use Rattle.grid_event.specs.declared.call_events.AnswerEvent.{AnswerEvent}
use Rattle.grid_event.specs.declared.call_events.Ask.{Ask}
use Rattle.grid_event.specs.declared.call_events.InvokeEvent.{InvokeEvent}
use Rattle.grid_event.specs.declared.call_events.RoundEvent.{RoundEvent}
use Rattle.grid_event.specs.declared.event.Event.{Event}
use Rattle.grid_event.specs.declared.event.Event.TheVariants.{Write, Erase, Tick, Join, Depart, Announce, Install, Copy, Land, Invoke, Round, Begin, Scan, Fetch, Take, Done, Answer}
use Rattle.local_publisher.specs.Units.{ended, extended}
use Rattle.topology_coord.specs.Coordination.{lives, lost_segments}
use Rattle.cluster_model.proofs.Frames.{others_stay, units_stays}
use Rattle.cluster_model.specs.Answers.{answered, with_outcome}
use Rattle.cluster_model.specs.Calls.{can_invoke, new_call, invoked, rounded, unit_made, with_round}
use Rattle.cluster_model.specs.Evidence.{given_in, taken_in}
use Rattle.cluster_model.specs.Guarantees.{rounds_in}
use Rattle.cluster_model.specs.State.{Call, State, Taken, Unit, call_of, is_of, is_open_unit, with_loss}
use Rattle.cluster_model.specs.Step.{allowed, changed}
use Rattle.cluster_model.specs.Topologies.{ceases, departed, installed, lost_by_departure, lost_by_installation, notes_losses}
use Rattle.cluster_model.specs.Units.{begun_unit, call_of_unit, ended_unit, fetched, scanned, taken_by, taken_entries, with_begin, with_taking}
use Rattle.cluster_laws.proofs.units.CallLinks.{AsksTold, CallIs, CallTold, CallsTold, ask_of, call_each, call_put, unit_told}
use Rattle.cluster_laws.proofs.units.CallRequests.{CanAnswer, CanTake, answer_facts, take_facts}
use Rattle.cluster_laws.proofs.Numbers.{NumberedFrom}
use Rattle.cluster_laws.proofs.units.UnitFacts.{CanRound, round_facts}

-- ---- calls

-- an event that leaves calls, and of which nothing is told of them
same_calls : (past : List Event) (st : State) (event : Event) → (changed st event).calling.calls ≡ st.calling.calls → ((call : ℕ) → CallTold (event ∷ past) call (call_of st.calling call)) → CallsTold (event ∷ past) (changed st event)
same_calls past st event e h = subst (λ (m : _). (call : ℕ) → CallTold (event ∷ past) call (map_of.get m call)) (sym e) h

-- what is none is None
none_is : {A : Type 0} (o : Option A) → is_none o ≡ true → o ≡ None
none_is None h = refl
none_is (Some x) h = absurd (cc)

-- a call is made that wasn't there
invoked_told : (past : List Event) (st : State) (i : InvokeEvent) → can_invoke st i ≡ true → CallsTold past st → CallsTold (Invoke i ∷ past) (changed st (Invoke i))
unfolding can_invoke invoked
invoked_told past st i can h call =
    subst (CallTold (Invoke i ∷ past) call) (sym (call_put st.calling.calls i.call (new_call i.node i.request) call)) (by_test (i.call == call) refl)
  where
    absent : (i.call == call) ≡ true → call_of st.calling call ≡ None
    absent t =
        let p = and_parts (lives st.holding.coord i.node) _ can in
        let q : (is_none (call_of st.calling i.call) ≡ true) × _ = and_parts (is_none (call_of st.calling i.call)) _ p.1 in
        ap (call_of st.calling) (sym (eqb-true i.call call t)) ∙ none_is (call_of st.calling i.call) q.0

    by_test : (b : Bool) → (i.call == call) ≡ b →
        CallIs (if b then Some i else invoke_of past call) (rounds_in past call) (outcome_in past call) (taken_in past call) (given_in past call) (cond b (Some (new_call i.node i.request)) (call_of st.calling call))
    by_test true t =
        let told : CallTold past call None = subst (CallTold past call) (absent t) (h call) in
        record { request = refl; originator = refl; rounds = told.rounds; outcome = told.outcome; taken = told.taken; given = told.given }
    by_test false t = h call

-- a round is made
rounded_told : (past : List Event) (st : State) (r : RoundEvent) (found : Call) → call_of st.calling r.call ≡ Some found → CallsTold past st → CallsTold (Round r ∷ past) (changed st (Round r))
unfolding rounded
rounded_told past st r found there h call =
    subst (λ (o : Option Call). CallTold (Round r ∷ past) call (map_of.get (with_round st.calling r o) call)) (sym there)
    (subst (CallTold (Round r ∷ past) call)
    (sym (call_put st.calling.calls r.call (record found { rounds = found.rounds + 1; last_round = map (λ (ask : Ask). ask.unit) r.asks }) call)) (by_test (r.call == call) refl))
  where
    by_test : (b : Bool) → (r.call == call) ≡ b →
        CallIs (invoke_of past call) ((if b then 1 else 0) + rounds_in past call) (outcome_in past call) (taken_in past call) (given_in past call)
        (cond b (Some (record found { rounds = found.rounds + 1; last_round = map (λ (ask : Ask). ask.unit) r.asks })) (call_of st.calling call))
    by_test true t =
        let told : CallTold past call (Some found) = subst (CallTold past call) (ap (call_of st.calling) (sym (eqb-true r.call call t)) ∙ there) (h call) in
        record { request = told.request; originator = told.originator; rounds = (let e = told.rounds in omega arith); outcome = told.outcome; taken = told.taken; given = told.given }
    by_test false t = let told = h call in record { request = told.request; originator = told.originator; rounds = (let e = told.rounds in omega arith); outcome = told.outcome; taken = told.taken; given = told.given }

-- the entries of what is taken from a segment
taken_again : (segment : ℕ) (entries : List Entry) → map (λ (t : Taken). t.entry_of) (map (λ (e : Entry). record { segment = segment; entry_of = e }) entries) ≡ entries
taken_again segment [] = refl
taken_again segment (e ∷ es) = ap (λ rest. e ∷ rest) (taken_again segment es)

-- entries taken behind others
taken-append : (call : Call) (segment : ℕ) (entries : List Entry) →
    map (λ (t : Taken). t.entry_of) (call.taken ++ map (λ (e : Entry). record { segment = segment; entry_of = e }) entries) ≡ taken_entries call ++ entries
taken-append call segment entries = map-append (λ (t : Taken). t.entry_of) call.taken (map (λ (e : Entry). record { segment = segment; entry_of = e }) entries) ∙ ap (λ es. taken_entries call ++ es) (taken_again segment entries)

-- a batch is taken
taken_told : (past : List Event) (st : State) (t : Taking) (unit : Unit) (found : Call) (batch : List Entry) → CanTake st t unit found batch → NumberedFrom 1 st.calling.units → AsksTold past st.calling.units → CallsTold past st →
    CallsTold (Take t ∷ past) (changed st (Take t))
unfolding taken_by
taken_told past st t unit found batch can numbered asks h call =
    subst (λ (u : Option Unit). CallTold (Take t ∷ past) call (map_of.get (with_taking st.calling t u (call_of_unit st.calling u)) call)) (sym can.found)
    (subst (λ (o : Option Call). CallTold (Take t ∷ past) call (map_of.get (with_taking st.calling t (Some unit) o) call)) (sym can.there)
    (subst (CallTold (Take t ∷ past) call) (sym (call_put st.calling.calls unit.work.call further call))
    (subst (λ b. CallIs (invoke_of past call) (rounds_in past call) (outcome_in past call) (if b then taken_in past call ++ t.entries else taken_in past call) (if b then given_in past call ++ t.given else given_in past call) (cond (unit.work.call == call) (Some further) (call_of st.calling call)))
    (sym (unit_told past st call t.unit unit numbered asks can.found)) (by_test (unit.work.call == call) refl))))
  where
    further : Call
    further = record found {
      taken = found.taken ++ map (λ (e : Entry). record { segment = unit.work.segment; entry_of = e }) t.entries;
      given = found.given + length t.given;
    }

    by_test : (b : Bool) → (unit.work.call == call) ≡ b →
        CallIs (invoke_of past call) (rounds_in past call) (outcome_in past call) (if b then taken_in past call ++ t.entries else taken_in past call) (if b then given_in past call ++ t.given else given_in past call)
        (cond b (Some further) (call_of st.calling call))
    by_test true e =
        let told : CallTold past call (Some found) = subst (CallTold past call) (ap (call_of st.calling) (sym (eqb-true unit.work.call call e)) ∙ can.there) (h call) in
        record {
          request = told.request;
          originator = told.originator;
          rounds = told.rounds;
          outcome = told.outcome;
          taken = ap (λ es. es ++ t.entries) told.taken ∙ sym (taken-append found unit.work.segment t.entries);
          given = (let l = length-append (given_in past call) t.given in let g = told.given in omega arith);
        }
    by_test false e = h call

-- a call is answered
answered_told : (past : List Event) (st : State) (a : AnswerEvent) (found : Call) → call_of st.calling a.call ≡ Some found → CallsTold past st → CallsTold (Answer a ∷ past) (changed st (Answer a))
unfolding answered
answered_told past st a found there h call =
    subst (λ (o : Option Call). CallTold (Answer a ∷ past) call (map_of.get (with_outcome st.calling a o) call)) (sym there)
    (subst (CallTold (Answer a ∷ past) call) (sym (call_put st.calling.calls a.call (record found { outcome = Some a.outcome }) call)) (by_test (a.call == call) refl))
  where
    by_test : (b : Bool) → (a.call == call) ≡ b →
        CallIs (invoke_of past call) (rounds_in past call) (if b then Some a.outcome else outcome_in past call) (taken_in past call) (given_in past call) (cond b (Some (record found { outcome = Some a.outcome })) (call_of st.calling call))
    by_test true t =
        let told : CallTold past call (Some found) = subst (CallTold past call) (ap (call_of st.calling) (sym (eqb-true a.call call t)) ∙ there) (h call) in
        record { request = told.request; originator = told.originator; rounds = told.rounds; outcome = refl; taken = told.taken; given = told.given }
    by_test false t = h call

-- a departure notes losses alone
departed_told : (past : List Event) (st : State) (node : ℕ) → CallsTold past st → CallsTold (Depart node ∷ past) (changed st (Depart node))
unfolding departed lost_by_departure
departed_told past st node h call =
    subst (CallTold (Depart node ∷ past) call) (sym (call_each (notes_losses st.calling.units (lost_segments st.holding.coord node)) st.calling.calls call)) (by_found (call_of st.calling call) (h call))
  where
    by_found : (found : Option Call) → CallTold past call found → CallTold past call (option_map (notes_losses st.calling.units (lost_segments st.holding.coord node) call) found)
    by_found None told = told
    by_found (Some found) told = record { request = told.request; originator = told.originator; rounds = told.rounds; outcome = told.outcome; taken = told.taken; given = told.given }

-- every event that may happen leaves calls told
pub calls_told : (past : List Event) (st : State) (event : Event) → allowed st event ≡ true → NumberedFrom 1 st.calling.units → AsksTold past st.calling.units → CallsTold past st → CallsTold (event ∷ past) (changed st event)
calls_told past st (Write w) may n asks h = same_calls past st (Write w) (others_stay.calls st (Write w) refl) h
calls_told past st (Erase e) may n asks h = same_calls past st (Erase e) (others_stay.calls st (Erase e) refl) h
calls_told past st (Tick ticks) may n asks h = same_calls past st (Tick ticks) (others_stay.calls st (Tick ticks) refl) h
calls_told past st (Join node) may n asks h = same_calls past st (Join node) (others_stay.calls st (Join node) refl) h
calls_told past st (Depart node) may n asks h = departed_told past st node h
calls_told past st (Announce topology) may n asks h = same_calls past st (Announce topology) (others_stay.calls st (Announce topology) refl) h
calls_told past st (Install node id) may n asks h = same_calls past st (Install node id) (others_stay.calls st (Install node id) refl) h
calls_told past st (Copy c) may n asks h = same_calls past st (Copy c) (others_stay.calls st (Copy c) refl) h
calls_told past st (Land receiver segment) may n asks h = same_calls past st (Land receiver segment) (others_stay.calls st (Land receiver segment) refl) h
calls_told past st (Invoke i) may n asks h = invoked_told past st i may h
calls_told past st (Round r) may n asks h = let found : (call : Call) × CanRound st r call = round_facts st r may in rounded_told past st r found.0 found.1.there h
calls_told past st (Begin unit runs) may n asks h = same_calls past st (Begin unit runs) (others_stay.calls st (Begin unit runs) refl) h
calls_told past st (Scan s) may n asks h = same_calls past st (Scan s) (others_stay.calls st (Scan s) refl) h
calls_told past st (Fetch f) may n asks h = same_calls past st (Fetch f) (others_stay.calls st (Fetch f) refl) h
calls_told past st (Take t) may n asks h = let facts = take_facts st t may in taken_told past st t facts.0 facts.1.0 facts.1.1.0 facts.1.1.1 n asks h
calls_told past st (Done unit) may n asks h = same_calls past st (Done unit) (others_stay.calls st (Done unit) refl) h
calls_told past st (Answer a) may n asks h = let found : (call : Call) × CanAnswer st a call = answer_facts st a may in answered_told past st a found.0 found.1.there h

-- ---- units

-- a change of units that leaves who asked for them
asks_changed : (change : Unit → Unit) → ((unit : Unit) → ask_of (change unit) ≡ ask_of unit) → ((unit : Unit) → (change unit).work.call ≡ unit.work.call) → (call : ℕ) (units : List Unit) →
    map ask_of (filter (is_of call) (map change units)) ≡ map ask_of (filter (is_of call) units)
asks_changed change a c call [] = refl
asks_changed change a c call (unit ∷ units) =
    ap (λ (n : ℕ). map ask_of (if n == call then change unit ∷ filter (is_of call) (map change units) else filter (is_of call) (map change units))) (c unit)
    ∙ by_call (is_of call unit) (asks_changed change a c call units)
  where
    by_call : (b : Bool) → map ask_of (filter (is_of call) (map change units)) ≡ map ask_of (filter (is_of call) units) →
        map ask_of (if b then change unit ∷ filter (is_of call) (map change units) else filter (is_of call) (map change units)) ≡ map ask_of (if b then unit ∷ filter (is_of call) units else filter (is_of call) units)
    by_call true h = λ i. a unit i ∷ h i
    by_call false h = h

-- a change of units that leaves their asks and calls leaves asks told
asks_same : (past : List Event) (change : Unit → Unit) (units : List Unit) → ((unit : Unit) → ask_of (change unit) ≡ ask_of unit) → ((unit : Unit) → (change unit).work.call ≡ unit.work.call) → AsksTold past units → AsksTold past (map change units)
asks_same past change units a c h call = h call ∙ sym (asks_changed change a c call units)

-- a change of the units that pass a test
either_ask : (test : Unit → Bool) (change : Unit → Unit) → ((unit : Unit) → ask_of (change unit) ≡ ask_of unit) → (unit : Unit) → ask_of (cond (test unit) (change unit) unit) ≡ ask_of unit
either_ask test change a unit = by_test (test unit)
  where
    by_test : (b : Bool) → ask_of (cond b (change unit) unit) ≡ ask_of unit
    by_test true = a unit
    by_test false = refl

-- a change of units that pass a test leaves the call of each
either_call : (test : Unit → Bool) (change : Unit → Unit) → ((unit : Unit) → (change unit).work.call ≡ unit.work.call) → (unit : Unit) → (cond (test unit) (change unit) unit).work.call ≡ unit.work.call
either_call test change c unit = by_test (test unit)
  where
    by_test : (b : Bool) → (cond b (change unit) unit).work.call ≡ unit.work.call
    by_test true = c unit
    by_test false = refl

-- so such a change leaves asks told
asks_tested : (past : List Event) (test : Unit → Bool) (change : Unit → Unit) (units : List Unit) → ((unit : Unit) → ask_of (change unit) ≡ ask_of unit) → ((unit : Unit) → (change unit).work.call ≡ unit.work.call) →
    AsksTold past units → AsksTold past (map (λ unit. cond (test unit) (change unit) unit) units)
asks_tested past test change units a c h = asks_same past (λ unit. cond (test unit) (change unit) unit) units (either_ask test change a) (either_call test change c) h

-- what a round asks for are its call's units
asked_again : (r : RoundEvent) (asks : List Ask) → map ask_of (map (unit_made r.call r.id) asks) ≡ asks
asked_again r [] = refl
asked_again r (ask ∷ asks) = ap (λ rest. ask ∷ rest) (asked_again r asks)

-- the units that a round makes for a call have its asks, and those for another call none
asked_of : (r : RoundEvent) (call : ℕ) (b : Bool) → (r.call == call) ≡ b → (asks : List Ask) → map ask_of (filter (is_of call) (map (unit_made r.call r.id) asks)) ≡ (if b then asks else [])
asked_of r call true e [] = refl
asked_of r call false e [] = refl
asked_of r call true e (ask ∷ asks) =
    ap (λ b. map ask_of (if b then unit_made r.call r.id ask ∷ filter (is_of call) (map (unit_made r.call r.id) asks) else filter (is_of call) (map (unit_made r.call r.id) asks))) e
    ∙ ap (λ rest. ask ∷ rest) (asked_of r call true e asks)
asked_of r call false e (ask ∷ asks) =
    ap (λ b. map ask_of (if b then unit_made r.call r.id ask ∷ filter (is_of call) (map (unit_made r.call r.id) asks) else filter (is_of call) (map (unit_made r.call r.id) asks))) e
    ∙ asked_of r call false e asks

-- after a round asks are told
rounded_asks : (past : List Event) (st : State) (r : RoundEvent) → AsksTold past st.calling.units → AsksTold (Round r ∷ past) (rounded st.calling r).units
unfolding rounded
rounded_asks past st r h call =
    by_call (r.call == call)
    ∙ (λ i. h call i ++ sym (asked_of r call (r.call == call) refl r.asks) i)
    ∙ sym (map-append ask_of (filter (is_of call) st.calling.units) (filter (is_of call) (map (unit_made r.call r.id) r.asks)))
    ∙ ap (map ask_of) (sym (filter-append (is_of call) st.calling.units (map (unit_made r.call r.id) r.asks)))
  where
    by_call : (b : Bool) → (if b then asks_of_call past call ++ r.asks else asks_of_call past call) ≡ asks_of_call past call ++ (if b then r.asks else [])
    by_call true = refl
    by_call false = sym (append-nil (asks_of_call past call))

-- every event that may happen leaves asks told
pub asks_told : (past : List Event) (st : State) (event : Event) → AsksTold past st.calling.units → AsksTold (event ∷ past) (changed st event).calling.units
unfolding departed lost_by_departure installed lost_by_installation begun_unit scanned fetched taken_by ended_unit
asks_told past st (Write w) h = subst (AsksTold (Write w ∷ past)) (sym (units_stays st (Write w) refl)) h
asks_told past st (Erase e) h = subst (AsksTold (Erase e ∷ past)) (sym (units_stays st (Erase e) refl)) h
asks_told past st (Tick ticks) h = subst (AsksTold (Tick ticks ∷ past)) (sym (units_stays st (Tick ticks) refl)) h
asks_told past st (Join node) h = subst (AsksTold (Join node ∷ past)) (sym (units_stays st (Join node) refl)) h
asks_told past st (Depart node) h = asks_tested (Depart node ∷ past) (λ unit. is_open_unit unit && (unit.work.node == node)) (with_loss None) st.calling.units (λ unit. refl) (λ unit. refl) h
asks_told past st (Announce topology) h = subst (AsksTold (Announce topology ∷ past)) (sym (units_stays st (Announce topology) refl)) h
asks_told past st (Install node id) h = asks_tested (Install node id ∷ past) (ceases st.holding.coord.newest node) (with_loss (Some id)) st.calling.units (λ unit. refl) (λ unit. refl) h
asks_told past st (Copy c) h = subst (AsksTold (Copy c ∷ past)) (sym (units_stays st (Copy c) refl)) h
asks_told past st (Land receiver segment) h = subst (AsksTold (Land receiver segment ∷ past)) (sym (units_stays st (Land receiver segment) refl)) h
asks_told past st (Invoke i) h = subst (AsksTold (Invoke i ∷ past)) (sym (units_stays st (Invoke i) refl)) h
asks_told past st (Round r) h = rounded_asks past st r h
asks_told past st (Begin number runs) h = asks_tested (Begin number runs ∷ past) (λ unit. unit.work.id == number) (with_begin st.holding runs) st.calling.units (λ unit. refl) (λ unit. refl) h
asks_told past st (Scan s) h = asks_tested (Scan s ∷ past) (λ unit. unit.work.id == s.unit) (λ unit. record unit { work = extended unit.work s.batch }) st.calling.units (λ unit. refl) (λ unit. refl) h
asks_told past st (Fetch f) h = asks_tested (Fetch f ∷ past) (λ unit. unit.work.id == f.unit) (λ unit. record { work = extended unit.work f.batch; flying = Some f.batch.entries }) st.calling.units (λ unit. refl) (λ unit. refl) h
asks_told past st (Take t) h = asks_tested (Take t ∷ past) (λ unit. unit.work.id == t.unit) (λ unit. record unit { flying = None }) st.calling.units (λ unit. refl) (λ unit. refl) h
asks_told past st (Done number) h = asks_tested (Done number ∷ past) (λ unit. unit.work.id == number) (λ unit. record unit { work = ended unit.work }) st.calling.units (λ unit. refl) (λ unit. refl) h
asks_told past st (Answer a) h = subst (AsksTold (Answer a ∷ past)) (sym (units_stays st (Answer a) refl)) h
