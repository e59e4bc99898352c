-- Which units the rounds of a call asked for, and at which topology; and what holds of each ask where it holds of each unit.
use Rattle.std.proofs.Common.{◌≡◌, ℕ, ◌==◌, Bool, true, false, not, ◌&&◌, ◌||◌, cond, if◌then◌else◌, List, [], ◌∷◌, ◌++◌, map, append-nil, append_assoc, None, Some, refl, sym, ap, ◌∙◌, subst}
use Rattle.std.proofs.lemmas.List.{map-append}
use Rattle.std.proofs.lemmas.List.Elements.{filter-append}
use Rattle.std.specs.List.{AllByRecursion, filter, list_all, list_any}
use Rattle.grid_event.specs.UnitHistories.{is_closed}
use Rattle.grid_event.specs.declared.call_events.Ask.{Ask}
use Rattle.grid_event.specs.declared.call_events.RoundEvent.{RoundEvent}
use Rattle.grid_event.specs.declared.config.Config.{Config}
use Rattle.grid_event.specs.declared.event.Event.{Event}
use Rattle.grid_event.specs.declared.event.Event.TheVariants.{Write, Erase, Tick, Join, Depart, Announce, Install, Copy, Land, Invoke, Round, Begin, Scan, Fetch, Take, Done, Answer}
use Rattle.local_publisher.specs.Stages.{is_open}
use Rattle.local_publisher.specs.Units.{ended, extended}
use Rattle.local_publisher.specs.declared.unit_state.UnitState.{UnitState}
use Rattle.local_publisher.specs.declared.unit_state.UnitState.TheVariants.{Asked, Running, Refused, Lost, Ended}
use Rattle.cluster_model.proofs.Frames.{units_stays}
use Rattle.cluster_model.specs.Calls.{has_open, rounded, unit_made}
use Rattle.cluster_model.specs.Causes.{all_closed, failed, rounds_of}
use Rattle.cluster_model.specs.Laws.{moves_units}
use Rattle.cluster_model.specs.State.{State, Unit, is_ended, is_lost, is_of, is_open_unit, with_loss}
use Rattle.cluster_model.specs.Step.{changed}
use Rattle.cluster_model.specs.Topologies.{ceases, departed, installed, lost_by_departure, lost_by_installation}
use Rattle.cluster_model.specs.Units.{begun_unit, ended_unit, fetched, scanned, taken_by, with_begin}
use Rattle.cluster_laws.proofs.units.CallLinks.{AsksTold}
use Rattle.cluster_laws.proofs.units.StageSteps.{StageKept}
use Rattle.cluster_laws.specs.Laws.{ask_of, is_refused}

-- what asked for a unit, and at which topology
abbrev pub dated : Unit → Ask × ℕ
dated unit = (ask_of unit, unit.work.asked_at)

-- the asks of some rounds in order, each with the topology of its round
abbrev pub dates : List RoundEvent → List (Ask × ℕ)
dates [] = []
dates (r ∷ rounds) = map (λ (a : Ask). (a, r.id)) r.asks ++ dates rounds

-- the units of a call are those that its rounds asked for, each at the topology of its round
abbrev pub DatesTold : List Event → List Unit → Type 0
DatesTold past units = (call : ℕ) → dates (rounds_of past call) ≡ map dated (filter (is_of call) units)

-- ---- each event

-- a change of units that leaves who asked for them, and at which topology
dates_changed : (change : Unit → Unit) → ((unit : Unit) → dated (change unit) ≡ dated unit) → ((unit : Unit) → (change unit).work.call ≡ unit.work.call) → (call : ℕ) (units : List Unit) →
    map dated (filter (is_of call) (map change units)) ≡ map dated (filter (is_of call) units)
dates_changed change a c call [] = refl
dates_changed change a c call (unit ∷ units) =
    ap (λ (n : ℕ). map dated (if n == call then change unit ∷ filter (is_of call) (map change units) else filter (is_of call) (map change units))) (c unit)
    ∙ by_call (is_of call unit) (dates_changed change a c call units)
  where
    by_call : (b : Bool) → map dated (filter (is_of call) (map change units)) ≡ map dated (filter (is_of call) units) →
        map dated (if b then change unit ∷ filter (is_of call) (map change units) else filter (is_of call) (map change units)) ≡ map dated (if b then unit ∷ filter (is_of call) units else filter (is_of call) units)
    by_call true h = λ i. a unit i ∷ h i
    by_call false h = h

-- and such a change of those that pass a test
dates_tested : (past : List Event) (test : Unit → Bool) (change : Unit → Unit) (units : List Unit) → ((unit : Unit) → dated (change unit) ≡ dated unit) → ((unit : Unit) → (change unit).work.call ≡ unit.work.call) →
    DatesTold past units → DatesTold past (map (λ unit. cond (test unit) (change unit) unit) units)
dates_tested past test change units a c h call =
    h call ∙ sym (dates_changed (λ unit. cond (test unit) (change unit) unit) (λ unit. either_date unit (test unit)) (λ unit. either_call unit (test unit)) call units)
  where
    either_date : (unit : Unit) (b : Bool) → dated (cond b (change unit) unit) ≡ dated unit
    either_date unit true = a unit
    either_date unit false = refl

    either_call : (unit : Unit) (b : Bool) → (cond b (change unit) unit).work.call ≡ unit.work.call
    either_call unit true = c unit
    either_call unit false = refl

-- the asks of rounds and of further ones
dates-append : (rounds others : List RoundEvent) → dates (rounds ++ others) ≡ dates rounds ++ dates others
dates-append [] others = refl
dates-append (r ∷ rounds) others =
    ap (λ ds. map (λ (a : Ask). (a, r.id)) r.asks ++ ds) (dates-append rounds others) ∙ sym (append_assoc (map (λ (a : Ask). (a, r.id)) r.asks) (dates rounds) (dates others))

-- the units that a round asks for belong to its call alone
dated_of : (r : RoundEvent) (call : ℕ) (b : Bool) → (r.call == call) ≡ b → (asks : List Ask) → map dated (filter (is_of call) (map (unit_made r.call r.id) asks)) ≡ (if b then map (λ (a : Ask). (a, r.id)) asks else [])
dated_of r call true e [] = refl
dated_of r call false e [] = refl
dated_of r call true e (ask ∷ asks) =
    ap (λ b. map dated (if b then unit_made r.call r.id ask ∷ filter (is_of call) (map (unit_made r.call r.id) asks) else filter (is_of call) (map (unit_made r.call r.id) asks))) e
    ∙ ap (λ rest. (ask, r.id) ∷ rest) (dated_of r call true e asks)
dated_of r call false e (ask ∷ asks) =
    ap (λ b. map dated (if b then unit_made r.call r.id ask ∷ filter (is_of call) (map (unit_made r.call r.id) asks) else filter (is_of call) (map (unit_made r.call r.id) asks))) e
    ∙ dated_of r call false e asks

-- a round asks for further units
rounded_dates : (past : List Event) (st : State) (r : RoundEvent) → DatesTold past st.calling.units → DatesTold (Round r ∷ past) (rounded st.calling r).units
unfolding rounded
rounded_dates past st r h call =
    by_call (r.call == call)
    ∙ (λ i. h call i ++ sym (dated_of r call (r.call == call) refl r.asks) i)
    ∙ sym (map-append dated (filter (is_of call) st.calling.units) (filter (is_of call) (map (unit_made r.call r.id) r.asks)))
    ∙ ap (map dated) (sym (filter-append (is_of call) st.calling.units (map (unit_made r.call r.id) r.asks)))
  where
    by_call : (b : Bool) → dates (if b then rounds_of past call ++ r ∷ [] else rounds_of past call) ≡ dates (rounds_of past call) ++ (if b then map (λ (a : Ask). (a, r.id)) r.asks else [])
    by_call true = dates-append (rounds_of past call) (r ∷ []) ∙ ap (λ ds. dates (rounds_of past call) ++ ds) (append-nil (map (λ (a : Ask). (a, r.id)) r.asks))
    by_call false = sym (append-nil (dates (rounds_of past call)))

-- an event that leaves all units
dates_aside : (past : List Event) (st : State) (event : Event) → moves_units event ≡ false → DatesTold (event ∷ past) st.calling.units → DatesTold (event ∷ past) (changed st event).calling.units
dates_aside past st event other h = subst (DatesTold (event ∷ past)) (sym (units_stays st event other)) h

-- every event leaves it told who asked for units
pub dates_told : (past : List Event) (st : State) (event : Event) → DatesTold past st.calling.units → DatesTold (event ∷ past) (changed st event).calling.units
unfolding departed lost_by_departure installed lost_by_installation begun_unit scanned fetched taken_by ended_unit
dates_told past st (Write w) h = dates_aside past st (Write w) refl h
dates_told past st (Erase e) h = dates_aside past st (Erase e) refl h
dates_told past st (Tick ticks) h = dates_aside past st (Tick ticks) refl h
dates_told past st (Join node) h = dates_aside past st (Join node) refl h
dates_told past st (Announce topology) h = dates_aside past st (Announce topology) refl h
dates_told past st (Copy c) h = dates_aside past st (Copy c) refl h
dates_told past st (Land receiver segment) h = dates_aside past st (Land receiver segment) refl h
dates_told past st (Invoke i) h = dates_aside past st (Invoke i) refl h
dates_told past st (Answer a) h = dates_aside past st (Answer a) refl h
dates_told past st (Depart node) h = dates_tested (Depart node ∷ past) (λ unit. is_open_unit unit && (unit.work.node == node)) (with_loss None) st.calling.units (λ unit. refl) (λ unit. refl) h
dates_told past st (Install node id) h = dates_tested (Install node id ∷ past) (ceases st.holding.coord.newest node) (with_loss (Some id)) st.calling.units (λ unit. refl) (λ unit. refl) h
dates_told past st (Round r) h = rounded_dates past st r h
dates_told past st (Begin number runs) h = dates_tested (Begin number runs ∷ past) (λ unit. unit.work.id == number) (with_begin st.holding runs) st.calling.units (λ unit. refl) (λ unit. refl) h
dates_told past st (Scan s) h = dates_tested (Scan s ∷ past) (λ unit. unit.work.id == s.unit) (λ unit. record unit { work = extended unit.work s.batch }) st.calling.units (λ unit. refl) (λ unit. refl) h
dates_told past st (Fetch f) h = dates_tested (Fetch f ∷ past) (λ unit. unit.work.id == f.unit) (λ unit. record { work = extended unit.work f.batch; flying = Some f.batch.entries }) st.calling.units (λ unit. refl) (λ unit. refl) h
dates_told past st (Take t) h = dates_tested (Take t ∷ past) (λ unit. unit.work.id == t.unit) (λ unit. record unit { flying = None }) st.calling.units (λ unit. refl) (λ unit. refl) h
dates_told past st (Done number) h = dates_tested (Done number ∷ past) (λ unit. unit.work.id == number) (λ unit. record unit { work = ended unit.work }) st.calling.units (λ unit. refl) (λ unit. refl) h

-- ---- each ask

-- what holds of each unit of a call holds of what the call asked for
among_units : {A : Type 0} (f : Unit → A) (P : A → Type 0) (call : ℕ) (units : List Unit) → AllByRecursion (λ unit. is_of call unit ≡ true → P (f unit)) units → AllByRecursion P (map f (filter (is_of call) units))
among_units f P call [] a = tt
among_units f P call (unit ∷ units) a = by_call (is_of call unit) a.0 (among_units f P call units a.1)
  where
    by_call : (b : Bool) → (b ≡ true → P (f unit)) → AllByRecursion P (map f (filter (is_of call) units)) → AllByRecursion P (map f (if b then unit ∷ filter (is_of call) units else filter (is_of call) units))
    by_call true here rest = (here refl, rest)
    by_call false here rest = rest

-- what holds of each of two lists together holds of each of both
each_split : {A B : Type 0} (f : A → B) (P : B → Type 0) (xs : List A) (ys : List B) → AllByRecursion P (map f xs ++ ys) → AllByRecursion (λ x. P (f x)) xs × AllByRecursion P ys
each_split f P [] ys a = (tt, a)
each_split f P (x ∷ xs) ys a = let rest = each_split f P xs ys a.1 in ((a.0, rest.0), rest.1)

-- what holds of each ask of some rounds holds of the asks of each round
by_round : (P : Ask × ℕ → Type 0) (rounds : List RoundEvent) → AllByRecursion P (dates rounds) → AllByRecursion (λ (r : RoundEvent). AllByRecursion (λ ask. P (ask, r.id)) r.asks) rounds
by_round P [] a = tt
by_round P (r ∷ rounds) a = let s = each_split (λ (ask : Ask). (ask, r.id)) P r.asks (dates rounds) a in (s.0, by_round P rounds s.1)

-- what holds of each unit of a call, with the topology of its round, holds of each ask of each round
pub each_dated : (past : List Event) (units : List Unit) → DatesTold past units → (call : ℕ) (P : Ask × ℕ → Type 0) → AllByRecursion (λ unit. is_of call unit ≡ true → P (dated unit)) units →
    AllByRecursion (λ (r : RoundEvent). AllByRecursion (λ ask. P (ask, r.id)) r.asks) (rounds_of past call)
each_dated past units told call P a = by_round P (rounds_of past call) (subst (AllByRecursion P) (sym (told call)) (among_units dated P call units a))

-- ---- closed units

-- whether a unit failed, and whether it is closed, is its stage
pub failed_is : (config : Config) (past : List Event) (unit : Unit) → StageKept config past unit → failed config past (ask_of unit) ≡ (is_refused unit.work.state || is_lost unit.work.state)
failed_is config past unit h = λ i. h.refused i || h.gone i

-- whether a unit is closed is its stage
pub closed_is : (config : Config) (past : List Event) (unit : Unit) → StageKept config past unit → is_closed config past (ask_of unit) ≡ not (is_open unit.work.state)
closed_is config past unit h = (λ i. h.refused i || (h.gone i || h.ended i)) ∙ table unit.work.state
  where
    table : (stage : UnitState) → (is_refused stage || (is_lost stage || is_ended stage)) ≡ not (is_open stage)
    table Asked = refl
    table Running = refl
    table (Refused at) = refl
    table (Lost at) = refl
    table Ended = refl

-- each of some units of a call is closed exactly where none of them is open
closed_over : (config : Config) (past : List Event) (call : ℕ) (units : List Unit) → AllByRecursion (StageKept config past) units →
    list_all (is_closed config past) (map ask_of (filter (is_of call) units)) ≡ not (list_any (λ unit. is_of call unit && is_open_unit unit) units)
closed_over config past call [] a = refl
closed_over config past call (unit ∷ units) a = by_call (is_of call unit) (closed_over config past call units a.1)
  where
    turned : (a b : Bool) → (not a && not b) ≡ not (a || b)
    turned true b = refl
    turned false b = refl

    by_call : (b : Bool) → list_all (is_closed config past) (map ask_of (filter (is_of call) units)) ≡ not (list_any (λ unit. is_of call unit && is_open_unit unit) units) →
        list_all (is_closed config past) (map ask_of (if b then unit ∷ filter (is_of call) units else filter (is_of call) units)) ≡ not ((b && is_open_unit unit) || list_any (λ unit. is_of call unit && is_open_unit unit) units)
    by_call true rest = (λ i. closed_is config past unit a.0 i && rest i) ∙ turned (is_open unit.work.state) (list_any (λ unit. is_of call unit && is_open_unit unit) units)
    by_call false rest = rest

-- each unit of a call is closed exactly where none is open
pub closed_told : (config : Config) (past : List Event) (st : State) (call : ℕ) → AsksTold past st.calling.units → AllByRecursion (StageKept config past) st.calling.units → all_closed config past call ≡ not (has_open st.calling call)
closed_told config past st call asks stages = ap (list_all (is_closed config past)) (asks call) ∙ closed_over config past call st.calling.units stages
