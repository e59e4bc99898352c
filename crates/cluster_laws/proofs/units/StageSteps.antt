-- Each event keeps what the events tell of stages.
use Rattle.std.proofs.Common.{◌≡◌, ℕ, ◌+◌, ◌≤◌, ◌<◌, ◌==◌, Bool, true, false, ◌&&◌, ◌||◌, ◌⊎◌, inl, inr, cond, List, [], ◌∷◌, map, length, length-append, Option, None, Some, refl, sym, ap, ◌∙◌, arith, subst}
use Rattle.std.proofs.lemmas.Bool.{and_parts, eq-eqb, or_left, or_right}
use Rattle.std.proofs.lemmas.Bool.Decides.{nat_tests}
use Rattle.std.proofs.lemmas.List.{length-map}
use Rattle.std.specs.List.{AllByRecursion, list_any}
use Rattle.grid_event.specs.Members.{newest_topology}
use Rattle.grid_event.specs.UnitHistories.{was_asked}
use Rattle.grid_event.specs.declared.call_events.Ask.{Ask}
use Rattle.grid_event.specs.declared.call_events.RoundEvent.{RoundEvent}
use Rattle.grid_event.specs.declared.config.Config.{Config}
use Rattle.grid_event.specs.declared.event.Event.{Event}
use Rattle.grid_event.specs.declared.event.Event.TheVariants.{Write, Erase, Tick, Join, Depart, Announce, Install, Copy, Land, Invoke, Round, Begin, Scan, Fetch, Take, Done, Answer}
use Rattle.local_publisher.specs.Units.{ended, extended}
use Rattle.topology_coord.specs.Coordination.{installed_id}
use Rattle.cluster_model.proofs.Frames.{units_stays}
use Rattle.cluster_model.specs.Calls.{asks_from, can_round, incomplete, rounded, unit_made}
use Rattle.cluster_model.specs.Laws.{moves_units}
use Rattle.cluster_model.specs.State.{Call, State, Unit, call_of, goes_on, is_asked, is_open_unit, is_running, with_loss, with_unit}
use Rattle.cluster_model.specs.Step.{allowed, changed}
use Rattle.cluster_model.specs.Topologies.{ceases, departed, installed, lost_by_departure, lost_by_installation}
use Rattle.cluster_model.specs.Units.{begun_unit, call_of_unit, can_begin, can_begin_unit, can_end, can_end_unit, can_fetch, can_read, can_scan, can_take, can_take_unit, ended_unit, fetched, scanned, taken_by, with_begin}
use Rattle.cluster_laws.proofs.Lists.{each-append, each_any, each_changed, each_imply}
use Rattle.cluster_laws.proofs.Numbers.{NumberedFrom}
use Rattle.cluster_laws.proofs.units.StageFacts.{StageOf, Unborn, UnitsAlike, alike_stage, alike_unborn, begin_other, begin_this, begin_unborn, departs_lost, departs_stays, departs_unborn, done_other, done_this, done_unborn, installs_lost, installs_stays, installs_unborn}
use Rattle.cluster_laws.proofs.units.UnitFacts.{CanRound, each_named, named_within, round_facts}
use Rattle.cluster_laws.proofs.units.UnitPlaces.{running_open}
use Rattle.cluster_laws.specs.Laws.{ask_of}

-- what the events tell of one unit
abbrev pub StageKept : Config → List Event → Unit → Type 0
StageKept config past unit = StageOf config past (ask_of unit) unit.work.state

-- what the events tell of each unit, and that they tell nothing of a number that is no unit's yet
pub record StagesKept (config : Config) (past : List Event) (units : List Unit) : Type 0 where
  pub each : AllByRecursion (StageKept config past) units
  pub unborn : (ask : Ask) → length units < ask.unit → Unborn config past ask

-- an event that is none of a unit, leaves units as they are, and so does one that changes a unit but for number, segment, node and stage
pub alike_stages : (config : Config) (past later : List Event) (units : List Unit) → UnitsAlike config past later → StagesKept config past units → StagesKept config later units
alike_stages config past later units same k = record {
  each = each_imply (StageKept config past) (StageKept config later) (λ unit. alike_stage config past later same (ask_of unit) unit.work.state) units k.each;
  unborn = λ ask more. alike_unborn config past later same ask (k.unborn ask more);
}

-- a change of the unit of a number
named_stages : (config : Config) (past later : List Event) (number : ℕ) (change : Unit → Unit) (units : List Unit) → number ≤ length units →
    ((unit : Unit) → (number == unit.work.id) ≡ false → StageKept config past unit → StageKept config later unit) →
    ((ask : Ask) → (number == ask.unit) ≡ false → Unborn config past ask → Unborn config later ask) →
    AllByRecursion (λ (unit : Unit). (unit.work.id == number) ≡ true → StageKept config past unit → StageKept config later (change unit)) units →
    StagesKept config past units → StagesKept config later (with_unit number change units)
named_stages config past later number change units within other unborn this k = record {
  each = each_changed (StageKept config past) (λ (unit : Unit). (unit.work.id == number) ≡ true → StageKept config past unit → StageKept config later (change unit)) (StageKept config later)
      (λ unit. cond (unit.work.id == number) (change unit) unit) one units k.each this;
  unborn = λ ask more.
      let l = length-map units (λ (unit : Unit). cond (unit.work.id == number) (change unit) unit) in
      let d : (number == ask.unit) ≡ false = grind (arith, nat_tests) in
      unborn ask d (k.unborn ask (omega arith));
}
  where
    one : (unit : Unit) → StageKept config past unit → ((unit.work.id == number) ≡ true → StageKept config past unit → StageKept config later (change unit)) → StageKept config later (cond (unit.work.id == number) (change unit) unit)
    one unit h f = by_test (unit.work.id == number) refl
      where
        by_test : (b : Bool) → (unit.work.id == number) ≡ b → StageKept config later (cond b (change unit) unit)
        by_test true t = f t h
        by_test false t = other unit (let e = t in grind (arith, nat_tests)) h

-- a loss of open units
losing_stages : (config : Config) (past later : List Event) (at : Option ℕ) (test : Unit → Bool) (units : List Unit) →
    ((unit : Unit) → test unit ≡ true → StageKept config past unit → StageKept config later (with_loss at unit)) →
    ((unit : Unit) → test unit ≡ false → StageKept config past unit → StageKept config later unit) →
    ((ask : Ask) → Unborn config past ask → Unborn config later ask) →
    StagesKept config past units → StagesKept config later (map (λ unit. cond (test unit) (with_loss at unit) unit) units)
losing_stages config past later at test units lose stay unborn k = record {
  each = each_changed (StageKept config past) (StageKept config past) (StageKept config later) (λ unit. cond (test unit) (with_loss at unit) unit) (λ unit h g. by_test unit h (test unit) refl) units k.each k.each;
  unborn = λ ask more. unborn ask (k.unborn ask (let l = length-map units (λ (unit : Unit). cond (test unit) (with_loss at unit) unit) in omega arith));
}
  where
    by_test : (unit : Unit) → StageKept config past unit → (b : Bool) → test unit ≡ b → StageKept config later (cond b (with_loss at unit) unit)
    by_test unit h true t = lose unit t h
    by_test unit h false t = stay unit t h

-- ---- rounds

-- each ask of a list names a unit that the list asks for
pub each_there : (xs ys : List Ask) → ((n : ℕ) → list_any (λ (a : Ask). a.unit == n) xs ≡ true → list_any (λ (a : Ask). a.unit == n) ys ≡ true) →
    AllByRecursion (λ (b : Ask). list_any (λ (a : Ask). a.unit == b.unit) ys ≡ true) xs
each_there [] ys sub = tt
each_there (x ∷ xs) ys sub = (
  sub x.unit (or_left (x.unit == x.unit) _ (eq-eqb x.unit x.unit refl)),
  each_there xs ys (λ n t. sub n (or_right (x.unit == n) (list_any (λ (a : Ask). a.unit == n) xs) t)),
)

-- the asks of a round are numbered from n on
pub asks_from_within : (st : State) (originator n : ℕ) (segments : List ℕ) → AllByRecursion (λ (a : Ask). (n ≤ a.unit) × (a.unit < n + length (asks_from st.holding originator n segments))) (asks_from st.holding originator n segments)
asks_from_within st originator n [] = tt
asks_from_within st originator n (segment ∷ segments) = (
  (omega arith, omega arith),
  each_imply (λ (a : Ask). ((n + 1) ≤ a.unit) × (a.unit < (n + 1) + length (asks_from st.holding originator (n + 1) segments)))
      (λ (a : Ask). (n ≤ a.unit) × (a.unit < n + length (asks_from st.holding originator n (segment ∷ segments))))
      (λ a h. (let x = h.0 in omega arith, let y = h.1 in omega arith)) (asks_from st.holding originator (n + 1) segments) (asks_from_within st originator (n + 1) segments),
)

-- no ask of such a list is for a number outside
pub none_named : (asks : List Ask) (unit low high : ℕ) → AllByRecursion (λ (a : Ask). (low ≤ a.unit) × (a.unit < high)) asks → (unit < low) ⊎ (high ≤ unit) → list_any (λ (a : Ask). a.unit == unit) asks ≡ false
none_named [] unit low high h out = refl
none_named (a ∷ asks) unit low high h out =
    let x = h.0.0 in let y = h.0.1 in
    let d : (a.unit == unit) ≡ false = elim out [ inl below ↦ grind (arith, nat_tests) | inr past ↦ grind (arith, nat_tests) ] in
    ap (λ b. b || list_any (λ (c : Ask). c.unit == unit) asks) d ∙ none_named asks unit low high h.1 out

-- a unit that was asked before, and one that is asked now
still_asked : (config : Config) (past : List Event) (r : RoundEvent) (unit : Unit) → StageKept config past unit → StageKept config (Round r ∷ past) unit
still_asked config past r unit h = record {
  asked = or_right (list_any (λ (a : Ask). a.unit == unit.work.id) r.asks) (was_asked past unit.work.id) h.asked;
  refused = h.refused;
  begun = h.begun;
  gone = h.gone;
  ended = h.ended;
}

-- a unit that is asked now
now_asked : (config : Config) (past : List Event) (r : RoundEvent) (ask : Ask) → list_any (λ (a : Ask). a.unit == ask.unit) r.asks ≡ true → Unborn config past ask → StageKept config (Round r ∷ past) (unit_made r.call r.id ask)
now_asked config past r ask there h = record {
  asked = or_left (list_any (λ (a : Ask). a.unit == ask.unit) r.asks) (was_asked past ask.unit) there;
  refused = h.refused;
  begun = λ kept. h.begun;
  gone = h.gone;
  ended = h.ended;
}

-- what is known of the numbers of the asks of a round
abbrev pub Within : ℕ → ℕ → List Ask → Type 0
Within low high asks = AllByRecursion (λ (a : Ask). (low ≤ a.unit) × (a.unit < high)) asks

-- the asks of a round are numbered on from the units that are there
pub round_within : (st : State) (r : RoundEvent) → can_round st r ≡ true → Within (length st.calling.units + 1) ((length st.calling.units + 1) + length r.asks) r.asks
round_within st r may =
    let found : (call : Call) × CanRound st r call = round_facts st r may in
    subst (λ asks. Within (length st.calling.units + 1) ((length st.calling.units + 1) + length asks) asks) (sym found.1.asks)
    (asks_from_within st found.0.originator (length st.calling.units + 1) (incomplete st.calling r.call))

-- a round asks further units
asked_stages : (config : Config) (past : List Event) (st : State) (r : RoundEvent) → can_round st r ≡ true → StagesKept config past st.calling.units → StagesKept config (Round r ∷ past) (rounded st.calling r).units
unfolding rounded
asked_stages config past st r may k =
    let within = round_within st r may in
    record {
      each = each-append (StageKept config (Round r ∷ past)) st.calling.units (map (unit_made r.call r.id) r.asks)
          (each_imply (StageKept config past) (StageKept config (Round r ∷ past)) (still_asked config past r) st.calling.units k.each)
          (each_changed (λ (b : Ask). list_any (λ (a : Ask). a.unit == b.unit) r.asks ≡ true) (λ (a : Ask). ((length st.calling.units + 1) ≤ a.unit) × (a.unit < (length st.calling.units + 1) + length r.asks)) (StageKept config (Round r ∷ past)) (unit_made r.call r.id)
          (λ ask there inside. now_asked config past r ask there (k.unborn ask (let x = inside.0 in omega arith))) r.asks (each_there r.asks r.asks (λ n t. t)) within);
      unborn = λ ask more.
          let l = length-append st.calling.units (map (unit_made r.call r.id) r.asks) in
          let m = length-map r.asks (unit_made r.call r.id) in
          let before : Unborn config past ask = k.unborn ask (omega arith) in
          record {
            asked = ap (λ b. b || was_asked past ask.unit) (none_named r.asks ask.unit (length st.calling.units + 1) ((length st.calling.units + 1) + length r.asks) within (inr (omega arith))) ∙ before.asked;
            refused = before.refused;
            begun = before.begun;
            gone = before.gone;
            ended = before.ended;
          };
    }

-- ---- all kinds

-- an event that is none of a unit
aside : (config : Config) (past : List Event) (st : State) (event : Event) → moves_units event ≡ false → UnitsAlike config past (event ∷ past) → StagesKept config past st.calling.units → StagesKept config (event ∷ past) (changed st event).calling.units
aside config past st event other same k =
    subst (StagesKept config (event ∷ past)) (sym (units_stays st event other)) (alike_stages config past (event ∷ past) st.calling.units same k)

-- an event that changes one unit but for its number, segment, node and stage
reads_on : (config : Config) (past : List Event) (event : Event) (number : ℕ) (change : Unit → Unit) (units : List Unit) → number ≤ length units → UnitsAlike config past (event ∷ past) →
    ((unit : Unit) → StageKept config (event ∷ past) unit → StageKept config (event ∷ past) (change unit)) → StagesKept config past units → StagesKept config (event ∷ past) (with_unit number change units)
reads_on config past event number change units within same keeps k =
    named_stages config past (event ∷ past) number change units within
    (λ unit other h. alike_stage config past (event ∷ past) same (ask_of unit) unit.work.state h)
    (λ ask other h. alike_unborn config past (event ∷ past) same ask h)
    (each_any (λ (unit : Unit). (unit.work.id == number) ≡ true → StageKept config past unit → StageKept config (event ∷ past) (change unit))
    (λ unit here h. keeps unit (alike_stage config past (event ∷ past) same (ask_of unit) unit.work.state h)) units)
    k

-- the unit that begins, or is refused
begins_this : (config : Config) (past : List Event) (st : State) (number : ℕ) (runs : Bool) (unit : Unit) → ((unit.work.id == number) ≡ true → can_begin_unit st runs (Some unit) ≡ true) → (unit.work.id == number) ≡ true → StageKept config past unit →
    StageKept config (Begin number runs ∷ past) (with_begin st.holding runs unit)
begins_this config past st number runs unit test here h =
    let a : (goes_on st.holding (call_of st.calling unit.work.call) ≡ true) × _ = and_parts (goes_on st.holding (call_of st.calling unit.work.call)) _ (test here) in
    let b : (is_asked unit.work.state ≡ true) × _ = and_parts (is_asked unit.work.state) _ a.1 in
    begin_this config past number (installed_id st.holding.coord unit.work.node) runs (ask_of unit) unit.work.state b.0 (let e = here in grind (arith, nat_tests)) h

-- the unit that ends
ends_this : (config : Config) (past : List Event) (st : State) (number : ℕ) (unit : Unit) → ((unit.work.id == number) ≡ true → can_end_unit st (Some unit) ≡ true) → (unit.work.id == number) ≡ true → StageKept config past unit →
    StageKept config (Done number ∷ past) (record unit { work = ended unit.work })
ends_this config past st number unit test here h =
    let a : (goes_on st.holding (call_of st.calling unit.work.call) ≡ true) × _ = and_parts (goes_on st.holding (call_of st.calling unit.work.call)) _ (test here) in
    let b : (is_running unit.work.state ≡ true) × _ = and_parts (is_running unit.work.state) _ a.1 in
    done_this config past number (ask_of unit) unit.work.state b.0 (let e = here in grind (arith, nat_tests)) h

-- each event that may happen keeps what the events tell of stages
pub stages_kept : (config : Config) (past : List Event) (st : State) (event : Event) → allowed st event ≡ true → st.holding.coord.newest ≡ newest_topology config past → NumberedFrom 1 st.calling.units →
    StagesKept config past st.calling.units → StagesKept config (event ∷ past) (changed st event).calling.units
unfolding departed lost_by_departure installed lost_by_installation begun_unit scanned fetched taken_by ended_unit can_begin can_scan can_fetch can_take can_end
stages_kept config past st (Write w) may newest n k = aside config past st (Write w) refl (record { asked = refl; refused = refl; begun = refl; gone = refl; ended = refl }) k
stages_kept config past st (Erase e) may newest n k = aside config past st (Erase e) refl (record { asked = refl; refused = refl; begun = refl; gone = refl; ended = refl }) k
stages_kept config past st (Tick ticks) may newest n k = aside config past st (Tick ticks) refl (record { asked = refl; refused = refl; begun = refl; gone = refl; ended = refl }) k
stages_kept config past st (Join node) may newest n k = aside config past st (Join node) refl (record { asked = refl; refused = refl; begun = refl; gone = refl; ended = refl }) k
stages_kept config past st (Announce topology) may newest n k = aside config past st (Announce topology) refl (record { asked = refl; refused = refl; begun = refl; gone = refl; ended = refl }) k
stages_kept config past st (Copy c) may newest n k = aside config past st (Copy c) refl (record { asked = refl; refused = refl; begun = refl; gone = refl; ended = refl }) k
stages_kept config past st (Land receiver segment) may newest n k = aside config past st (Land receiver segment) refl (record { asked = refl; refused = refl; begun = refl; gone = refl; ended = refl }) k
stages_kept config past st (Invoke i) may newest n k = aside config past st (Invoke i) refl (record { asked = refl; refused = refl; begun = refl; gone = refl; ended = refl }) k
stages_kept config past st (Answer a) may newest n k = aside config past st (Answer a) refl (record { asked = refl; refused = refl; begun = refl; gone = refl; ended = refl }) k
stages_kept config past st (Depart node) may newest n k =
    losing_stages config past (Depart node ∷ past) None (λ unit. is_open_unit unit && (unit.work.node == node)) st.calling.units
    (λ unit t h. departs_lost config past node (ask_of unit) unit.work.state t (and_parts (is_open_unit unit) (unit.work.node == node) t).0 h)
    (λ unit t h. departs_stays config past node (ask_of unit) unit.work.state t h)
    (departs_unborn config past node) k
stages_kept config past st (Install node id) may newest n k =
    losing_stages config past (Install node id ∷ past) (Some id) (ceases st.holding.coord.newest node) st.calling.units
    (λ unit t h. installs_lost config past st.holding.coord.newest node id (ask_of unit) unit.work.state newest t (running_open unit.work.state (and_parts (is_running unit.work.state) _ t).0) h)
    (λ unit t h. installs_stays config past st.holding.coord.newest node id (ask_of unit) unit.work.state newest t h)
    (installs_unborn config past node id) k
stages_kept config past st (Round r) may newest n k = asked_stages config past st r may k
stages_kept config past st (Begin number runs) may newest n k =
    named_stages config past (Begin number runs ∷ past) number (with_begin st.holding runs) st.calling.units (named_within st number (can_begin_unit st runs) refl may n)
    (λ unit other h. begin_other config past number runs (ask_of unit) unit.work.state other h) (begin_unborn config past number runs)
    (each_imply (λ (unit : Unit). (unit.work.id == number) ≡ true → can_begin_unit st runs (Some unit) ≡ true) (λ (unit : Unit). (unit.work.id == number) ≡ true → StageKept config past unit → StageKept config (Begin number runs ∷ past) (with_begin st.holding runs unit))
    (begins_this config past st number runs) st.calling.units (each_named st number (can_begin_unit st runs) refl may n)) k
stages_kept config past st (Scan s) may newest n k =
    reads_on config past (Scan s) s.unit (λ unit. record unit { work = extended unit.work s.batch }) st.calling.units (named_within st s.unit (can_read st false s.batch) refl may n)
    (record { asked = refl; refused = refl; begun = refl; gone = refl; ended = refl }) (λ unit h. h) k
stages_kept config past st (Fetch f) may newest n k =
    reads_on config past (Fetch f) f.unit (λ unit. record { work = extended unit.work f.batch; flying = Some f.batch.entries }) st.calling.units (named_within st f.unit (can_read st true f.batch) refl may n)
    (record { asked = refl; refused = refl; begun = refl; gone = refl; ended = refl }) (λ unit h. h) k
stages_kept config past st (Take t) may newest n k =
    reads_on config past (Take t) t.unit (λ unit. record unit { flying = None }) st.calling.units (named_within st t.unit (λ found. can_take_unit st t found (call_of_unit st.calling found)) refl may n)
    (record { asked = refl; refused = refl; begun = refl; gone = refl; ended = refl }) (λ unit h. h) k
stages_kept config past st (Done number) may newest n k =
    named_stages config past (Done number ∷ past) number (λ unit. record unit { work = ended unit.work }) st.calling.units (named_within st number (can_end_unit st) refl may n)
    (λ unit other h. done_other config past number (ask_of unit) unit.work.state other h) (done_unborn config past number)
    (each_imply (λ (unit : Unit). (unit.work.id == number) ≡ true → can_end_unit st (Some unit) ≡ true) (λ (unit : Unit). (unit.work.id == number) ≡ true → StageKept config past unit → StageKept config (Done number ∷ past) (record unit { work = ended unit.work }))
    (ends_this config past st number) st.calling.units (each_named st number (can_end_unit st) refl may n)) k
