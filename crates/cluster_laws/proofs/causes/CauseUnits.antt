-- What an event does to one unit, in few cases.
use Rattle.std.proofs.Common.{◌≡◌, ℕ, ◌+◌, ◌≤◌, ◌<◌, ◌==◌, nat_lt, Bool, true, false, not, ◌&&◌, ◌||◌, cond, if◌then◌else◌, List, [], ◌∷◌, map, length, None, Some, refl, sym, ap, ◌∙◌, arith, subst, unwrap_or}
use Rattle.std.proofs.lemmas.Bool.{and_parts, eq-eqb, eqb-true, leb-true, ltb-true, or_left, or_right}
use Rattle.std.specs.Bool.{beq}
use Rattle.std.specs.FinSet as set_of
use Rattle.std.specs.List.{AllByRecursion, filter, list_all}
use Rattle.grid_event.specs.declared.call_events.Ask.{Ask}
use Rattle.grid_event.specs.declared.call_events.RoundEvent.{RoundEvent}
use Rattle.grid_event.specs.declared.event.Event.{Event}
use Rattle.grid_event.specs.declared.event.Event.TheVariants.{Write, Erase, Tick, Join, Depart, Announce, Install, Copy, Land, Invoke, Round, Begin, Scan, Fetch, Take, Done, Answer}
use Rattle.local_publisher.specs.Stages.{is_open}
use Rattle.local_publisher.specs.Units.{ended, extended}
use Rattle.local_publisher.specs.declared.unit_state.UnitState.{UnitState}
use Rattle.local_publisher.specs.declared.unit_state.UnitState.TheVariants.{Asked, Running, Refused, Lost, Ended}
use Rattle.topology_coord.specs.Coordination.{Coordination, first_live, installed_id, lives, some_live, topology_of}
use Rattle.topology_phase.specs.Owners.{among}
use Rattle.topology_phase.specs.Topologies.{read_owners}
use Rattle.cluster_model.proofs.Frames.{units_stays}
use Rattle.cluster_model.specs.Calls.{all_complete, asks_from, asks_of, can_round, granted, has_caught_up, has_open, incomplete, is_due, is_next_round, rounded, unit_made}
use Rattle.cluster_model.specs.Laws.{moves_units}
use Rattle.cluster_model.specs.Same.{same_asks}
use Rattle.cluster_model.specs.State.{Call, State, Unit, call_of, goes_on, is_asked, is_open_unit, is_running, segments_read, with_loss}
use Rattle.cluster_model.specs.Step.{allowed, changed}
use Rattle.cluster_model.specs.Topologies.{can_install, ceases, departed, installed, is_complete, lost_by_departure, lost_by_installation}
use Rattle.cluster_model.specs.Units.{begun_unit, can_begin, can_begin_unit, can_end, can_end_unit, ended_unit, fetched, reads, scanned, taken_by, with_begin}
use Rattle.cluster_model.specs.Writes.{has_reader}
use Rattle.cluster_laws.proofs.units.CallRequests.{GoesOn, going}
use Rattle.cluster_laws.proofs.copies.Facts.{turned}
use Rattle.cluster_laws.proofs.Lists.{each-append, each_any, each_changed, each_imply}
use Rattle.cluster_laws.proofs.Numbers.{NumberedFrom}
use Rattle.cluster_laws.proofs.units.UnitFacts.{each_named, same_asks-exact}

-- how the stage of a unit changes by an event: it stays; the unit begins or is refused; its node departs; its node installs a
-- topology by which it doesn't read the segment; or it ends
pub data StageStep (st : State) (event : Event) (unit : Unit) (after : UnitState) : Type 0 where
  Stays : after ≡ unit.work.state → StageStep st event unit after
  Begins : (runs : Bool) → event ≡ Begin unit.work.id runs → is_asked unit.work.state ≡ true → unit.work.asked_at ≤ installed_id st.holding.coord unit.work.node → runs ≡ reads st.holding unit
      → after ≡ (if runs then Running else Refused (installed_id st.holding.coord unit.work.node)) → StageStep st event unit after
  Departs : event ≡ Depart unit.work.node → is_open unit.work.state ≡ true → after ≡ Lost None → StageStep st event unit after
  Installs : event ≡ Install unit.work.node st.holding.coord.newest.id → is_running unit.work.state ≡ true → (installed_id st.holding.coord unit.work.node == st.holding.coord.newest.id) ≡ false
      → after ≡ Lost (Some st.holding.coord.newest.id) → StageStep st event unit after
  Ends : event ≡ Done unit.work.id → is_running unit.work.state ≡ true → after ≡ Ended → StageStep st event unit after

-- what an event makes of a unit: who asked for it stays, and its stage changes so
pub record UnitStep (st : State) (event : Event) (before after : Unit) : Type 0 where
  pub id : after.work.id ≡ before.work.id
  pub call : after.work.call ≡ before.work.call
  pub segment : after.work.segment ≡ before.work.segment
  pub node : after.work.node ≡ before.work.node
  pub asked_at : after.work.asked_at ≡ before.work.asked_at
  pub stage : StageStep st event before after.work.state

-- what is known of a round that may be made
pub record RoundKnown (st : State) (r : RoundEvent) (call : Call) : Type 0 where
  pub there : call_of st.calling r.call ≡ Some call
  pub unanswered : call.outcome ≡ None
  pub live : lives st.holding.coord call.originator ≡ true
  pub id : r.id ≡ installed_id st.holding.coord call.originator
  pub closed : has_open st.calling r.call ≡ false
  pub left : call.rounds < granted call
  pub missing : all_complete st.calling r.call ≡ false
  pub readers : list_all (has_reader st.holding call.originator) (incomplete st.calling r.call) ≡ true
  pub caught_up : has_caught_up st call ≡ true
  pub asks : r.asks ≡ asks_of st r.call call

-- what is known of an ask of a round: its number is new, its segment is one of the cluster's, and its node reads the segment by
-- the originator's topology
pub record FreshAsk (st : State) (originator : ℕ) (ask : Ask) : Type 0 where
  pub number : length st.calling.units < ask.unit
  pub within : among ask.segment (segments_read st.calling) ≡ true
  pub reads : among ask.node (read_owners (topology_of st.holding.coord originator) ask.segment) ≡ true

-- a unit that was asked is open
pub asked_opens : (stage : UnitState) → is_asked stage ≡ true → is_open stage ≡ true
asked_opens Asked h = refl
asked_opens Running h = absurd (cc)
asked_opens (Refused at) h = absurd (cc)
asked_opens (Lost at) h = absurd (cc)
asked_opens Ended h = absurd (cc)

-- what the test of a round says of a call that goes on
known_by : (st : State) (r : RoundEvent) (call : Call) → GoesOn st (call_of st.calling r.call) call → is_next_round st r (Some call) ≡ true → RoundKnown st r call
known_by st r call on next =
    let a : (is_due st r.call call ≡ true) × (((r.id == installed_id st.holding.coord call.originator) && same_asks r.asks (asks_of st r.call call)) ≡ true) = and_parts (is_due st r.call call) _ next in
    let b = and_parts (r.id == installed_id st.holding.coord call.originator) (same_asks r.asks (asks_of st r.call call)) a.1 in
    let c = and_parts (set_of.len call.lost == 0) _ a.0 in
    let d = and_parts (not (has_open st.calling r.call)) _ c.1 in
    let e = and_parts (nat_lt call.rounds (granted call)) _ d.1 in
    let f = and_parts (not (all_complete st.calling r.call)) _ e.1 in
    let g = and_parts (list_all (has_reader st.holding call.originator) (incomplete st.calling r.call)) (has_caught_up st call) f.1 in
    record {
      there = on.there;
      unanswered = on.unanswered;
      live = on.live;
      id = eqb-true r.id (installed_id st.holding.coord call.originator) b.0;
      closed = turned (has_open st.calling r.call) d.0;
      left = ltb-true call.rounds (granted call) e.0;
      missing = turned (all_complete st.calling r.call) f.0;
      readers = g.0;
      caught_up = g.1;
      asks = same_asks-exact r.asks (asks_of st r.call call) b.1;
    }

-- what is known where a round may be made
pub round_known : (st : State) (r : RoundEvent) → can_round st r ≡ true → (call : Call) × RoundKnown st r call
unfolding can_round
round_known st r h =
    let p = and_parts (goes_on st.holding (call_of st.calling r.call)) (is_next_round st r (call_of st.calling r.call)) h in
    let on : (call : Call) × GoesOn st (call_of st.calling r.call) call = going st (call_of st.calling r.call) p.0 in
    (on.0, known_by st r on.0 on.1 (subst (λ found. is_next_round st r found ≡ true) on.1.there p.1))

-- the first live reader is a reader
first_among : (c : Coordination) (nodes : List ℕ) → some_live c nodes ≡ true → among (unwrap_or (first_live c nodes) 0) nodes ≡ true
first_among c [] h = absurd (cc)
first_among c (n ∷ nodes) h = by_head (lives c n) h (first_among c nodes)
  where
    by_head : (b : Bool) → (b || some_live c nodes) ≡ true → (some_live c nodes ≡ true → among (unwrap_or (first_live c nodes) 0) nodes ≡ true) → among (unwrap_or (cond b (Some n) (first_live c nodes)) 0) (n ∷ nodes) ≡ true
    by_head true h rest = or_left (n == n) (among n nodes) (eq-eqb n n refl)
    by_head false h rest = or_right (n == unwrap_or (first_live c nodes) 0) (among (unwrap_or (first_live c nodes) 0) nodes) (rest h)

-- those of some numbers that pass a test are among them
each_kept : (p : ℕ → Bool) (xs ys : List ℕ) → ((s : ℕ) → among s xs ≡ true → among s ys ≡ true) → AllByRecursion (λ s. among s ys ≡ true) (filter p xs)
each_kept p [] ys sub = tt
each_kept p (x ∷ xs) ys sub = by_test (p x) (each_kept p xs ys (λ s there. sub s (or_right (x == s) (among s xs) there)))
  where
    by_test : (b : Bool) → AllByRecursion (λ s. among s ys ≡ true) (filter p xs) → AllByRecursion (λ s. among s ys ≡ true) (if b then x ∷ filter p xs else filter p xs)
    by_test true rest = (sub x (or_left (x == x) (among x xs) (eq-eqb x x refl)), rest)
    by_test false rest = rest

-- what is known of asks for segments that have live readers
fresh_from : (st : State) (originator n : ℕ) (segments : List ℕ) → length st.calling.units < n → AllByRecursion (λ s. among s (segments_read st.calling) ≡ true) segments → list_all (has_reader st.holding originator) segments ≡ true → AllByRecursion (FreshAsk st originator) (asks_from st.holding originator n segments)
fresh_from st originator n [] more inside all = tt
fresh_from st originator n (segment ∷ segments) more inside all =
    let p = and_parts (has_reader st.holding originator segment) (list_all (has_reader st.holding originator) segments) all in (
      record { number = more; within = inside.0; reads = first_among st.holding.coord (read_owners (topology_of st.holding.coord originator) segment) p.0 },
      fresh_from st originator (n + 1) segments (omega arith) inside.1 p.1,
    )

-- what is known of the asks of a round
pub fresh_asks : (st : State) (r : RoundEvent) (call : Call) → RoundKnown st r call → AllByRecursion (FreshAsk st call.originator) r.asks
fresh_asks st r call known =
    subst (AllByRecursion (FreshAsk st call.originator)) (sym known.asks) (fresh_from st call.originator (length st.calling.units + 1) (incomplete st.calling r.call) (omega arith) (each_kept (λ segment. not (is_complete st.calling.units r.call segment)) (segments_read st.calling) (segments_read st.calling) (λ s there. there)) known.readers)

-- ---- each unit after an event

module _ (st : State) (event : Event) (P Q : Unit → Type 0) (step : (before after : Unit) → UnitStep st event before after → P before → Q after) where
  -- a unit that stays as it is
  still : (unit : Unit) → P unit → Q unit
  still unit p = step unit unit (record { id = refl; call = refl; segment = refl; node = refl; asked_at = refl; stage = Stays refl }) p

  -- an event that leaves all units
  aside : moves_units event ≡ false → AllByRecursion P st.calling.units → AllByRecursion Q (changed st event).calling.units
  aside other all = subst (AllByRecursion Q) (sym (units_stays st event other)) (each_imply P Q still st.calling.units all)

  -- the units that pass a test are changed
  tested : (test : Unit → Bool) (change : Unit → Unit) → AllByRecursion (λ unit. test unit ≡ true → UnitStep st event unit (change unit)) st.calling.units → AllByRecursion P st.calling.units →
      AllByRecursion Q (map (λ unit. cond (test unit) (change unit) unit) st.calling.units)
  tested test change steps all = each_changed P (λ unit. test unit ≡ true → UnitStep st event unit (change unit)) Q (λ unit. cond (test unit) (change unit) unit) one st.calling.units all steps
    where
      one : (unit : Unit) → P unit → (test unit ≡ true → UnitStep st event unit (change unit)) → Q (cond (test unit) (change unit) unit)
      one unit p s = by_test (test unit) refl
        where
          by_test : (b : Bool) → test unit ≡ b → Q (cond b (change unit) unit)
          by_test true t = step unit (change unit) (s t) p
          by_test false t = still unit p

-- a begin or a refusal, an end, a departure and an installation are such steps of their units
begin_step : (st : State) (number : ℕ) (runs : Bool) (unit : Unit) → ((unit.work.id == number) ≡ true → can_begin_unit st runs (Some unit) ≡ true) → (unit.work.id == number) ≡ true → UnitStep st (Begin number runs) unit (with_begin st.holding runs unit)
begin_step st number runs unit test here =
    let a : (goes_on st.holding (call_of st.calling unit.work.call) ≡ true) × _ = and_parts (goes_on st.holding (call_of st.calling unit.work.call)) _ (test here) in
    let b : (is_asked unit.work.state ≡ true) × _ = and_parts (is_asked unit.work.state) _ a.1 in
    let d = and_parts _ (beq runs (reads st.holding unit)) b.1 in
    record {
      id = refl;
      call = refl;
      segment = refl;
      node = refl;
      asked_at = refl;
      stage = Begins runs (ap (λ n. Begin n runs) (sym (eqb-true unit.work.id number here))) b.0 (leb-true unit.work.asked_at (installed_id st.holding.coord unit.work.node) d.0) (same_flag runs (reads st.holding unit) d.1) refl;
    }
  where
    same_flag : (a b : Bool) → beq a b ≡ true → a ≡ b
    same_flag true true h = refl
    same_flag false false h = refl
    same_flag true false h = absurd (cc)
    same_flag false true h = absurd (cc)

-- the end of a unit
done_step : (st : State) (number : ℕ) (unit : Unit) → ((unit.work.id == number) ≡ true → can_end_unit st (Some unit) ≡ true) → (unit.work.id == number) ≡ true → UnitStep st (Done number) unit (record unit { work = ended unit.work })
done_step st number unit test here =
    let a : (goes_on st.holding (call_of st.calling unit.work.call) ≡ true) × _ = and_parts (goes_on st.holding (call_of st.calling unit.work.call)) _ (test here) in
    let b : (is_running unit.work.state ≡ true) × _ = and_parts (is_running unit.work.state) _ a.1 in
    record { id = refl; call = refl; segment = refl; node = refl; asked_at = refl; stage = Ends (ap (λ n. Done n) (sym (eqb-true unit.work.id number here))) b.0 refl }

-- the departure of its node
depart_step : (st : State) (node : ℕ) (unit : Unit) → (is_open_unit unit && (unit.work.node == node)) ≡ true → UnitStep st (Depart node) unit (with_loss None unit)
depart_step st node unit t =
    let a = and_parts (is_open_unit unit) (unit.work.node == node) t in
    record { id = refl; call = refl; segment = refl; node = refl; asked_at = refl; stage = Departs (ap (λ n. Depart n) (sym (eqb-true unit.work.node node a.1))) a.0 refl }

-- the installation of a topology by which its node doesn't read the segment
install_step : (st : State) (node id : ℕ) → can_install st.holding node id ≡ true → (unit : Unit) → ceases st.holding.coord.newest node unit ≡ true → UnitStep st (Install node id) unit (with_loss (Some id) unit)
unfolding can_install
install_step st node id may unit t =
    let a = and_parts (is_running unit.work.state) _ t in
    let b = and_parts (unit.work.node == node) _ a.1 in
    let c = and_parts (lives st.holding.coord node) _ may in
    let d = and_parts (not (installed_id st.holding.coord node == st.holding.coord.newest.id)) (id == st.holding.coord.newest.id) c.1 in
    let same : unit.work.node ≡ node = eqb-true unit.work.node node b.0 in
    let newest : id ≡ st.holding.coord.newest.id = eqb-true id st.holding.coord.newest.id d.1 in
    record {
      id = refl;
      call = refl;
      segment = refl;
      node = refl;
      asked_at = refl;
      stage = Installs (λ i. Install (sym same i) (newest i)) a.0 (ap (λ n. installed_id st.holding.coord n == st.holding.coord.newest.id) same ∙ turned (installed_id st.holding.coord node == st.holding.coord.newest.id) d.0) (ap (λ n. Lost (Some n)) newest);
    }

-- what holds of each unit after an event, where it follows from what held before, and holds of each unit that is just asked
pub each_unit : (st : State) (event : Event) (P Q : Unit → Type 0) → ((before after : Unit) → UnitStep st event before after → P before → Q after) →
    ((r : RoundEvent) (call : Call) (ask : Ask) → event ≡ Round r → RoundKnown st r call → FreshAsk st call.originator ask → Q (unit_made r.call r.id ask)) →
    allowed st event ≡ true → NumberedFrom 1 st.calling.units → AllByRecursion P st.calling.units → AllByRecursion Q (changed st event).calling.units
unfolding departed lost_by_departure installed lost_by_installation rounded begun_unit scanned fetched taken_by ended_unit can_begin can_end
each_unit st (Write w) P Q step fresh may n all = aside st (Write w) P Q step refl all
each_unit st (Erase e) P Q step fresh may n all = aside st (Erase e) P Q step refl all
each_unit st (Tick ticks) P Q step fresh may n all = aside st (Tick ticks) P Q step refl all
each_unit st (Join node) P Q step fresh may n all = aside st (Join node) P Q step refl all
each_unit st (Announce topology) P Q step fresh may n all = aside st (Announce topology) P Q step refl all
each_unit st (Copy c) P Q step fresh may n all = aside st (Copy c) P Q step refl all
each_unit st (Land receiver segment) P Q step fresh may n all = aside st (Land receiver segment) P Q step refl all
each_unit st (Invoke i) P Q step fresh may n all = aside st (Invoke i) P Q step refl all
each_unit st (Answer a) P Q step fresh may n all = aside st (Answer a) P Q step refl all
each_unit st (Depart node) P Q step fresh may n all =
    tested st (Depart node) P Q step (λ unit. is_open_unit unit && (unit.work.node == node)) (with_loss None)
    (each_any (λ unit. (is_open_unit unit && (unit.work.node == node)) ≡ true → UnitStep st (Depart node) unit (with_loss None unit)) (depart_step st node) st.calling.units) all
each_unit st (Install node id) P Q step fresh may n all =
    tested st (Install node id) P Q step (ceases st.holding.coord.newest node) (with_loss (Some id))
    (each_any (λ unit. ceases st.holding.coord.newest node unit ≡ true → UnitStep st (Install node id) unit (with_loss (Some id) unit)) (install_step st node id may) st.calling.units) all
each_unit st (Round r) P Q step fresh may n all =
    let known : (call : Call) × RoundKnown st r call = round_known st r may in
    each-append Q st.calling.units (map (unit_made r.call r.id) r.asks) (each_imply P Q (still st (Round r) P Q step) st.calling.units all)
    (each_changed (FreshAsk st known.0.originator) (FreshAsk st known.0.originator) Q (unit_made r.call r.id) (λ ask f g. fresh r known.0 ask refl known.1 f) r.asks (fresh_asks st r known.0 known.1) (fresh_asks st r known.0 known.1))
each_unit st (Begin number runs) P Q step fresh may n all =
    tested st (Begin number runs) P Q step (λ unit. unit.work.id == number) (with_begin st.holding runs)
    (each_imply (λ (unit : Unit). (unit.work.id == number) ≡ true → can_begin_unit st runs (Some unit) ≡ true) (λ unit. (unit.work.id == number) ≡ true → UnitStep st (Begin number runs) unit (with_begin st.holding runs unit))
    (begin_step st number runs) st.calling.units (each_named st number (can_begin_unit st runs) refl may n)) all
each_unit st (Scan s) P Q step fresh may n all =
    tested st (Scan s) P Q step (λ unit. unit.work.id == s.unit) (λ unit. record unit { work = extended unit.work s.batch })
    (each_any (λ unit. (unit.work.id == s.unit) ≡ true → UnitStep st (Scan s) unit (record unit { work = extended unit.work s.batch }))
    (λ unit here. record { id = refl; call = refl; segment = refl; node = refl; asked_at = refl; stage = Stays refl }) st.calling.units) all
each_unit st (Fetch f) P Q step fresh may n all =
    tested st (Fetch f) P Q step (λ unit. unit.work.id == f.unit) (λ unit. record { work = extended unit.work f.batch; flying = Some f.batch.entries })
    (each_any (λ unit. (unit.work.id == f.unit) ≡ true → UnitStep st (Fetch f) unit (record { work = extended unit.work f.batch; flying = Some f.batch.entries }))
    (λ unit here. record { id = refl; call = refl; segment = refl; node = refl; asked_at = refl; stage = Stays refl }) st.calling.units) all
each_unit st (Take t) P Q step fresh may n all =
    tested st (Take t) P Q step (λ unit. unit.work.id == t.unit) (λ unit. record unit { flying = None })
    (each_any (λ unit. (unit.work.id == t.unit) ≡ true → UnitStep st (Take t) unit (record unit { flying = None }))
    (λ unit here. record { id = refl; call = refl; segment = refl; node = refl; asked_at = refl; stage = Stays refl }) st.calling.units) all
each_unit st (Done number) P Q step fresh may n all =
    tested st (Done number) P Q step (λ unit. unit.work.id == number) (λ unit. record unit { work = ended unit.work })
    (each_imply (λ (unit : Unit). (unit.work.id == number) ≡ true → can_end_unit st (Some unit) ≡ true) (λ unit. (unit.work.id == number) ≡ true → UnitStep st (Done number) unit (record unit { work = ended unit.work }))
    (done_step st number) st.calling.units (each_named st number (can_end_unit st) refl may n)) all
