-- Each kind of event leaves open units at live nodes, and running ones where they are read.
use Rattle.std.proofs.Common.{◌≡◌, ℕ, ◌+◌, ◌==◌, true, ◌&&◌, cond, List, map, length, None, Some, refl, sym, ◌∙◌, subst}
use Rattle.grid_event.specs.declared.call_events.RoundEvent.{RoundEvent}
use Rattle.grid_event.specs.declared.event.Event.{Event}
use Rattle.grid_event.specs.declared.event.Event.TheVariants.{Write, Erase, Tick, Join, Depart, Announce, Install, Copy, Land, Invoke, Round, Begin, Scan, Fetch, Take, Done, Answer}
use Rattle.local_publisher.specs.Units.{ended, extended}
use Rattle.local_publisher.specs.declared.unit_state.UnitState.TheVariants.{Ended}
use Rattle.topology_coord.proofs.MemberLaws.{topology-announces, topology_newest}
use Rattle.topology_coord.specs.Changes.{announces, departs, installs}
use Rattle.topology_coord.specs.Coordination.{Coordination, all_installed}
use Rattle.topology_phase.specs.Topologies.{Topology}
use Rattle.cluster_model.proofs.Frames.{coord_stays, units_stays}
use Rattle.cluster_model.specs.Calls.{incomplete, rounded, unit_made}
use Rattle.cluster_model.specs.Kept.{KeepsTopologies}
use Rattle.cluster_model.specs.State.{Call, State, Unit, is_open_unit, with_loss}
use Rattle.cluster_model.specs.Step.{allowed, changed}
use Rattle.cluster_model.specs.Topologies.{announced, can_join, ceases, departed, installed, joined, lost_by_departure, lost_by_installation}
use Rattle.cluster_model.specs.Units.{begun_unit, can_begin, can_begin_unit, ended_unit, fetched, scanned, taken_by, with_begin}
use Rattle.cluster_laws.proofs.Lists.{each-append, each_changed, each_imply}
use Rattle.cluster_laws.proofs.Numbers.{NumberedFrom}
use Rattle.cluster_laws.proofs.units.UnitFacts.{CanRound, each_named, round_facts}
use Rattle.cluster_laws.proofs.units.UnitPlaces.{AllPlaced, Placed, asked_placed, begin_placed, closed, departs_one, due_readers, installs_one, joins_placed, keeps_place, moved, named_placed}

-- an announcement: every live node keeps the topology that it has
announces_placed : (c : Coordination) (next : Topology) (units : List Unit) → all_installed c ≡ true → next.id ≡ c.newest.id + 1 → AllPlaced c units → AllPlaced (announces c next) units
unfolding announces
announces_placed c next units all more =
    each_imply (Placed c) (Placed (announces c next))
    (moved c (announces c next) (λ n l. l) (λ n l. topology-announces c next all more n l ∙ sym (topology_newest c all n l))) units

-- events that leave members and units as they are
same_placed : (st : State) (event : Event) → (changed st event).holding.coord ≡ st.holding.coord → (changed st event).calling.units ≡ st.calling.units → AllPlaced st.holding.coord st.calling.units → AllPlaced (changed st event).holding.coord (changed st event).calling.units
same_placed st event c u p = subst (λ d. AllPlaced d (changed st event).calling.units) (sym c) (subst (AllPlaced st.holding.coord) (sym u) p)

-- events that leave members as they are, and change units
units_placed : (st : State) (event : Event) → (changed st event).holding.coord ≡ st.holding.coord → AllPlaced st.holding.coord (changed st event).calling.units → AllPlaced (changed st event).holding.coord (changed st event).calling.units
units_placed st event c p = subst (λ d. AllPlaced d (changed st event).calling.units) (sym c) p

-- the units that a round makes are placed
round_placed : (st : State) (r : RoundEvent) → allowed st (Round r) ≡ true → AllPlaced st.holding.coord st.calling.units → AllPlaced st.holding.coord (rounded st.calling r).units
unfolding rounded
round_placed st r may p =
    let found : (call : Call) × CanRound st r call = round_facts st r may in
    each-append (Placed st.holding.coord) st.calling.units (map (unit_made r.call r.id) r.asks) p
    (subst (λ asks. AllPlaced st.holding.coord (map (unit_made r.call r.id) asks)) (sym found.1.asks)
    (asked_placed st r found.0.originator (length st.calling.units + 1) (incomplete st.calling r.call) (due_readers st r.call found.0 found.1.due)))

-- every event that may happen leaves units placed
pub all_placed : (segments : ℕ) (st : State) (event : Event) → allowed st event ≡ true → KeepsTopologies segments st.holding.coord → NumberedFrom 1 st.calling.units →
    ((next : Topology) → event ≡ Announce next → (all_installed st.holding.coord ≡ true) × (next.id ≡ st.holding.coord.newest.id + 1)) →
    AllPlaced st.holding.coord st.calling.units → AllPlaced (changed st event).holding.coord (changed st event).calling.units
unfolding joined departed lost_by_departure installed lost_by_installation announced begun_unit scanned fetched taken_by ended_unit can_begin can_join
all_placed segments st (Write w) may h n next p = same_placed st (Write w) (coord_stays st (Write w) refl) (units_stays st (Write w) refl) p
all_placed segments st (Erase e) may h n next p = same_placed st (Erase e) (coord_stays st (Erase e) refl) (units_stays st (Erase e) refl) p
all_placed segments st (Tick ticks) may h n next p = same_placed st (Tick ticks) (coord_stays st (Tick ticks) refl) (units_stays st (Tick ticks) refl) p
all_placed segments st (Copy c) may h n next p = same_placed st (Copy c) (coord_stays st (Copy c) refl) (units_stays st (Copy c) refl) p
all_placed segments st (Land receiver segment) may h n next p = same_placed st (Land receiver segment) (coord_stays st (Land receiver segment) refl) (units_stays st (Land receiver segment) refl) p
all_placed segments st (Invoke i) may h n next p = same_placed st (Invoke i) (coord_stays st (Invoke i) refl) (units_stays st (Invoke i) refl) p
all_placed segments st (Answer a) may h n next p = same_placed st (Answer a) (coord_stays st (Answer a) refl) (units_stays st (Answer a) refl) p
all_placed segments st (Join node) may h n next p = joins_placed segments st.holding.coord node st.calling.units h may p
all_placed segments st (Depart node) may h n next p =
    each_changed (Placed st.holding.coord) (Placed st.holding.coord) (Placed (departs st.holding.coord node)) (λ unit. cond (is_open_unit unit && (unit.work.node == node)) (with_loss None unit) unit)
    (λ unit q r. departs_one st.holding.coord node unit q) st.calling.units p p
all_placed segments st (Announce topology) may h n next p = announces_placed st.holding.coord topology st.calling.units (next topology refl).0 (next topology refl).1 p
all_placed segments st (Install node id) may h n next p =
    each_changed (Placed st.holding.coord) (Placed st.holding.coord) (Placed (installs st.holding.coord node)) (λ unit. cond (ceases st.holding.coord.newest node unit) (with_loss (Some id) unit) unit)
    (λ unit q r. installs_one st node id unit q) st.calling.units p p
all_placed segments st (Round r) may h n next p = units_placed st (Round r) (coord_stays st (Round r) refl) (round_placed st r may p)
all_placed segments st (Begin number runs) may h n next p =
    named_placed st.holding.coord number (with_begin st.holding runs) st.calling.units
    (each_imply (λ (unit : Unit). (unit.work.id == number) ≡ true → can_begin_unit st runs (Some unit) ≡ true) (λ (unit : Unit). (unit.work.id == number) ≡ true → Placed st.holding.coord unit → Placed st.holding.coord (with_begin st.holding runs unit))
    (begin_placed st number runs) st.calling.units (each_named st number (can_begin_unit st runs) refl may n)) p
all_placed segments st (Scan s) may h n next p =
    named_placed st.holding.coord s.unit (λ unit. record unit { work = extended unit.work s.batch }) st.calling.units (keeps_place st.holding.coord s.unit (λ unit. record unit { work = extended unit.work s.batch }) st.calling.units (λ unit q. q)) p
all_placed segments st (Fetch f) may h n next p =
    named_placed st.holding.coord f.unit (λ unit. record { work = extended unit.work f.batch; flying = Some f.batch.entries }) st.calling.units
    (keeps_place st.holding.coord f.unit (λ unit. record { work = extended unit.work f.batch; flying = Some f.batch.entries }) st.calling.units (λ unit q. q)) p
all_placed segments st (Take t) may h n next p =
    named_placed st.holding.coord t.unit (λ unit. record unit { flying = None }) st.calling.units (keeps_place st.holding.coord t.unit (λ unit. record unit { flying = None }) st.calling.units (λ unit q. q)) p
all_placed segments st (Done number) may h n next p =
    named_placed st.holding.coord number (λ unit. record unit { work = ended unit.work }) st.calling.units
    (keeps_place st.holding.coord number (λ unit. record unit { work = ended unit.work }) st.calling.units (λ unit q. closed st.holding.coord unit.work.node unit.work.segment Ended refl refl)) p
