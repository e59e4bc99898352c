-- What a run keeps of its limits: owners, the number of the newest topology, and what was read.
use Rattle.std.proofs.Common.{◌≡◌, ℕ, zero, suc, ◌+◌, ◌≤◌, ◌<◌, ◌==◌, nat_le, Bool, true, false, not, ◌&&◌, cond, List, [], ◌∷◌, ◌++◌, map, length, length-append, None, Some, is_none, refl, sym, ap, arith, subst}
use Rattle.std.proofs.lemmas.Bool.{and_parts, eq-eqb, eqb-true, leb-true, or_left}
use Rattle.std.proofs.lemmas.List.FromFn.{length-range_with_len}
use Rattle.std.specs.FinMap as map_of
use Rattle.std.specs.List.{AllByRecursion, list_all, range_with_len}
use Rattle.std.specs.Ordering.{nat_cmp}
use Rattle.grid_base.specs.declared.limits.TheConstants.{MOST_BATCH, MOST_ROUNDS}
use Rattle.grid_event.specs.Configs.{is_up_to}
use Rattle.grid_event.specs.Weights.{total_weight}
use Rattle.grid_event.specs.declared.call_events.Ask.{Ask}
use Rattle.grid_event.specs.declared.call_events.RoundEvent.{RoundEvent}
use Rattle.grid_event.specs.declared.config.Config.{Config}
use Rattle.grid_event.specs.declared.event.Event.{Event}
use Rattle.grid_event.specs.declared.event.Event.TheVariants.{Write, Erase, Tick, Join, Depart, Announce, Install, Copy, Land, Invoke, Round, Begin, Scan, Fetch, Take, Done, Answer}
use Rattle.grid_event.specs.declared.request.Request.{Request}
use Rattle.hash_factory.proofs.Made.{owned_created}
use Rattle.hash_factory.specs.Formulas.{created}
use Rattle.local_publisher.specs.Units.{ended, extended}
use Rattle.topology_coord.proofs.NextLaws.{next_follows}
use Rattle.topology_coord.specs.Changes.{announces, departs, installs, joins}
use Rattle.topology_coord.specs.Coordination.{first_coordination, live_nodes, lives}
use Rattle.topology_phase.proofs.Mending.{HasSome}
use Rattle.topology_phase.specs.Following.{is_owned_by}
use Rattle.topology_phase.specs.Owners.{Hash, among, is_ownerless, owners_at}
use Rattle.topology_phase.specs.Topologies.{Topology}
use Rattle.cluster_model.proofs.Frames.{coord_stays, units_stays}
use Rattle.cluster_model.specs.Calls.{can_invoke, checks, new_call, is_request, rounded, unit_made}
use Rattle.cluster_model.specs.Kept.{IsKept}
use Rattle.cluster_model.specs.Laws.{moves_calls}
use Rattle.cluster_model.specs.State.{Call, State, Unit, call_of, is_open_unit, start, with_loss, with_unit}
use Rattle.cluster_model.specs.Step.{allowed, changed}
use Rattle.cluster_model.specs.Topologies.{all_copied, announced, ceases, departed, installed, joined, lost_by_departure, lost_by_installation}
use Rattle.cluster_model.specs.Units.{begun_unit, ended_unit, fetched, read_by, scanned, taken_by, with_begin}
use Rattle.cluster_laws.proofs.causes.CauseCalls.{found_answered, found_aside, found_departed, found_invoked, found_rounded, found_taken}
use Rattle.cluster_laws.proofs.causes.CauseUnits.{each_unit}
use Rattle.cluster_laws.proofs.causes.CauseWords.{row_below}
use Rattle.cluster_laws.proofs.Numbers.{NumberedFrom, none_below}
use Rattle.cluster_laws.proofs.copies.Requests.{may_announce}
use Rattle.cluster_laws.proofs.stuck.StuckTopologies.{CurrentOwned, next_owned}

-- each segment has a current owner; the number of the newest topology is at most one above how many events there were; no more was
-- read than the events have entries; the batches of calls are in their limit; and units are of the cluster's segments
pub record RoomOf (config : Config) (past : List Event) (st : State) : Type 0 where
  pub owned : CurrentOwned st.holding.coord.newest
  pub steps : st.holding.coord.newest.id ≤ 1 + length past
  pub read : read_by st.calling.units ≤ total_weight past
  pub batches : (number : ℕ) (call : Call) → call_of st.calling number ≡ Some call → call.request.batch ≤ MOST_BATCH
  pub segments : AllByRecursion (λ (unit : Unit). unit.work.segment < config.segments) st.calling.units

-- ---- the newest topology

-- the newest topology stays but for an announcement
newest_stays : (st : State) (event : Event) → ((next : Topology) → event ≡ Announce next → ⊥) → (changed st event).holding.coord.newest ≡ st.holding.coord.newest
unfolding joined departed lost_by_departure installed lost_by_installation joins departs installs
newest_stays st (Join q) other = refl
newest_stays st (Depart q) other = refl
newest_stays st (Install q id) other = refl
newest_stays st (Announce next) other = absurd (other next refl)
newest_stays st (Write w) other = ap (λ c. c.newest) (coord_stays st (Write w) refl)
newest_stays st (Erase w) other = ap (λ c. c.newest) (coord_stays st (Erase w) refl)
newest_stays st (Tick w) other = ap (λ c. c.newest) (coord_stays st (Tick w) refl)
newest_stays st (Copy w) other = ap (λ c. c.newest) (coord_stays st (Copy w) refl)
newest_stays st (Land r s) other = ap (λ c. c.newest) (coord_stays st (Land r s) refl)
newest_stays st (Invoke w) other = ap (λ c. c.newest) (coord_stays st (Invoke w) refl)
newest_stays st (Round w) other = ap (λ c. c.newest) (coord_stays st (Round w) refl)
newest_stays st (Begin u runs) other = ap (λ c. c.newest) (coord_stays st (Begin u runs) refl)
newest_stays st (Scan w) other = ap (λ c. c.newest) (coord_stays st (Scan w) refl)
newest_stays st (Fetch w) other = ap (λ c. c.newest) (coord_stays st (Fetch w) refl)
newest_stays st (Take w) other = ap (λ c. c.newest) (coord_stays st (Take w) refl)
newest_stays st (Done w) other = ap (λ c. c.newest) (coord_stays st (Done w) refl)
newest_stays st (Answer w) other = ap (λ c. c.newest) (coord_stays st (Answer w) refl)

-- each event keeps owners and numbers
newest_kept : (config : Config) (past : List Event) (st : State) (event : Event) → allowed st event ≡ true → IsKept config past st → CurrentOwned st.holding.coord.newest → st.holding.coord.newest.id ≤ 1 + length past →
    CurrentOwned (changed st event).holding.coord.newest × ((changed st event).holding.coord.newest.id ≤ 1 + length (event ∷ past))
unfolding announced announces
newest_kept config past st (Announce next) may kept owned steps =
    let is = may_announce config.segments st next kept.parts.topologies may in
    let follows = next_follows (all_copied st.holding) st.holding.coord next kept.parts.topologies.some_live kept.parts.topologies.owned is in
    (next_owned st.holding.coord.newest next (live_nodes st.holding.coord) is.near kept.parts.topologies.owned owned, let n = follows.next_id in omega arith)
newest_kept config past st event may kept owned steps = same (newest_stays st event (λ next e. cc))
  where
    same : (changed st event).holding.coord.newest ≡ st.holding.coord.newest → CurrentOwned (changed st event).holding.coord.newest × ((changed st event).holding.coord.newest.id ≤ 1 + length (event ∷ past))
    same e = (subst CurrentOwned (sym e) owned, let i = ap (λ (t : Topology). t.id) e in omega arith)

-- ---- what was read

-- a change that leaves what each unit has read
read_same : (change : Unit → Unit) → ((unit : Unit) → (change unit).work.entries ≡ unit.work.entries) → (units : List Unit) → read_by (map change units) ≡ read_by units
read_same change same [] = refl
read_same change same (unit ∷ units) = let e = ap length (same unit) in let r = read_same change same units in omega arith

-- and such a change of those that pass a test
read_tested : (test : Unit → Bool) (change : Unit → Unit) → ((unit : Unit) → (change unit).work.entries ≡ unit.work.entries) → (units : List Unit) → read_by (map (λ unit. cond (test unit) (change unit) unit) units) ≡ read_by units
read_tested test change same units = read_same (λ unit. cond (test unit) (change unit) unit) (λ unit. by_test unit (test unit)) units
  where
    by_test : (unit : Unit) (b : Bool) → (cond b (change unit) unit).work.entries ≡ unit.work.entries
    by_test unit true = same unit
    by_test unit false = refl

-- what two lists of units have read
read-append : (xs ys : List Unit) → read_by (xs ++ ys) ≡ read_by xs + read_by ys
read-append [] ys = omega arith
read-append (x ∷ xs) ys = let r = read-append xs ys in omega arith

-- units that are just asked have read nothing
read_none : (r : RoundEvent) (asks : List Ask) → read_by (map (unit_made r.call r.id) asks) ≡ 0
read_none r [] = refl
read_none r (ask ∷ asks) = let n = read_none r asks in omega arith

-- units that haven't the number stay as they are
read_others : (number : ℕ) (change : Unit → Unit) (units : List Unit) → AllByRecursion (λ (unit : Unit). (unit.work.id == number) ≡ false) units → read_by (with_unit number change units) ≡ read_by units
read_others number change [] a = refl
read_others number change (unit ∷ units) a =
    let h = ap (λ b. length (cond b (change unit) unit).work.entries) a.0 in let r = read_others number change units a.1 in omega arith

-- the unit of a number reads so many more
read_more : (number more n : ℕ) (change : Unit → Unit) → ((unit : Unit) → length (change unit).work.entries ≡ length unit.work.entries + more) → (units : List Unit) → NumberedFrom n units →
    read_by (with_unit number change units) ≤ read_by units + more
read_more number more n change adds [] a = omega arith
read_more number more n change adds (unit ∷ units) a = by_head (unit.work.id == number) refl (read_more number more (suc n) change adds units a.1)
  where
    by_head : (b : Bool) → (unit.work.id == number) ≡ b → read_by (with_unit number change units) ≤ read_by units + more →
        length (cond b (change unit) unit).work.entries + read_by (with_unit number change units) ≤ (length unit.work.entries + read_by units) + more
    by_head true t rest =
        let same : unit.work.id ≡ number = eqb-true unit.work.id number t in
        let first : unit.work.id ≡ n = a.0 in
        let r = read_others number change units (none_below number (suc n) (omega arith) units a.1) in
        let x = adds unit in omega arith
    by_head false t rest = omega arith

-- each event adds at most its entries to what was read
read_kept : (st : State) (event : Event) (past : List Event) → NumberedFrom 1 st.calling.units → read_by st.calling.units ≤ total_weight past → read_by (changed st event).calling.units ≤ total_weight (event ∷ past)
unfolding departed lost_by_departure installed lost_by_installation rounded begun_unit scanned fetched taken_by ended_unit
read_kept st (Depart node) past n h = let r = read_tested (λ unit. is_open_unit unit && (unit.work.node == node)) (with_loss None) (λ unit. refl) st.calling.units in omega arith
read_kept st (Install node id) past n h = let r = read_tested (ceases st.holding.coord.newest node) (with_loss (Some id)) (λ unit. refl) st.calling.units in omega arith
read_kept st (Round r) past n h = let a = read-append st.calling.units (map (unit_made r.call r.id) r.asks) in let b = read_none r r.asks in omega arith
read_kept st (Begin number runs) past n h = let r = read_tested (λ unit. unit.work.id == number) (with_begin st.holding runs) (λ unit. refl) st.calling.units in omega arith
read_kept st (Take t) past n h = let r = read_tested (λ unit. unit.work.id == t.unit) (λ unit. record unit { flying = None }) (λ unit. refl) st.calling.units in omega arith
read_kept st (Done number) past n h = let r = read_tested (λ unit. unit.work.id == number) (λ unit. record unit { work = ended unit.work }) (λ unit. refl) st.calling.units in omega arith
read_kept st (Scan s) past n h =
    let r = read_more s.unit (length s.batch.entries) 1 (λ unit. record unit { work = extended unit.work s.batch }) (λ unit. length-append unit.work.entries s.batch.entries) st.calling.units n in omega arith
read_kept st (Fetch f) past n h =
    let r = read_more f.unit (length f.batch.entries) 1 (λ unit. record { work = extended unit.work f.batch; flying = Some f.batch.entries }) (λ unit. length-append unit.work.entries f.batch.entries) st.calling.units n in omega arith
read_kept st (Write w) past n h = let e = ap read_by (units_stays st (Write w) refl) in omega arith
read_kept st (Erase w) past n h = let e = ap read_by (units_stays st (Erase w) refl) in omega arith
read_kept st (Tick w) past n h = let e = ap read_by (units_stays st (Tick w) refl) in omega arith
read_kept st (Join w) past n h = let e = ap read_by (units_stays st (Join w) refl) in omega arith
read_kept st (Announce w) past n h = let e = ap read_by (units_stays st (Announce w) refl) in omega arith
read_kept st (Copy w) past n h = let e = ap read_by (units_stays st (Copy w) refl) in omega arith
read_kept st (Land w s) past n h = let e = ap read_by (units_stays st (Land w s) refl) in omega arith
read_kept st (Invoke w) past n h = let e = ap read_by (units_stays st (Invoke w) refl) in omega arith
read_kept st (Answer w) past n h = let e = ap read_by (units_stays st (Answer w) refl) in omega arith

-- ---- batches

-- the batches of all calls are in their limit
abbrev InLimit : State → Type 0
InLimit st = (number : ℕ) (call : Call) → call_of st.calling number ≡ Some call → call.request.batch ≤ MOST_BATCH

-- an event that changes no call
batch_aside : (st : State) (event : Event) → moves_calls event ≡ false → InLimit st → InLimit (changed st event)
batch_aside st event other h number call e = h number call (found_aside st event other number call e)

-- a call that asks for the same
like : (before after : Call) → after.request ≡ before.request → before.request.batch ≤ MOST_BATCH → after.request.batch ≤ MOST_BATCH
like before after same h = subst (λ (q : Request). q.batch ≤ MOST_BATCH) (sym same) h

-- each event that may happen keeps batches in their limit
batches_kept : (st : State) (event : Event) → allowed st event ≡ true → InLimit st → InLimit (changed st event)
unfolding can_invoke
batches_kept st (Depart node) may h number call e =
    let was = found_departed st node number call e in
    subst (λ (c : Call). c.request.batch ≤ MOST_BATCH) was.1.1 (h number was.0 was.1.0)
batches_kept st (Invoke i) may h number call e = by_test (i.call == number) (found_invoked st i number call e)
  where
    limit : i.request.batch ≤ MOST_BATCH
    limit =
        let a = and_parts (lives st.holding.coord i.node) _ may in
        let b = and_parts (is_none (call_of st.calling i.call)) _ a.1 in
        let c = (and_parts _ (is_request st.holding.config.values i.request) b.1).1 in
        let d = and_parts (is_up_to MOST_ROUNDS i.request.rounds) (is_up_to MOST_BATCH i.request.batch && checks i.request.pipeline st.holding.config.values) c in
        let f = and_parts (is_up_to MOST_BATCH i.request.batch) (checks i.request.pipeline st.holding.config.values) d.1 in
        leb-true i.request.batch MOST_BATCH (and_parts (nat_le 1 i.request.batch) (nat_le i.request.batch MOST_BATCH) f.0).1

    by_test : (b : Bool) → cond b (new_call i.node i.request ≡ call) (call_of st.calling number ≡ Some call) → call.request.batch ≤ MOST_BATCH
    by_test true same = subst (λ (c : Call). c.request.batch ≤ MOST_BATCH) same limit
    by_test false there = h number call there
batches_kept st (Round r) may h number call e = by_test (r.call == number) (found_rounded st r number call e)
  where
    by_test : (b : Bool) → (before : Call) × ((call_of st.calling number ≡ Some before) × cond b (record before { rounds = before.rounds + 1; last_round = map (λ (ask : Ask). ask.unit) r.asks } ≡ call) (before ≡ call)) → call.request.batch ≤ MOST_BATCH
    by_test true was = like was.0 call (ap (λ (c : Call). c.request) (sym was.1.1)) (h number was.0 was.1.0)
    by_test false was = like was.0 call (ap (λ (c : Call). c.request) (sym was.1.1)) (h number was.0 was.1.0)
batches_kept st (Take t) may h number call e = let was = found_taken st t number call e in like was.before call was.request (h number was.before was.there)
batches_kept st (Answer a) may h number call e = by_test (a.call == number) (found_answered st a number call e)
  where
    by_test : (b : Bool) → (before : Call) × ((call_of st.calling number ≡ Some before) × cond b (record before { outcome = Some a.outcome } ≡ call) (before ≡ call)) → call.request.batch ≤ MOST_BATCH
    by_test true was = like was.0 call (ap (λ (c : Call). c.request) (sym was.1.1)) (h number was.0 was.1.0)
    by_test false was = like was.0 call (ap (λ (c : Call). c.request) (sym was.1.1)) (h number was.0 was.1.0)
batches_kept st (Write w) may h number call e = batch_aside st (Write w) refl h number call e
batches_kept st (Erase w) may h number call e = batch_aside st (Erase w) refl h number call e
batches_kept st (Tick w) may h number call e = batch_aside st (Tick w) refl h number call e
batches_kept st (Join w) may h number call e = batch_aside st (Join w) refl h number call e
batches_kept st (Announce w) may h number call e = batch_aside st (Announce w) refl h number call e
batches_kept st (Install w id) may h number call e = batch_aside st (Install w id) refl h number call e
batches_kept st (Copy w) may h number call e = batch_aside st (Copy w) refl h number call e
batches_kept st (Land w s) may h number call e = batch_aside st (Land w s) refl h number call e
batches_kept st (Begin w runs) may h number call e = batch_aside st (Begin w runs) refl h number call e
batches_kept st (Scan w) may h number call e = batch_aside st (Scan w) refl h number call e
batches_kept st (Fetch w) may h number call e = batch_aside st (Fetch w) refl h number call e
batches_kept st (Done w) may h number call e = batch_aside st (Done w) refl h number call e

-- ---- all together

-- each event that may happen keeps it
pub room_kept : (config : Config) (past : List Event) (st : State) (event : Event) → allowed st event ≡ true → IsKept config past st → NumberedFrom 1 st.calling.units → RoomOf config past st → RoomOf config (event ∷ past) (changed st event)
room_kept config past st event may kept numbered h =
    let newest = newest_kept config past st event may kept h.owned h.steps in
    record {
      owned = newest.0;
      steps = newest.1;
      read = read_kept st event past numbered h.read;
      batches = batches_kept st event may h.batches;
      segments = each_unit st event (λ (unit : Unit). unit.work.segment < config.segments) (λ (unit : Unit). unit.work.segment < config.segments)
          (λ before after u within. let e = u.segment in omega arith)
          (λ r call ask e known fresh. let n = kept.told.segments in let b = row_below 0 st.calling.segments ask.segment fresh.within in omega arith) may numbered h.segments;
    }

-- a row of a hash whose segments all have owners
row_owned : (live : List ℕ) (hash : Hash) (s : ℕ) → s < length hash → is_owned_by live hash ≡ true → HasSome (owners_at hash s)
row_owned live [] s within h = absurd (omega arith)
row_owned live ([] ∷ hash) zero within h = absurd (cc)
row_owned live ((n ∷ owners) ∷ hash) zero within h = (n, or_left (n == n) (among n owners) (eq-eqb n n refl))
row_owned live (owners ∷ hash) (suc s) within h = row_owned live hash s (omega arith) (and_parts (not (is_ownerless owners) && list_all (λ n. among n live) owners) (is_owned_by live hash) h).1

-- at the start
pub room_start : (config : Config) → 0 < config.nodes → 0 < config.owners → RoomOf config [] (start config)
unfolding first_coordination
room_start config nodes owners = record {
  owned = λ s within. row_owned (range_with_len 0 config.nodes) (created (range_with_len 0 config.nodes) config.segments config.owners) s within
      (owned_created (range_with_len 0 config.nodes) config.segments config.owners (let l = length-range_with_len 0 config.nodes in omega arith) owners);
  steps = omega arith;
  read = omega arith;
  batches = λ number call e. let none : call_of (start config).calling number ≡ None = map_of.get-empty {X = Call} nat_cmp number in absurd (cc);
  segments = tt;
}
