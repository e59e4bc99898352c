-- Where open units are: at live nodes, and those that run at nodes that read their segment.
use Rattle.std.proofs.Common.{◌≡◌, ℕ, ◌+◌, ◌==◌, nat_lt, Bool, true, false, not, ◌&&◌, ◌||◌, cond, List, [], ◌∷◌, map, None, Some, refl, sym, ap, ◌∙◌, if◌then◌else◌, unwrap_or}
use Rattle.std.proofs.lemmas.Bool.{and_parts, eqb-true}
use Rattle.std.specs.Bool.{beq}
use Rattle.std.specs.List.{AllByRecursion, find, list_all, list_any}
use Rattle.std.specs.FinSet as set_of
use Rattle.grid_event.specs.declared.call_events.RoundEvent.{RoundEvent}
use Rattle.local_publisher.specs.Stages.{is_open}
use Rattle.local_publisher.specs.declared.unit_state.UnitState.{UnitState}
use Rattle.local_publisher.specs.declared.unit_state.UnitState.TheVariants.{Asked, Running, Refused, Lost, Ended}
use Rattle.topology_coord.proofs.MemberLaws.{lives-departs, lives-installs, lives-joins, topology-departs, topology-installs, topology-joins}
use Rattle.topology_coord.specs.Changes.{departs, installs, joins, may_join}
use Rattle.topology_coord.specs.Coordination.{Coordination, installed_id, lives, topology_of}
use Rattle.topology_phase.specs.Owners.{among}
use Rattle.topology_phase.specs.Topologies.{read_owners}
use Rattle.cluster_model.specs.Calls.{all_complete, asks_from, granted, has_caught_up, has_open, incomplete, is_due, unit_made}
use Rattle.cluster_model.specs.Kept.{KeepsTopologies}
use Rattle.cluster_model.specs.State.{Call, State, Unit, call_of, goes_on, is_asked, is_open_unit, is_running, with_loss, with_unit}
use Rattle.cluster_model.specs.Topologies.{ceases}
use Rattle.cluster_model.specs.Units.{can_begin_unit, reads, with_begin}
use Rattle.cluster_model.specs.Writes.{has_reader}
use Rattle.cluster_laws.proofs.Lists.{each_changed, each_imply}

-- an open unit's node lives; and while the unit runs, its node reads its segment by the topology that it has installed
pub record IsPlaced (c : Coordination) (node segment : ℕ) (stage : UnitState) : Type 0 where
  pub live : is_open stage ≡ true → lives c node ≡ true
  pub reading : is_running stage ≡ true → among node (read_owners (topology_of c node) segment) ≡ true

-- a unit is placed
abbrev pub Placed : Coordination → Unit → Type 0
Placed c unit = IsPlaced c unit.work.node unit.work.segment unit.work.state

-- all units are placed
abbrev pub AllPlaced : Coordination → List Unit → Type 0
AllPlaced c units = AllByRecursion (Placed c) units

-- a unit that runs is open
pub running_open : (stage : UnitState) → is_running stage ≡ true → is_open stage ≡ true
running_open Asked h = refl
running_open Running h = refl
running_open (Refused at) h = absurd (cc)
running_open (Lost at) h = absurd (cc)
running_open Ended h = absurd (cc)

-- a unit that isn't open is anywhere
pub closed : (c : Coordination) (node segment : ℕ) (stage : UnitState) → is_open stage ≡ false → is_running stage ≡ false → IsPlaced c node segment stage
closed c node segment stage o r = record { live = λ h. absurd (cc); reading = λ h. absurd (cc) }

-- where live nodes live on and read by the same topology, units stay where they are
pub moved : (c d : Coordination) → ((node : ℕ) → lives c node ≡ true → lives d node ≡ true) → ((node : ℕ) → lives c node ≡ true → topology_of d node ≡ topology_of c node) →
    (unit : Unit) → Placed c unit → Placed d unit
moved c d on same unit p = record {
  live = λ o. on unit.work.node (p.live o);
  reading = λ r.
      ap (λ t. among unit.work.node (read_owners t unit.work.segment)) (same unit.work.node (p.live (running_open unit.work.state r))) ∙ p.reading r;
}

-- a join: the node wasn't there
pub joins_placed : (segments : ℕ) (c : Coordination) (node : ℕ) (units : List Unit) → KeepsTopologies segments c → may_join c node ≡ true → AllPlaced c units → AllPlaced (joins c node) units
joins_placed segments c node units h may = each_imply (Placed c) (Placed (joins c node)) (moved c (joins c node) on same) units
  where
    on : (n : ℕ) → lives c n ≡ true → lives (joins c node) n ≡ true
    on n l = lives-joins c node n ∙ ap (λ b. (n == node) || b) l ∙ either_way (n == node)
      where
        either_way : (b : Bool) → (b || true) ≡ true
        either_way true = refl
        either_way false = refl

    other : (n : ℕ) → lives c n ≡ true → (n == node) ≡ false
    other n l = apart (n == node) refl
      where
        apart : (b : Bool) → (n == node) ≡ b → b ≡ false
        apart false e = refl
        apart true e =
            let there : set_of.contains c.ever node ≡ true = ap (set_of.contains c.ever) (sym (eqb-true n node e)) ∙ h.member n l in
            let never = (and_parts (not (set_of.contains c.ever node)) _ may).0 in absurd (cc)

    same : (n : ℕ) → lives c n ≡ true → topology_of (joins c node) n ≡ topology_of c n
    same n l = topology-joins c node n ∙ ap (λ b. cond b c.newest (topology_of c n)) (other n l)

-- a departure: the units at the node are lost
pub departs_one : (c : Coordination) (node : ℕ) (unit : Unit) → Placed c unit → Placed (departs c node) (cond (is_open_unit unit && (unit.work.node == node)) (with_loss None unit) unit)
departs_one c node unit p = by_test (is_open_unit unit && (unit.work.node == node)) refl
  where
    by_test : (b : Bool) → (is_open_unit unit && (unit.work.node == node)) ≡ b → Placed (departs c node) (cond b (with_loss None unit) unit)
    by_test true t = closed (departs c node) unit.work.node unit.work.segment (Lost None) refl refl
    by_test false t = record { live = on; reading = λ r. ap (λ x. among unit.work.node (read_owners x unit.work.segment)) (topology-departs c node unit.work.node (on (running_open unit.work.state r))) ∙ p.reading r }
      where
        elsewhere : is_open unit.work.state ≡ true → (unit.work.node == node) ≡ false
        elsewhere o = right_of (is_open unit.work.state) (unit.work.node == node) o t
          where
            right_of : (a b : Bool) → a ≡ true → (a && b) ≡ false → b ≡ false
            right_of true b o t = t
            right_of false b o t = absurd (cc)

        on : is_open unit.work.state ≡ true → lives (departs c node) unit.work.node ≡ true
        on o = lives-departs c node unit.work.node ∙ ap (λ b. not b && lives c unit.work.node) (elsewhere o) ∙ p.live o

-- an installation: the units that the node ceases to read for are lost
pub installs_one : (st : State) (node id : ℕ) (unit : Unit) → Placed st.holding.coord unit → Placed (installs st.holding.coord node) (cond (ceases st.holding.coord.newest node unit) (with_loss (Some id) unit) unit)
installs_one st node id unit p = by_test (ceases st.holding.coord.newest node unit) refl
  where
    by_test : (b : Bool) → ceases st.holding.coord.newest node unit ≡ b → Placed (installs st.holding.coord node) (cond b (with_loss (Some id) unit) unit)
    by_test true t = closed (installs st.holding.coord node) unit.work.node unit.work.segment (Lost (Some id)) refl refl
    by_test false t = record {
      live = λ o. lives-installs st.holding.coord node unit.work.node ∙ ap (λ b. (unit.work.node == node) || b) (p.live o) ∙ either_way (unit.work.node == node);
      reading = λ r.
          ap (λ x. among unit.work.node (read_owners x unit.work.segment)) (topology-installs st.holding.coord node unit.work.node)
          ∙ by_node (unit.work.node == node) refl r;
    }
      where
        either_way : (b : Bool) → (b || true) ≡ true
        either_way true = refl
        either_way false = refl

        by_node : (b : Bool) → (unit.work.node == node) ≡ b → is_running unit.work.state ≡ true →
            among unit.work.node (read_owners (cond b st.holding.coord.newest (topology_of st.holding.coord unit.work.node)) unit.work.segment) ≡ true
        by_node false e r = p.reading r
        by_node true e r =
            ap (λ n. among n (read_owners st.holding.coord.newest unit.work.segment)) (eqb-true unit.work.node node e)
            ∙ still_reads (is_running unit.work.state) (unit.work.node == node) (among node (read_owners st.holding.coord.newest unit.work.segment)) r e t
          where
            still_reads : (a b d : Bool) → a ≡ true → b ≡ true → (a && (b && not d)) ≡ false → d ≡ true
            still_reads true true true x y z = refl
            still_reads true true false x y z = absurd (cc)
            still_reads true false d x y z = absurd (cc)
            still_reads false b d x y z = absurd (cc)

-- units of a round are asked at live nodes
found_lives : (p : ℕ → Bool) (xs : List ℕ) → list_any p xs ≡ true → p (unwrap_or (find p xs) 0) ≡ true
found_lives p [] h = absurd (cc)
found_lives p (x ∷ xs) h = by_head (p x) refl h (λ rest. found_lives p xs rest)
  where
    by_head : (b : Bool) → p x ≡ b → (b || list_any p xs) ≡ true → (list_any p xs ≡ true → p (unwrap_or (find p xs) 0) ≡ true) → p (unwrap_or (cond b (Some x) (find p xs)) 0) ≡ true
    by_head true e h further = e
    by_head false e h further = further h

-- units that are asked of first live readers are placed
pub asked_placed : (st : State) (r : RoundEvent) (originator n : ℕ) (segments : List ℕ) → list_all (has_reader st.holding originator) segments ≡ true →
    AllPlaced st.holding.coord (map (unit_made r.call r.id) (asks_from st.holding originator n segments))
asked_placed st r originator n [] h = tt
asked_placed st r originator n (segment ∷ segments) h =
    let p = and_parts (has_reader st.holding originator segment) (list_all (has_reader st.holding originator) segments) h in (
      record { live = λ o. found_lives (lives st.holding.coord) (read_owners (topology_of st.holding.coord originator) segment) p.0; reading = λ q. absurd (cc) },
      asked_placed st r originator (n + 1) segments p.1,
    )

-- where a round is due, each incomplete segment has a live reader
pub due_readers : (st : State) (number : ℕ) (call : Call) → is_due st number call ≡ true → list_all (has_reader st.holding call.originator) (incomplete st.calling number) ≡ true
due_readers st number call h =
    let a = and_parts (set_of.len call.lost == 0) (not (has_open st.calling number) && (nat_lt call.rounds (granted call) && (not (all_complete st.calling number) && (list_all (has_reader st.holding call.originator) (incomplete st.calling number) && has_caught_up st call)))) h in
    let b = and_parts (not (has_open st.calling number)) (nat_lt call.rounds (granted call) && (not (all_complete st.calling number) && (list_all (has_reader st.holding call.originator) (incomplete st.calling number) && has_caught_up st call))) a.1 in
    let d = and_parts (nat_lt call.rounds (granted call)) (not (all_complete st.calling number) && (list_all (has_reader st.holding call.originator) (incomplete st.calling number) && has_caught_up st call)) b.1 in
    let e = and_parts (not (all_complete st.calling number)) (list_all (has_reader st.holding call.originator) (incomplete st.calling number) && has_caught_up st call) d.1 in
    (and_parts (list_all (has_reader st.holding call.originator) (incomplete st.calling number)) (has_caught_up st call) e.1).0

-- a unit that an event names comes to run only where its node reads, and else stays as it was or is closed
pub named_placed : (c : Coordination) (number : ℕ) (change : Unit → Unit) (units : List Unit) →
    AllByRecursion (λ (unit : Unit). (unit.work.id == number) ≡ true → Placed c unit → Placed c (change unit)) units → AllPlaced c units → AllPlaced c (with_unit number change units)
named_placed c number change units f p =
    each_changed (Placed c) (λ (unit : Unit). (unit.work.id == number) ≡ true → Placed c unit → Placed c (change unit)) (Placed c) (λ unit. cond (unit.work.id == number) (change unit) unit) one units p f
  where
    one : (unit : Unit) → Placed c unit → ((unit.work.id == number) ≡ true → Placed c unit → Placed c (change unit)) → Placed c (cond (unit.work.id == number) (change unit) unit)
    one unit p f = by_test (unit.work.id == number) refl
      where
        by_test : (b : Bool) → (unit.work.id == number) ≡ b → Placed c (cond b (change unit) unit)
        by_test true t = f t p
        by_test false t = p

-- flags that pass the test of sameness are equal
pub same_flag : (a b : Bool) → beq a b ≡ true → a ≡ b
same_flag true true h = refl
same_flag false false h = refl
same_flag true false h = absurd (cc)
same_flag false true h = absurd (cc)

-- a change that leaves node, segment and stage
pub keeps_place : (c : Coordination) (number : ℕ) (change : Unit → Unit) (units : List Unit) → ((unit : Unit) → Placed c unit → Placed c (change unit)) →
    AllByRecursion (λ (unit : Unit). (unit.work.id == number) ≡ true → Placed c unit → Placed c (change unit)) units
keeps_place c number change [] f = tt
keeps_place c number change (unit ∷ units) f = ((λ here p. f unit p), keeps_place c number change units f)

-- a unit that begins is placed: it runs only where its node reads the segment
pub begin_placed : (st : State) (number : ℕ) (runs : Bool) (unit : Unit) → ((unit.work.id == number) ≡ true → can_begin_unit st runs (Some unit) ≡ true) →
    (unit.work.id == number) ≡ true → Placed st.holding.coord unit → Placed st.holding.coord (with_begin st.holding runs unit)
begin_placed st number runs unit test here p =
    let a = and_parts (goes_on st.holding (call_of st.calling unit.work.call)) _ (test here) in
    let b : (is_asked unit.work.state ≡ true) × _ = and_parts (is_asked unit.work.state) _ a.1 in
    let d = and_parts _ (beq runs (reads st.holding unit)) b.1 in
    by_runs runs (same_flag runs (reads st.holding unit) d.1) (asked_opens unit.work.state b.0)
  where
    asked_opens : (stage : UnitState) → is_asked stage ≡ true → is_open stage ≡ true
    asked_opens Asked h = refl
    asked_opens Running h = absurd (cc)
    asked_opens (Refused at) h = absurd (cc)
    asked_opens (Lost at) h = absurd (cc)
    asked_opens Ended h = absurd (cc)

    by_runs : (runs : Bool) → runs ≡ reads st.holding unit → is_open unit.work.state ≡ true → IsPlaced st.holding.coord unit.work.node unit.work.segment (if runs then Running else Refused (installed_id st.holding.coord unit.work.node))
    by_runs true e o = record { live = λ h. p.live o; reading = λ h. sym e }
    by_runs false e o = closed st.holding.coord unit.work.node unit.work.segment (Refused (installed_id st.holding.coord unit.work.node)) refl refl
