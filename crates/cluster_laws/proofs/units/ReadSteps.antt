-- Each event keeps what is known of what units have read.
use Rattle.std.proofs.Common.{◌≡◌, ℕ, ◌+◌, ◌≤◌, ◌<◌, ◌==◌, Bool, true, false, cond, List, [], ◌∷◌, ◌++◌, map, length, length-append, Option, refl, sym, ◌∙◌, arith, subst}
use Rattle.std.proofs.lemmas.Bool.Decides.{nat_tests}
use Rattle.std.specs.List.{AllByRecursion}
use Rattle.grid_event.specs.UnitHistories.{has_ended}
use Rattle.grid_event.specs.declared.call_events.RoundEvent.{RoundEvent}
use Rattle.grid_event.specs.declared.config.Config.{Config}
use Rattle.grid_event.specs.declared.event.Event.{Event}
use Rattle.grid_event.specs.declared.event.Event.TheVariants.{Round}
use Rattle.local_publisher.specs.Stages.{is_open}
use Rattle.local_publisher.specs.declared.unit_state.UnitState.{UnitState}
use Rattle.local_publisher.specs.declared.unit_state.UnitState.TheVariants.{Asked, Running, Refused, Lost, Ended}
use Rattle.cluster_model.specs.Completion.{begins}
use Rattle.cluster_model.specs.Calls.{asks_from, can_round, incomplete, rounded, unit_made}
use Rattle.cluster_model.specs.State.{Call, State, Unit, is_ended, is_open_unit, with_loss, with_unit}
use Rattle.cluster_laws.proofs.Lists.{each-append, each_changed, each_imply}
use Rattle.cluster_laws.proofs.Numbers.{NumberedFrom, numbered-append, numbered-map}
use Rattle.cluster_laws.proofs.units.Reading.{ReadOf, carried}
use Rattle.cluster_laws.proofs.units.UnitFacts.{CanRound, asked_numbered, round_facts}

-- what is kept of one unit
abbrev pub ReadKept : Config → List Event → Unit → Type 0
ReadKept config past unit =
    ReadOf config past unit.work.id unit.work.segment unit.work.node unit.work.entries unit.work.last unit.work.state

-- what is kept of all units: they are numbered from 1 on, a number that is none yet hasn't ended, and of each what it has read
pub record UnitsKept (config : Config) (past : List Event) (units : List Unit) : Type 0 where
  pub numbered : NumberedFrom 1 units
  pub unborn : (id : ℕ) → length units < id → has_ended past id ≡ false
  pub read : AllByRecursion (ReadKept config past) units

-- an event that begins and ends no unit
abbrev pub IsAside : Event → Type 0
IsAside event = (id : ℕ) (past : List Event) → (begins id event ≡ false) × (has_ended (event ∷ past) id ≡ has_ended past id)

-- a unit that such an event leaves as it is
pub still : (config : Config) (past : List Event) (event : Event) → IsAside event → (unit : Unit) → ReadKept config past unit → ReadKept config (event ∷ past) unit
still config past event aside unit r =
    carried config past event unit.work.id unit.work.segment unit.work.node unit.work.entries unit.work.last unit.work.state unit.work.state
    (aside unit.work.id past).0 ((aside unit.work.id past).1 ∙ r.told) (λ h. h) (λ h. h) r

-- such an event that leaves all units as they are
pub stays : (config : Config) (past : List Event) (event : Event) (units : List Unit) → IsAside event → UnitsKept config past units → UnitsKept config (event ∷ past) units
stays config past event units aside k = record {
  numbered = k.numbered;
  unborn = λ id more. (aside id past).1 ∙ k.unborn id more;
  read = each_imply (ReadKept config past) (ReadKept config (event ∷ past)) (still config past event aside) units k.read;
}

-- a change of units leaves how many there are
length-map_same : (change : Unit → Unit) (units : List Unit) → length (map change units) ≡ length units
length-map_same change [] = refl
length-map_same change (unit ∷ units) = let h = length-map_same change units in omega arith

-- such an event that loses open units
abbrev losing : Option ℕ → (Unit → Bool) → Unit → Unit
losing at test unit = cond (test unit) (with_loss at unit) unit

-- an open unit hasn't ended
open_unended : (stage : UnitState) → is_open stage ≡ true → is_ended stage ≡ false
open_unended Asked h = refl
open_unended Running h = refl
open_unended (Refused at) h = refl
open_unended (Lost at) h = refl
open_unended Ended h = absurd (cc)

-- a unit that is lost where it passes the test keeps what is known of what it read
lost_one : (config : Config) (past : List Event) (event : Event) (at : Option ℕ) (test : Unit → Bool) → IsAside event →
    ((unit : Unit) → test unit ≡ true → is_open_unit unit ≡ true) → (unit : Unit) → ReadKept config past unit → ReadKept config (event ∷ past) (losing at test unit)
lost_one config past event at test aside opens unit r = by_test (test unit) refl
  where
    by_test : (b : Bool) → test unit ≡ b → ReadKept config (event ∷ past) (cond b (with_loss at unit) unit)
    by_test true t =
        carried config past event unit.work.id unit.work.segment unit.work.node unit.work.entries unit.work.last unit.work.state (Lost at)
        (aside unit.work.id past).0 ((aside unit.work.id past).1 ∙ r.told ∙ open_unended unit.work.state (opens unit t)) (λ h. absurd (cc)) (λ h. absurd (cc)) r
    by_test false t = still config past event aside unit r

-- a loss leaves a unit's number
lost_id : (at : Option ℕ) (test : Unit → Bool) (unit : Unit) → (losing at test unit).work.id ≡ unit.work.id
lost_id at test unit = by_test (test unit)
  where
    by_test : (b : Bool) → (cond b (with_loss at unit) unit).work.id ≡ unit.work.id
    by_test true = refl
    by_test false = refl

-- an event that loses open units keeps what is known of all units
pub loses_units : (config : Config) (past : List Event) (event : Event) (at : Option ℕ) (test : Unit → Bool) (units : List Unit) → IsAside event →
    ((unit : Unit) → test unit ≡ true → is_open_unit unit ≡ true) → UnitsKept config past units → UnitsKept config (event ∷ past) (map (losing at test) units)
loses_units config past event at test units aside opens k = record {
  numbered = numbered-map (losing at test) (lost_id at test) 1 units k.numbered;
  unborn = λ id more. (aside id past).1 ∙ k.unborn id (let l = length-map_same (losing at test) units in omega arith);
  read = each_changed (ReadKept config past) (λ unit. ReadKept config past unit) (ReadKept config (event ∷ past)) (losing at test)
      (λ unit r s. lost_one config past event at test aside opens unit r) units k.read k.read;
}

-- an event that changes the unit of a number, and leaves the others
named_id : (number : ℕ) (change : Unit → Unit) → ((unit : Unit) → (change unit).work.id ≡ unit.work.id) → (unit : Unit) → (cond (unit.work.id == number) (change unit) unit).work.id ≡ unit.work.id
named_id number change keeps unit = by_test (unit.work.id == number)
  where
    by_test : (b : Bool) → (cond b (change unit) unit).work.id ≡ unit.work.id
    by_test true = keeps unit
    by_test false = refl

-- what such an event is to keep of each unit that has the number, and what it says of the others
abbrev pub KeepsNamed : Config → List Event → Event → ℕ → (Unit → Unit) → Unit → Type 0
KeepsNamed config past event number change unit = (unit.work.id == number) ≡ true → ReadKept config past unit → ReadKept config (event ∷ past) (change unit)

-- the event begins and ends no unit but the one of the number
abbrev pub IsAsideOthers : Event → ℕ → Type 0
IsAsideOthers event number = (id : ℕ) (past : List Event) → (id == number) ≡ false → (begins id event ≡ false) × (has_ended (event ∷ past) id ≡ has_ended past id)

-- such an event keeps what is known of one unit
pub named_one : (config : Config) (past : List Event) (event : Event) (number : ℕ) (change : Unit → Unit) → IsAsideOthers event number → (unit : Unit) →
    ReadKept config past unit → KeepsNamed config past event number change unit → ReadKept config (event ∷ past) (cond (unit.work.id == number) (change unit) unit)
named_one config past event number change others unit r f = by_test (unit.work.id == number) refl
  where
    by_test : (b : Bool) → (unit.work.id == number) ≡ b → ReadKept config (event ∷ past) (cond b (change unit) unit)
    by_test true t = f t r
    by_test false t =
        carried config past event unit.work.id unit.work.segment unit.work.node unit.work.entries unit.work.last unit.work.state unit.work.state
        (others unit.work.id past t).0 ((others unit.work.id past t).1 ∙ r.told) (λ h. h) (λ h. h) r

-- and of all units
pub names_unit : (config : Config) (past : List Event) (event : Event) (number : ℕ) (change : Unit → Unit) (units : List Unit) →
    ((unit : Unit) → (change unit).work.id ≡ unit.work.id) → number ≤ length units → IsAsideOthers event number → UnitsKept config past units →
    AllByRecursion (KeepsNamed config past event number change) units → UnitsKept config (event ∷ past) (with_unit number change units)
names_unit config past event number change units keeps within others k f = record {
  numbered = numbered-map (λ unit. cond (unit.work.id == number) (change unit) unit) (named_id number change keeps) 1 units k.numbered;
  unborn = λ id more.
      let l = length-map_same (λ (unit : Unit). cond (unit.work.id == number) (change unit) unit) units in
      let d : (id == number) ≡ false = grind (arith, nat_tests) in
      (others id past d).1 ∙ k.unborn id (omega arith);
  read = each_changed (ReadKept config past) (KeepsNamed config past event number change) (ReadKept config (event ∷ past)) (λ unit. cond (unit.work.id == number) (change unit) unit)
      (named_one config past event number change others) units k.read f;
}

-- a unit that was just asked has read nothing
fresh_unit : (config : Config) (past : List Event) (id segment node : ℕ) → has_ended past id ≡ false → ReadOf config past id segment node [] false Asked
fresh_unit config past id segment node unended = record {
  told = unended;
  unread = λ a. (refl, refl);
  once = λ key. omega arith;
  behind = λ key p. refl;
  read = λ n. absurd (cc);
  left = λ n. absurd (cc);
}

-- the units that a round makes have read nothing
fresh_units : (config : Config) (past : List Event) (st : State) (r : RoundEvent) (originator n : ℕ) (segments : List ℕ) → ((id : ℕ) → n ≤ id → has_ended past id ≡ false) →
    AllByRecursion (ReadKept config past) (map (unit_made r.call r.id) (asks_from st.holding originator n segments))
fresh_units config past st r originator n [] unborn = tt
fresh_units config past st r originator n (segment ∷ segments) unborn =
    (fresh_unit config past n segment _ (unborn n (omega arith)), fresh_units config past st r originator (n + 1) segments (λ id l. unborn id (omega arith)))

-- a round asks further units
pub asks_units : (config : Config) (past : List Event) (st : State) (r : RoundEvent) → can_round st r ≡ true → UnitsKept config past st.calling.units → UnitsKept config (Round r ∷ past) (rounded st.calling r).units
unfolding rounded
asks_units config past st r may k =
    let found : (call : Call) × CanRound st r call = round_facts st r may in
    let call = found.0 in
    subst (λ asks. UnitsKept config (Round r ∷ past) (st.calling.units ++ map (unit_made r.call r.id) asks)) (sym found.1.asks)
    (record {
      numbered = numbered-append 1 st.calling.units (map (unit_made r.call r.id) (asks_from st.holding call.originator (length st.calling.units + 1) (incomplete st.calling r.call))) k.numbered
          (subst (λ n. NumberedFrom n (map (unit_made r.call r.id) (asks_from st.holding call.originator (length st.calling.units + 1) (incomplete st.calling r.call)))) (omega arith)
          (asked_numbered st r call.originator (length st.calling.units + 1) (incomplete st.calling r.call)));
      unborn = λ id more. k.unborn id (let l = length-append st.calling.units (map (unit_made r.call r.id) (asks_from st.holding call.originator (length st.calling.units + 1) (incomplete st.calling r.call))) in omega arith);
      read = each-append (ReadKept config (Round r ∷ past)) st.calling.units (map (unit_made r.call r.id) (asks_from st.holding call.originator (length st.calling.units + 1) (incomplete st.calling r.call)))
          (each_imply (ReadKept config past) (ReadKept config (Round r ∷ past)) (still config past (Round r) (λ id before. (refl, refl))) st.calling.units k.read)
          (fresh_units config (Round r ∷ past) st r call.originator (length st.calling.units + 1) (incomplete st.calling r.call) (λ id l. k.unborn id (omega arith)));
    })
