-- Each kind of event keeps what is known of what units have read.
use Rattle.std.proofs.Common.{◌≡◌, ℕ, ◌==◌, Bool, true, false, not, ◌&&◌, ◌||◌, List, [], ◌∷◌, ◌++◌, None, Some, refl, sym, ap, ◌∙◌, arith, subst, if◌then◌else◌}
use Rattle.std.proofs.lemmas.Bool.{and_parts}
use Rattle.std.proofs.lemmas.Bool.Decides.{nat_tests}
use Rattle.std.specs.Bool.{beq}
use Rattle.std.specs.Cmp.Lexicographic.{pointwise}
use Rattle.std.specs.List.{AllByRecursion}
use Rattle.grid_base.proofs.DatumLemmas.{same_entry-exact}
use Rattle.grid_base.specs.Datum.{same_entry}
use Rattle.grid_base.specs.Portion.{Portion}
use Rattle.grid_base.specs.declared.entry.Entry.{Entry}
use Rattle.grid_event.specs.UnitHistories.{has_ended}
use Rattle.grid_event.specs.declared.config.Config.{Config}
use Rattle.grid_event.specs.declared.event.Event.{Event}
use Rattle.grid_event.specs.declared.event.Event.TheVariants.{Write, Erase, Tick, Join, Depart, Announce, Install, Copy, Land, Invoke, Round, Begin, Scan, Fetch, Take, Done, Answer}
use Rattle.local_publisher.specs.Stages.{is_open}
use Rattle.local_publisher.specs.Units.{begun, ended, extended}
use Rattle.local_publisher.specs.declared.unit_state.UnitState.{UnitState}
use Rattle.local_publisher.specs.declared.unit_state.UnitState.TheVariants.{Asked, Running, Refused, Lost, Ended}
use Rattle.topology_coord.specs.Coordination.{installed_id}
use Rattle.cluster_model.proofs.Frames.{units_stays}
use Rattle.cluster_model.specs.Same.{same_batch, same_entries}
use Rattle.cluster_model.specs.State.{State, Unit, call_of, goes_on, is_asked, is_ended, is_open_unit, is_running}
use Rattle.cluster_model.specs.Step.{allowed, changed}
use Rattle.cluster_model.specs.Topologies.{ceases, departed, installed, lost_by_departure, lost_by_installation}
use Rattle.cluster_model.specs.Units.{begun_unit, can_begin, can_begin_unit, can_end, can_end_unit, can_fetch, can_read, can_scan, can_take, can_take_unit, call_of_unit, ended_unit, fetched, next_batch, scanned, taken_by, walks, with_begin}
use Rattle.cluster_laws.proofs.Lists.{each_both, each_imply}
use Rattle.cluster_laws.proofs.units.Reading.{BatchOf, ReadOf, begun_reading, carried, read_more}
use Rattle.cluster_laws.proofs.units.ReadSteps.{IsAside, IsAsideOthers, KeepsNamed, UnitsKept, asks_units, loses_units, names_unit, stays, still}
use Rattle.cluster_laws.proofs.units.UnitFacts.{each_named, named_within}

-- what the node of a running unit would hand on next is a batch of the cluster's map; and so it is of each unit
abbrev pub ShownOne : Config → List Event → State → Unit → Type 0
ShownOne config past st unit =
    is_running unit.work.state ≡ true
    → BatchOf config past unit.work.segment unit.work.node unit.work.entries (next_batch st unit).entries (next_batch st unit).last

-- and so it is of each unit
abbrev pub Shown : Config → List Event → State → Type 0
Shown config past st = AllByRecursion (ShownOne config past st) st.calling.units

-- the same batches are equal
same_flags : (a b : Bool) → beq a b ≡ true → a ≡ b
same_flags true true h = refl
same_flags false false h = refl
same_flags true false h = absurd (cc)
same_flags false true h = absurd (cc)

-- lists of entries that pass the test of sameness are equal
pub same_entries-exact : (xs ys : List Entry) → same_entries xs ys ≡ true → xs ≡ ys
same_entries-exact [] [] h = refl
same_entries-exact [] (y ∷ ys) h = absurd (cc)
same_entries-exact (x ∷ xs) [] h = absurd (cc)
same_entries-exact (x ∷ xs) (y ∷ ys) h =
    let p : (same_entry x y ≡ true) × (pointwise same_entry xs ys ≡ true) = and_parts (same_entry x y) _ h in
    let first : x ≡ y = same_entry-exact x y p.0 in
    let rest : xs ≡ ys = same_entries-exact xs ys p.1 in
    λ i. first i ∷ rest i

-- and so are batches
pub same_batch-exact : (a b : Portion Entry) → same_batch a b ≡ true → a ≡ b
same_batch-exact a b h =
    let p : (same_entries a.entries b.entries ≡ true) × (beq a.last b.last ≡ true) = and_parts (same_entries a.entries b.entries) _ h in
    let e : a.entries ≡ b.entries = same_entries-exact a.entries b.entries p.0 in
    let l : a.last ≡ b.last = same_flags a.last b.last p.1 in
    λ i. record { entries = e i; last = l i }

-- what the test of a reading says of its unit
pub record CanRead (st : State) (batch : Portion Entry) (unit : Unit) : Type 0 where
  pub runs : is_running unit.work.state ≡ true
  pub is_next : batch ≡ next_batch st unit

-- where a batch may be read, the unit runs and the batch is the next one
read_facts : (st : State) (walk : Bool) (given : Portion Entry) (unit : Unit) → can_read st walk given (Some unit) ≡ true → CanRead st given unit
read_facts st walk given unit h =
    let a : (goes_on st.holding (call_of st.calling unit.work.call) ≡ true) × _ = and_parts (goes_on st.holding (call_of st.calling unit.work.call)) _ h in
    let b : (beq walk (walks (call_of st.calling unit.work.call)) ≡ true) × _ = and_parts (beq walk (walks (call_of st.calling unit.work.call))) _ a.1 in
    let c : (is_running unit.work.state ≡ true) × _ = and_parts (is_running unit.work.state) _ b.1 in
    let d = and_parts (not unit.work.last) _ c.1 in
    let e = and_parts _ _ d.1 in
    let f = and_parts (same_batch given (next_batch st unit)) _ e.1 in
    record { runs = c.0; is_next = same_batch-exact given (next_batch st unit) f.0 }

-- a batch more was read by the unit that the event names
reads_named : (config : Config) (past : List Event) (event : Event) (st : State) (walk : Bool) (number : ℕ) (given : Portion Entry) (change : Unit → Unit) → IsAside event →
    ((unit : Unit) → (change unit).work ≡ extended unit.work given) →
    AllByRecursion (λ (unit : Unit). (unit.work.id == number) ≡ true → can_read st walk given (Some unit) ≡ true) st.calling.units → Shown config past st →
    AllByRecursion (KeepsNamed config past event number change) st.calling.units
reads_named config past event st walk number given change aside extends may shown =
    each_both
    (λ (unit : Unit). (unit.work.id == number) ≡ true → can_read st walk given (Some unit) ≡ true)
    (λ (unit : Unit). is_running unit.work.state ≡ true → BatchOf config past unit.work.segment unit.work.node unit.work.entries (next_batch st unit).entries (next_batch st unit).last)
    (KeepsNamed config past event number change) read_one st.calling.units may shown
  where
    read_one : (unit : Unit) → ((unit.work.id == number) ≡ true → can_read st walk given (Some unit) ≡ true) →
        (is_running unit.work.state ≡ true → BatchOf config past unit.work.segment unit.work.node unit.work.entries (next_batch st unit).entries (next_batch st unit).last) →
        KeepsNamed config past event number change unit
    read_one unit test shows here r =
        let f = read_facts st walk given unit (test here) in
        let b : BatchOf config past unit.work.segment unit.work.node unit.work.entries given.entries given.last =
        subst (λ (x : Portion Entry). BatchOf config past unit.work.segment unit.work.node unit.work.entries x.entries x.last) (sym f.is_next) (shows f.runs) in
        let more = read_more config past unit.work.id unit.work.segment unit.work.node unit.work.entries given.entries unit.work.last given.last unit.work.state f.runs b r in
        subst (λ work. ReadOf config (event ∷ past) work.id work.segment work.node work.entries work.last work.state) (sym (extends unit))
        (carried config past event unit.work.id unit.work.segment unit.work.node (unit.work.entries ++ given.entries) given.last unit.work.state unit.work.state
        (aside unit.work.id past).0 ((aside unit.work.id past).1 ∙ r.told) (λ h. h) (λ h. h) more)

-- a unit that began or was refused isn't asked any more, and none of these has ended
unasked : (runs : Bool) (at : ℕ) → is_asked (if runs then Running else Refused at) ≡ false
unasked true at = refl
unasked false at = refl

-- a unit that begins or is refused hasn't ended
unended : (runs : Bool) (at : ℕ) → is_ended (if runs then Running else Refused at) ≡ false
unended true at = refl
unended false at = refl

-- a unit that is asked hasn't ended
asked_unended : (stage : UnitState) → is_asked stage ≡ true → is_ended stage ≡ false
asked_unended Asked h = refl
asked_unended Running h = refl
asked_unended (Refused at) h = refl
asked_unended (Lost at) h = refl
asked_unended Ended h = absurd (cc)

-- a unit begins, or is refused
begins_named : (config : Config) (past : List Event) (st : State) (number : ℕ) (runs : Bool) →
    AllByRecursion (λ (unit : Unit). (unit.work.id == number) ≡ true → can_begin_unit st runs (Some unit) ≡ true) st.calling.units →
    AllByRecursion (KeepsNamed config past (Begin number runs) number (with_begin st.holding runs)) st.calling.units
begins_named config past st number runs may =
    each_imply (λ (unit : Unit). (unit.work.id == number) ≡ true → can_begin_unit st runs (Some unit) ≡ true) (KeepsNamed config past (Begin number runs) number (with_begin st.holding runs)) begin_one st.calling.units may
  where
    begin_one : (unit : Unit) → ((unit.work.id == number) ≡ true → can_begin_unit st runs (Some unit) ≡ true) → KeepsNamed config past (Begin number runs) number (with_begin st.holding runs) unit
    begin_one unit test here r =
        let a : (goes_on st.holding (call_of st.calling unit.work.call) ≡ true) × _ = and_parts (goes_on st.holding (call_of st.calling unit.work.call)) _ (test here) in
        let b : (is_asked unit.work.state ≡ true) × _ = and_parts (is_asked unit.work.state) _ a.1 in
        begun_reading config past (Begin number runs ∷ past) unit.work.id unit.work.segment unit.work.node unit.work.entries unit.work.last unit.work.state (begun unit.work runs (installed_id st.holding.coord unit.work.node)).state
        b.0 (unasked runs (installed_id st.holding.coord unit.work.node)) (r.told ∙ asked_unended unit.work.state b.0 ∙ sym (unended runs (installed_id st.holding.coord unit.work.node))) r

-- a begin leaves aside the units of other numbers
begin_aside : (number : ℕ) (runs : Bool) → IsAsideOthers (Begin number runs) number
begin_aside number runs id past d = (let e : (number == id) ≡ false = grind (arith, nat_tests) in ap (λ b. b && runs) e, refl)

-- a unit ends
ends_named : (config : Config) (past : List Event) (st : State) (number : ℕ) →
    AllByRecursion (λ (unit : Unit). (unit.work.id == number) ≡ true → can_end_unit st (Some unit) ≡ true) st.calling.units →
    AllByRecursion (KeepsNamed config past (Done number) number (λ unit. record unit { work = ended unit.work })) st.calling.units
ends_named config past st number may =
    each_imply (λ (unit : Unit). (unit.work.id == number) ≡ true → can_end_unit st (Some unit) ≡ true) (KeepsNamed config past (Done number) number (λ unit. record unit { work = ended unit.work })) end_one st.calling.units may
  where
    end_one : (unit : Unit) → ((unit.work.id == number) ≡ true → can_end_unit st (Some unit) ≡ true) → KeepsNamed config past (Done number) number (λ unit. record unit { work = ended unit.work }) unit
    end_one unit test here r =
        let a : (goes_on st.holding (call_of st.calling unit.work.call) ≡ true) × _ = and_parts (goes_on st.holding (call_of st.calling unit.work.call)) _ (test here) in
        let b : (is_running unit.work.state ≡ true) × _ = and_parts (is_running unit.work.state) _ a.1 in
        let e : (number == unit.work.id) ≡ true = grind (arith, nat_tests) in
        carried config past (Done number) unit.work.id unit.work.segment unit.work.node unit.work.entries unit.work.last unit.work.state Ended
        refl (ap (λ t. t || has_ended past unit.work.id) e) (λ h. ap (λ t. t || is_ended unit.work.state) b.0) (λ h. absurd (cc)) r

-- an end leaves aside the units of other numbers
done_aside : (number : ℕ) → IsAsideOthers (Done number) number
done_aside number id past d = (refl, let e : (number == id) ≡ false = grind (arith, nat_tests) in ap (λ t. t || has_ended past id) e)

-- a unit of which a batch is taken stays as it is but for what flies
takes_named : (config : Config) (past : List Event) (event : Event) (number : ℕ) (units : List Unit) → IsAside event → AllByRecursion (KeepsNamed config past event number (λ unit. record unit { flying = None })) units
takes_named config past event number [] aside = tt
takes_named config past event number (unit ∷ units) aside = ((λ here r. still config past event aside unit r), takes_named config past event number units aside)

-- a unit that runs is open
running_opens : (stage : UnitState) → is_running stage ≡ true → is_open stage ≡ true
running_opens Asked h = refl
running_opens Running h = refl
running_opens (Refused at) h = absurd (cc)
running_opens (Lost at) h = absurd (cc)
running_opens Ended h = absurd (cc)

-- what is known of the units is kept by every event that may happen
pub units_kept : (config : Config) (past : List Event) (st : State) (event : Event) → allowed st event ≡ true → Shown config past st → UnitsKept config past st.calling.units →
    UnitsKept config (event ∷ past) (changed st event).calling.units
unfolding departed lost_by_departure installed lost_by_installation begun_unit scanned fetched taken_by ended_unit can_begin can_scan can_fetch can_take can_end
units_kept config past st (Write w) may shown k = subst (λ us. UnitsKept config (Write w ∷ past) us) (sym (units_stays st (Write w) refl)) (stays config past (Write w) st.calling.units (λ id before. (refl, refl)) k)
units_kept config past st (Erase e) may shown k = subst (λ us. UnitsKept config (Erase e ∷ past) us) (sym (units_stays st (Erase e) refl)) (stays config past (Erase e) st.calling.units (λ id before. (refl, refl)) k)
units_kept config past st (Tick ticks) may shown k = subst (λ us. UnitsKept config (Tick ticks ∷ past) us) (sym (units_stays st (Tick ticks) refl)) (stays config past (Tick ticks) st.calling.units (λ id before. (refl, refl)) k)
units_kept config past st (Join node) may shown k = subst (λ us. UnitsKept config (Join node ∷ past) us) (sym (units_stays st (Join node) refl)) (stays config past (Join node) st.calling.units (λ id before. (refl, refl)) k)
units_kept config past st (Announce topology) may shown k = subst (λ us. UnitsKept config (Announce topology ∷ past) us) (sym (units_stays st (Announce topology) refl)) (stays config past (Announce topology) st.calling.units (λ id before. (refl, refl)) k)
units_kept config past st (Copy c) may shown k = subst (λ us. UnitsKept config (Copy c ∷ past) us) (sym (units_stays st (Copy c) refl)) (stays config past (Copy c) st.calling.units (λ id before. (refl, refl)) k)
units_kept config past st (Land receiver segment) may shown k = subst (λ us. UnitsKept config (Land receiver segment ∷ past) us) (sym (units_stays st (Land receiver segment) refl)) (stays config past (Land receiver segment) st.calling.units (λ id before. (refl, refl)) k)
units_kept config past st (Invoke i) may shown k = subst (λ us. UnitsKept config (Invoke i ∷ past) us) (sym (units_stays st (Invoke i) refl)) (stays config past (Invoke i) st.calling.units (λ id before. (refl, refl)) k)
units_kept config past st (Answer a) may shown k = subst (λ us. UnitsKept config (Answer a ∷ past) us) (sym (units_stays st (Answer a) refl)) (stays config past (Answer a) st.calling.units (λ id before. (refl, refl)) k)
units_kept config past st (Depart node) may shown k =
    loses_units config past (Depart node) None (λ unit. is_open_unit unit && (unit.work.node == node)) st.calling.units (λ id before. (refl, refl))
    (λ unit t. (and_parts (is_open_unit unit) (unit.work.node == node) t).0) k
units_kept config past st (Install node id) may shown k =
    loses_units config past (Install node id) (Some id) (ceases st.holding.coord.newest node) st.calling.units (λ id before. (refl, refl)) (λ unit t. running_opens unit.work.state (and_parts (is_running unit.work.state) _ t).0) k
units_kept config past st (Round r) may shown k = asks_units config past st r may k
units_kept config past st (Begin number runs) may shown k =
    names_unit config past (Begin number runs) number (with_begin st.holding runs) st.calling.units (λ unit. refl) (named_within st number (can_begin_unit st runs) refl may k.numbered) (begin_aside number runs) k
    (begins_named config past st number runs (each_named st number (can_begin_unit st runs) refl may k.numbered))
units_kept config past st (Scan s) may shown k =
    names_unit config past (Scan s) s.unit (λ unit. record unit { work = extended unit.work s.batch }) st.calling.units (λ unit. refl) (named_within st s.unit (can_read st false s.batch) refl may k.numbered)
    (λ id before d. (refl, refl)) k
    (reads_named config past (Scan s) st false s.unit s.batch (λ unit. record unit { work = extended unit.work s.batch }) (λ id before. (refl, refl)) (λ unit. refl)
    (each_named st s.unit (can_read st false s.batch) refl may k.numbered) shown)
units_kept config past st (Fetch f) may shown k =
    names_unit config past (Fetch f) f.unit (λ unit. record { work = extended unit.work f.batch; flying = Some f.batch.entries }) st.calling.units (λ unit. refl) (named_within st f.unit (can_read st true f.batch) refl may k.numbered)
    (λ id before d. (refl, refl)) k
    (reads_named config past (Fetch f) st true f.unit f.batch (λ unit. record { work = extended unit.work f.batch; flying = Some f.batch.entries }) (λ id before. (refl, refl)) (λ unit. refl)
    (each_named st f.unit (can_read st true f.batch) refl may k.numbered) shown)
units_kept config past st (Take t) may shown k =
    names_unit config past (Take t) t.unit (λ unit. record unit { flying = None }) st.calling.units (λ unit. refl)
    (named_within st t.unit (λ found. can_take_unit st t found (call_of_unit st.calling found)) refl may k.numbered) (λ id before d. (refl, refl)) k
    (takes_named config past (Take t) t.unit st.calling.units (λ id before. (refl, refl)))
units_kept config past st (Done number) may shown k =
    names_unit config past (Done number) number (λ unit. record unit { work = ended unit.work }) st.calling.units (λ unit. refl) (named_within st number (can_end_unit st) refl may k.numbered) (done_aside number) k
    (ends_named config past st number (each_named st number (can_end_unit st) refl may k.numbered))
