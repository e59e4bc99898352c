-- What an event that may happen does to each unit, and which units it makes.
use Rattle.std.proofs.Common.{◌≡◌, ℕ, ◌==◌, Bool, true, false, not, ◌&&◌, cond, List, [], ◌∷◌, ◌++◌, map, append-nil, Option, None, Some, is_none, refl, sym, ap, ◌∙◌, nat_le, arith}
use Rattle.std.proofs.lemmas.Bool.{and_parts, eqb-true, not-true}
use Rattle.std.proofs.lemmas.Bool.Decides.{nat_tests}
use Rattle.std.specs.Bool.{beq}
use Rattle.std.specs.List.{AllByRecursion}
use Rattle.grid_base.specs.Portion.{Portion}
use Rattle.grid_base.specs.declared.entry.Entry.{Entry}
use Rattle.grid_event.specs.Taking.{Taking}
use Rattle.grid_event.specs.declared.event.Event.{Event}
use Rattle.grid_event.specs.declared.event.Event.TheVariants.{Depart, Install, Round, Begin, Scan, Fetch, Take, Done}
use Rattle.grid_event.specs.declared.unit_events.FetchEvent.{FetchEvent}
use Rattle.grid_event.specs.declared.unit_events.ScanEvent.{ScanEvent}
use Rattle.local_publisher.specs.Units.{ended, extended}
use Rattle.topology_coord.specs.Coordination.{installed_id}
use Rattle.cluster_model.proofs.Frames.{units_stays}
use Rattle.cluster_model.specs.Calls.{rounded, unit_made}
use Rattle.cluster_model.specs.Guarantees.{is_move}
use Rattle.cluster_model.specs.Same.{same_batch}
use Rattle.cluster_model.specs.State.{State, Unit, call_of, goes_on, is_asked, is_open_unit, is_running, with_loss}
use Rattle.cluster_model.specs.Step.{allowed, changed}
use Rattle.cluster_model.specs.Topologies.{ceases, departed, installed, lost_by_departure, lost_by_installation}
use Rattle.cluster_model.specs.Units.{begun_unit, can_begin, can_begin_unit, can_end, can_end_unit, can_fetch, can_read, can_scan, ended_unit, fetched, next_batch, reads, scanned, taken_by, walks, with_begin}
use Rattle.cluster_laws.proofs.Lists.{each_any, each_imply}
use Rattle.cluster_laws.proofs.Numbers.{NumberedFrom}
use Rattle.cluster_laws.proofs.units.ReadKinds.{same_batch-exact}
use Rattle.cluster_laws.proofs.units.UnitFacts.{each_named}
use Rattle.cluster_laws.proofs.units.UnitPlaces.{running_open, same_flag}

-- a unit after an event
abbrev pub unit_after : State → Event → Unit → Unit
unit_after st (Depart node) unit = cond (is_open_unit unit && (unit.work.node == node)) (with_loss None unit) unit
unit_after st (Install node id) unit = cond (ceases st.holding.coord.newest node unit) (with_loss (Some id) unit) unit
unit_after st (Begin number runs) unit = cond (unit.work.id == number) (with_begin st.holding runs unit) unit
unit_after st (Scan s) unit = cond (unit.work.id == s.unit) (record unit { work = extended unit.work s.batch }) unit
unit_after st (Fetch f) unit = cond (unit.work.id == f.unit) (record { work = extended unit.work f.batch; flying = Some f.batch.entries }) unit
unit_after st (Take t) unit = cond (unit.work.id == t.unit) (record unit { flying = None }) unit
unit_after st (Done number) unit = cond (unit.work.id == number) (record unit { work = ended unit.work }) unit
unit_after st _ unit = unit

-- the units that an event makes
abbrev pub units_made : Event → List Unit
units_made (Round r) = map (unit_made r.call r.id) r.asks
units_made _ = []

-- units that stay, with others behind them
same_first : (made units : List Unit) → map (λ unit. unit) units ++ made ≡ units ++ made
same_first made [] = refl
same_first made (unit ∷ units) = ap (λ rest. unit ∷ rest) (same_first made units)

-- units that stay, with none behind them
same_units : (units : List Unit) → map (λ unit. unit) units ++ [] ≡ units
same_units units = same_first [] units ∙ append-nil units

-- the units after an event are those before it, each changed, and those that it makes
pub units_are : (st : State) (event : Event) → (changed st event).calling.units ≡ map (unit_after st event) st.calling.units ++ units_made event
unfolding departed lost_by_departure installed lost_by_installation rounded begun_unit scanned fetched taken_by ended_unit
units_are st (Depart node) = sym (append-nil (map (unit_after st (Depart node)) st.calling.units))
units_are st (Install node id) = sym (append-nil (map (unit_after st (Install node id)) st.calling.units))
units_are st (Round r) = sym (same_first (map (unit_made r.call r.id) r.asks) st.calling.units)
units_are st (Begin number runs) = sym (append-nil (map (unit_after st (Begin number runs)) st.calling.units))
units_are st (Scan s) = sym (append-nil (map (unit_after st (Scan s)) st.calling.units))
units_are st (Fetch f) = sym (append-nil (map (unit_after st (Fetch f)) st.calling.units))
units_are st (Take t) = sym (append-nil (map (unit_after st (Take t)) st.calling.units))
units_are st (Done number) = sym (append-nil (map (unit_after st (Done number)) st.calling.units))
units_are st event = units_stays st event refl ∙ sym (same_units st.calling.units)

-- what is none is None
pub none_is : {A : Type 0} (o : Option A) → is_none o ≡ true → o ≡ None
none_is None h = refl
none_is (Some x) h = absurd (cc)

-- a unit that may begin
pub record MayBegin (st : State) (runs : Bool) (unit : Unit) : Type 0 where
  pub going : goes_on st.holding (call_of st.calling unit.work.call) ≡ true
  pub asked : is_asked unit.work.state ≡ true
  pub late : nat_le unit.work.asked_at (installed_id st.holding.coord unit.work.node) ≡ true
  pub reading : runs ≡ reads st.holding unit

-- and so it is of a unit whose begin is allowed
pub begin_known : (st : State) (runs : Bool) (unit : Unit) → can_begin_unit st runs (Some unit) ≡ true → MayBegin st runs unit
begin_known st runs unit h =
    let a : (goes_on st.holding (call_of st.calling unit.work.call) ≡ true) × _ = and_parts (goes_on st.holding (call_of st.calling unit.work.call)) _ h in
    let b : (is_asked unit.work.state ≡ true) × _ = and_parts (is_asked unit.work.state) _ a.1 in
    let c : (nat_le unit.work.asked_at (installed_id st.holding.coord unit.work.node) ≡ true) × (beq runs (reads st.holding unit) ≡ true) = and_parts (nat_le unit.work.asked_at (installed_id st.holding.coord unit.work.node)) _ b.1 in
    record { going = a.0; asked = b.0; late = c.0; reading = same_flag runs (reads st.holding unit) c.1 }

-- a unit that may read on
pub record MayRead (st : State) (walk : Bool) (batch : Portion Entry) (unit : Unit) : Type 0 where
  pub going : goes_on st.holding (call_of st.calling unit.work.call) ≡ true
  pub form : walk ≡ walks (call_of st.calling unit.work.call)
  pub running : is_running unit.work.state ≡ true
  pub unread : unit.work.last ≡ false
  pub landed : unit.flying ≡ None
  pub is_next : batch ≡ next_batch st unit

-- and so it is of a unit whose reading is allowed
pub read_known : (st : State) (walk : Bool) (batch : Portion Entry) (unit : Unit) → can_read st walk batch (Some unit) ≡ true → MayRead st walk batch unit
read_known st walk batch unit h =
    let a : (goes_on st.holding (call_of st.calling unit.work.call) ≡ true) × _ = and_parts (goes_on st.holding (call_of st.calling unit.work.call)) _ h in
    let b : (beq walk (walks (call_of st.calling unit.work.call)) ≡ true) × _ = and_parts (beq walk (walks (call_of st.calling unit.work.call))) _ a.1 in
    let c : (is_running unit.work.state ≡ true) × _ = and_parts (is_running unit.work.state) _ b.1 in
    let d : (not unit.work.last ≡ true) × _ = and_parts (not unit.work.last) _ c.1 in
    let e : (is_none unit.flying ≡ true) × _ = and_parts (is_none unit.flying) _ d.1 in
    let f : (same_batch batch (next_batch st unit) ≡ true) × _ = and_parts (same_batch batch (next_batch st unit)) _ e.1 in
    record {
      going = a.0;
      form = same_flag walk (walks (call_of st.calling unit.work.call)) b.0;
      running = c.0;
      unread = not-true unit.work.last d.0;
      landed = none_is unit.flying e.0;
      is_next = same_batch-exact batch (next_batch st unit) f.0;
    }

-- a unit that may end
pub record MayEnd (st : State) (unit : Unit) : Type 0 where
  pub going : goes_on st.holding (call_of st.calling unit.work.call) ≡ true
  pub running : is_running unit.work.state ≡ true
  pub whole : unit.work.last ≡ true
  pub landed : unit.flying ≡ None

-- and so it is of a unit whose end is allowed
pub end_known : (st : State) (unit : Unit) → can_end_unit st (Some unit) ≡ true → MayEnd st unit
end_known st unit h =
    let a : (goes_on st.holding (call_of st.calling unit.work.call) ≡ true) × _ = and_parts (goes_on st.holding (call_of st.calling unit.work.call)) _ h in
    let b : (is_running unit.work.state ≡ true) × _ = and_parts (is_running unit.work.state) _ a.1 in
    let c : (unit.work.last ≡ true) × (is_none unit.flying ≡ true) = and_parts unit.work.last (is_none unit.flying) b.1 in
    record { going = a.0; running = b.0; whole = c.0; landed = none_is unit.flying c.1 }

-- the event names the unit of that number
abbrev pub names : Event → ℕ → Bool
names (Begin number runs) id = number == id
names (Scan s) id = s.unit == id
names (Fetch f) id = f.unit == id
names (Take t) id = t.unit == id
names (Done number) id = number == id
names _ id = false

-- what an event does to one unit: before, and after
pub data Effect (st : State) (event : Event) (before later : Unit) : Type 0 where
  Stays : later ≡ before → names event before.work.id ≡ false → Effect st event before later
  Loses : (at : Option ℕ) → later ≡ with_loss at before → is_open_unit before ≡ true → is_move event ≡ true → Effect st event before later
  Begins : (runs : Bool) → event ≡ Begin before.work.id runs → later ≡ with_begin st.holding runs before → MayBegin st runs before → Effect st event before later
  Scans : (s : ScanEvent) → event ≡ Scan s → s.unit ≡ before.work.id → later ≡ record before { work = extended before.work s.batch } → MayRead st false s.batch before → Effect st event before later
  Fetches : (f : FetchEvent) → event ≡ Fetch f → f.unit ≡ before.work.id → later ≡ record { work = extended before.work f.batch; flying = Some f.batch.entries } → MayRead st true f.batch before →
      Effect st event before later
  Takes : (t : Taking) → event ≡ Take t → t.unit ≡ before.work.id → later ≡ record before { flying = None } → Effect st event before later
  Ends : event ≡ Done before.work.id → later ≡ record before { work = ended before.work } → MayEnd st before → Effect st event before later

-- what an event does to each unit
abbrev pub HasEffect : State → Event → Unit → Type 0
HasEffect st event unit = Effect st event unit (unit_after st event unit)

-- numbers that are apart are apart the other way round
pub apart_turned : (a b : ℕ) → (a == b) ≡ false → (b == a) ≡ false
apart_turned a b h = grind (arith, nat_tests)

-- a departure loses the open units at the node
depart_effect : (st : State) (node : ℕ) (unit : Unit) → HasEffect st (Depart node) unit
depart_effect st node unit = by_test (is_open_unit unit && (unit.work.node == node)) refl
  where
    by_test : (b : Bool) → (is_open_unit unit && (unit.work.node == node)) ≡ b → Effect st (Depart node) unit (cond b (with_loss None unit) unit)
    by_test true t = Loses None refl (and_parts (is_open_unit unit) _ t).0 refl
    by_test false t = Stays refl refl

-- an installation loses the running units at the node on segments that it ceases to read
install_effect : (st : State) (node id : ℕ) (unit : Unit) → HasEffect st (Install node id) unit
install_effect st node id unit = by_test (ceases st.holding.coord.newest node unit) refl
  where
    by_test : (b : Bool) → ceases st.holding.coord.newest node unit ≡ b → Effect st (Install node id) unit (cond b (with_loss (Some id) unit) unit)
    by_test true t = Loses (Some id) refl (running_open unit.work.state (and_parts (is_running unit.work.state) _ t).0) refl
    by_test false t = Stays refl refl

-- an event that names a unit changes that one alone
named_effect : (st : State) (event : Event) (number : ℕ) (change : Unit → Unit) → ((id : ℕ) → names event id ≡ (number == id)) → (unit : Unit) → ((unit.work.id == number) ≡ true → Effect st event unit (change unit)) →
    Effect st event unit (cond (unit.work.id == number) (change unit) unit)
named_effect st event number change named unit f = by_test (unit.work.id == number) refl
  where
    by_test : (b : Bool) → (unit.work.id == number) ≡ b → Effect st event unit (cond b (change unit) unit)
    by_test true t = f t
    by_test false t = Stays refl (named unit.work.id ∙ apart_turned unit.work.id number t)

-- each unit has the effect of an event that may happen
pub effects : (st : State) (event : Event) → allowed st event ≡ true → NumberedFrom 1 st.calling.units → AllByRecursion (HasEffect st event) st.calling.units
unfolding can_begin can_scan can_fetch can_end
effects st (Depart node) may n = each_any (HasEffect st (Depart node)) (depart_effect st node) st.calling.units
effects st (Install node id) may n = each_any (HasEffect st (Install node id)) (install_effect st node id) st.calling.units
effects st (Begin number runs) may n =
    each_imply (λ (unit : Unit). (unit.work.id == number) ≡ true → can_begin_unit st runs (Some unit) ≡ true) (HasEffect st (Begin number runs))
    (λ unit f.
    named_effect st (Begin number runs) number (with_begin st.holding runs) (λ id. refl) unit
    (λ t. Begins runs (ap (λ id. Begin id runs) (sym (eqb-true unit.work.id number t))) refl (begin_known st runs unit (f t))))
    st.calling.units (each_named st number (can_begin_unit st runs) refl may n)
effects st (Scan s) may n =
    each_imply (λ (unit : Unit). (unit.work.id == s.unit) ≡ true → can_read st false s.batch (Some unit) ≡ true) (HasEffect st (Scan s))
    (λ unit f.
    named_effect st (Scan s) s.unit (λ unit. record unit { work = extended unit.work s.batch }) (λ id. refl) unit
    (λ t. Scans s refl (sym (eqb-true unit.work.id s.unit t)) refl (read_known st false s.batch unit (f t))))
    st.calling.units (each_named st s.unit (can_read st false s.batch) refl may n)
effects st (Fetch v) may n =
    each_imply (λ (unit : Unit). (unit.work.id == v.unit) ≡ true → can_read st true v.batch (Some unit) ≡ true) (HasEffect st (Fetch v))
    (λ unit f.
    named_effect st (Fetch v) v.unit (λ unit. record { work = extended unit.work v.batch; flying = Some v.batch.entries }) (λ id. refl) unit
    (λ t. Fetches v refl (sym (eqb-true unit.work.id v.unit t)) refl (read_known st true v.batch unit (f t))))
    st.calling.units (each_named st v.unit (can_read st true v.batch) refl may n)
effects st (Take t) may n =
    each_any (HasEffect st (Take t)) (λ unit. named_effect st (Take t) t.unit (λ unit. record unit { flying = None }) (λ id. refl) unit (λ e. Takes t refl (sym (eqb-true unit.work.id t.unit e)) refl)) st.calling.units
effects st (Done number) may n =
    each_imply (λ (unit : Unit). (unit.work.id == number) ≡ true → can_end_unit st (Some unit) ≡ true) (HasEffect st (Done number))
    (λ unit f.
    named_effect st (Done number) number (λ unit. record unit { work = ended unit.work }) (λ id. refl) unit
    (λ t. Ends (ap (λ id. Done id) (sym (eqb-true unit.work.id number t))) refl (end_known st unit (f t))))
    st.calling.units (each_named st number (can_end_unit st) refl may n)
effects st event may n = each_any (HasEffect st event) (λ unit. Stays refl refl) st.calling.units

-- the call of a unit stays
pub same_call : (st : State) (event : Event) (before later : Unit) → Effect st event before later → later.work.call ≡ before.work.call
same_call st event before later (Stays e d) = ap (λ (u : Unit). u.work.call) e
same_call st event before later (Loses at e o m) = ap (λ (u : Unit). u.work.call) e
same_call st event before later (Begins runs x e m) = ap (λ (u : Unit). u.work.call) e
same_call st event before later (Scans s x n e m) = ap (λ (u : Unit). u.work.call) e
same_call st event before later (Fetches f x n e m) = ap (λ (u : Unit). u.work.call) e
same_call st event before later (Takes t x n e) = ap (λ (u : Unit). u.work.call) e
same_call st event before later (Ends x e m) = ap (λ (u : Unit). u.work.call) e
