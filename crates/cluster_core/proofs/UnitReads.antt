-- What a unit reads, and which of its events may happen.
use Rattle.std.proofs.Common.{◌≡◌, ℕ, ◌+◌, ◌≤◌, ◌==◌, Bool, true, false, not, nat_le, ◌&&◌, length, Option, None, Some, is_none, refl, sym, ap, subst, ◌∙◌, if◌then◌else◌}
use Rattle.std.proofs.lemmas.Bool.{and_parts, and_from, false≢true, leb-true}
use Rattle.std.specs.Bool.{beq}
use Rattle.std.specs.Cmp.{booleans_Decides}
use Rattle.std.specs.Cmp.Lexicographic.{pointwise_decides}
use Rattle.grid_base.proofs.DatumLemmas.{same_entry_decides}
use Rattle.grid_base.specs.Portion.{Portion}
use Rattle.grid_base.specs.declared.entry.Entry.{Entry}
use Rattle.grid_base.specs.declared.limits.TheConstants.{MOST_BATCH, MOST_READ, MOST_ROUNDS}
use Rattle.grid_event.specs.Configs.{is_up_to}
use Rattle.grid_event.specs.declared.event.Event.{Event}
use Rattle.grid_event.specs.declared.event.Event.TheVariants as events
use Rattle.grid_event.specs.declared.unit_events.FetchEvent.{FetchEvent}
use Rattle.grid_event.specs.declared.unit_events.ScanEvent.{ScanEvent}
use Rattle.topology_coord.specs.Coordination.{installed_id, lives}
use Rattle.cluster_model.specs.Commands.{begin_event, done_event, fetch_event, scan_event}
use Rattle.cluster_model.specs.Same.{same_batch, same_entries}
use Rattle.cluster_model.specs.State.{Call, State, Unit, call_of, goes_on, is_asked, is_open_unit, is_running, unit_of}
use Rattle.cluster_model.specs.Units.{batch_size, can_begin, can_begin_unit, can_end, can_end_unit, can_fetch, can_read, can_scan, next_batch, read_by, reads, walks}
use Rattle.cluster_laws.proofs.units.UnitPlaces.{running_open}
use Rattle.cluster_core.specs.Runs.{IsReached}
use Rattle.cluster_calls.specs.Calling.{is_one, may_begin, may_end, may_read}
use Rattle.cluster_calls.proofs.ListLaws.{find_place}
use Rattle.cluster_core.specs.Insides.{IsCore, state_of}
use Rattle.cluster_core.specs.Reading.{batch_now, reads_on}
use Rattle.cluster_core.specs.declared.cluster.Core.TheInside.{Inside}
use Rattle.cluster_core.proofs.RunFacts.{calls_checked, open_live}
use Rattle.cluster_core.proofs.UnitPlaces.{each_at}

-- a batch is the same as itself
batch_itself : (batch : Portion Entry) → same_batch batch batch ≡ true
batch_itself batch =
    and_from (same_entries batch.entries batch.entries) (beq batch.last batch.last) ((pointwise_decides same_entry_decides batch.entries batch.entries).1 refl) ((booleans_Decides batch.last batch.last).1 refl)

-- of what a reading needs, the batch and the room for it come last
read_parts : (a b c d e f g : Bool) → (a && (b && (c && (d && (e && (f && g)))))) ≡ ((a && (b && (c && (d && e)))) && (f && g))
read_parts true true true true e f g = refl
read_parts true true true false e f g = refl
read_parts true true false d e f g = refl
read_parts true false c d e f g = refl
read_parts false b c d e f g = refl

-- a unit may read a batch where it may read, the batch is the next one, and there is room for it
reads_parted : (st : State) (walk : Bool) (batch : Portion Entry) (unit : Unit) → can_read st walk batch (Some unit)
    ≡ (reads_on st walk unit && (same_batch batch (next_batch st unit) && nat_le (read_by st.calling.units + length batch.entries) MOST_READ))
reads_parted st walk batch unit =
    read_parts (goes_on st.holding (call_of st.calling unit.work.call)) (beq walk (walks (call_of st.calling unit.work.call))) (is_running unit.work.state) (not unit.work.last) (is_none unit.flying)
    (same_batch batch (next_batch st unit)) (nat_le (read_by st.calling.units + length batch.entries) MOST_READ)

-- a unit that reads on reads its next batch where there is room for it
reads_next : (st : State) (walk : Bool) (unit : Unit) → can_read st walk (next_batch st unit) (Some unit) ≡ (reads_on st walk unit && nat_le (read_by st.calling.units + length (next_batch st unit).entries) MOST_READ)
reads_next st walk unit =
    reads_parted st walk (next_batch st unit) unit
    ∙ ap (λ t. reads_on st walk unit && (t && nat_le (read_by st.calling.units + length (next_batch st unit).entries) MOST_READ)) (batch_itself (next_batch st unit))

-- a unit that reads on reads a batch where it is the next one and there is room for it
pub read_when : (st : State) (walk : Bool) (batch next : Portion Entry) (number size : ℕ) (unit : Unit) (same room : Bool) → Some unit ≡ unit_of st.calling number → true ≡ reads_on st walk unit
    → next ≡ next_batch st unit → same ≡ same_batch batch next → size ≡ length batch.entries → room ≡ nat_le (read_by st.calling.units + size) MOST_READ
    → (same && room) ≡ can_read st walk batch (unit_of st.calling number)
read_when st walk batch next number size unit same room there reading is_next is_same is_size is_room =
    let first : same ≡ same_batch batch (next_batch st unit) = is_same ∙ ap (same_batch batch) is_next in
    let second : room ≡ nat_le (read_by st.calling.units + length batch.entries) MOST_READ = is_room ∙ ap (λ n. nat_le (read_by st.calling.units + n) MOST_READ) is_size in
    (λ i. first i && second i)
    ∙ ap (λ t. t && (same_batch batch (next_batch st unit) && nat_le (read_by st.calling.units + length batch.entries) MOST_READ)) reading
    ∙ sym (reads_parted st walk batch unit)
    ∙ ap (can_read st walk batch) there

-- the beginning of a unit of the core, where it may begin
pub begin_when : (st : State) (unit : Unit) (runs may : Bool) → unit_of st.calling unit.work.id ≡ Some unit → runs ≡ reads st.holding unit → may ≡ can_begin_unit st runs (Some unit)
    → (if may then Some (events.Begin unit.work.id runs) else None) ≡ begin_event st unit
unfolding can_begin
begin_when st unit runs may there reading is =
    ap (λ t. if t then Some (events.Begin unit.work.id runs) else None) (is ∙ ap (can_begin_unit st runs) (sym there))
    ∙ ap (λ r. if can_begin_unit st r (unit_of st.calling unit.work.id) then Some (events.Begin unit.work.id r) else None) reading

-- the end of a unit of the core, where it may end
pub done_when : (st : State) (unit : Unit) (may : Bool) → unit_of st.calling unit.work.id ≡ Some unit → may ≡ can_end_unit st (Some unit)
    → (if may then Some (events.Done unit.work.id) else None) ≡ done_event st unit
unfolding can_end
done_when st unit may there is = ap (λ t. if t then Some (events.Done unit.work.id) else None) (is ∙ ap (can_end_unit st) (sym there))

-- the scan that reads a batch
abbrev pub scan_with : Unit → Option (Portion Entry) → Option Event
scan_with unit None = None
scan_with unit (Some batch) = Some (events.Scan (record { unit = unit.work.id; batch = batch }))

-- the fetch that reads a batch
abbrev pub fetch_with : Unit → Option (Portion Entry) → Option Event
fetch_with unit None = None
fetch_with unit (Some batch) = Some (events.Fetch (record { unit = unit.work.id; batch = batch }))

-- the event of a scan that is there under a test
scan_where : (b : Bool) (unit : Unit) (batch : Portion Entry) → scan_with unit (if b then Some batch else None) ≡ (if b then Some (events.Scan (record { unit = unit.work.id; batch = batch })) else None)
scan_where true unit batch = refl
scan_where false unit batch = refl

-- the event of a fetch that is there under a test
fetch_where : (b : Bool) (unit : Unit) (batch : Portion Entry) → fetch_with unit (if b then Some batch else None) ≡ (if b then Some (events.Fetch (record { unit = unit.work.id; batch = batch })) else None)
fetch_where true unit batch = refl
fetch_where false unit batch = refl

-- the scan of a unit of the core reads what the unit reads now
pub scan_is : (st : State) (unit : Unit) → unit_of st.calling unit.work.id ≡ Some unit → scan_with unit (batch_now st false unit) ≡ scan_event st unit
unfolding can_scan
scan_is st unit there =
    let event : Event = events.Scan (record { unit = unit.work.id; batch = next_batch st unit }) in
    scan_where (reads_on st false unit && nat_le (read_by st.calling.units + length (next_batch st unit).entries) MOST_READ) unit (next_batch st unit)
    ∙ ap (λ t. if t then Some event else None) (sym (ap (can_read st false (next_batch st unit)) there ∙ reads_next st false unit))

-- the fetch of a unit of the core reads what the unit reads now
pub fetch_is : (st : State) (unit : Unit) → unit_of st.calling unit.work.id ≡ Some unit → fetch_with unit (batch_now st true unit) ≡ fetch_event st unit
unfolding can_fetch
fetch_is st unit there =
    let event : Event = events.Fetch (record { unit = unit.work.id; batch = next_batch st unit }) in
    fetch_where (reads_on st true unit && nat_le (read_by st.calling.units + length (next_batch st unit).entries) MOST_READ) unit (next_batch st unit)
    ∙ ap (λ t. if t then Some event else None) (sym (ap (can_read st true (next_batch st unit)) there ∙ reads_next st true unit))

-- what a reading needs: the unit's node lives, and its call reads at least one entry at a time
pub record IsReady (st : State) (unit : Unit) : Type 0 where
  pub live : lives st.holding.coord unit.work.node ≡ true
  pub most : 1 ≤ batch_size (call_of st.calling unit.work.call)

-- a batch has one entry at least
at_least_one : (most n : ℕ) → is_up_to most n ≡ true → 1 ≤ n
at_least_one most n h = leb-true 1 n (and_parts (nat_le 1 n) (nat_le n most) h).0

-- the batches of a call that goes on have one entry at least
sized : (st : State) (found : Option Call) → goes_on st.holding found ≡ true → ((call : Call) → found ≡ Some call → 1 ≤ call.request.batch) → 1 ≤ batch_size found
sized st None h each = absurd (cc)
sized st (Some call) h each = each call refl

-- a unit that reads on is ready
pub reading_ready : (fields : Inside) (st : State) (walk : Bool) (unit : Unit) → IsCore fields → state_of fields ≡ st → unit_of st.calling unit.work.id ≡ Some unit → reads_on st walk unit ≡ true → IsReady st unit
reading_ready fields st walk unit h view there reading =
    let a : (goes_on st.holding (call_of st.calling unit.work.call) ≡ true) × _ = and_parts (goes_on st.holding (call_of st.calling unit.work.call)) _ reading in
    let b : (beq walk (walks (call_of st.calling unit.work.call)) ≡ true) × _ = and_parts (beq walk (walks (call_of st.calling unit.work.call))) _ a.1 in
    let c : (is_running unit.work.state ≡ true) × _ = and_parts (is_running unit.work.state) _ b.1 in
    let place = find_place (λ (u : Unit). u.work.id == unit.work.id) st.calling.units unit there in
    let reached = subst (λ s. IsReached fields.store.config s) view h.reached in
    record {
      live = each_at (λ (u : Unit). is_open_unit u ≡ true → lives st.holding.coord u.work.node ≡ true) st.calling.units place.0 unit (open_live fields.store.config st h.limits reached) place.1
          (running_open unit.work.state c.0);
      most = sized st (call_of st.calling unit.work.call) a.0 (λ call is.
          let checked = calls_checked fields.store.config st reached unit.work.call call is in
          let counts = and_parts (is_up_to MOST_ROUNDS call.request.rounds) _ checked in
          at_least_one MOST_BATCH call.request.batch (and_parts (is_up_to MOST_BATCH call.request.batch) _ counts.1).0);
    }

-- a unit that may begin is asked, and not by a later topology than its node has installed
pub begins_one : (st : State) (runs : Bool) (unit : Unit) → can_begin_unit st runs (Some unit) ≡ true → may_begin (installed_id st.holding.coord unit.work.node) unit ≡ true
begins_one st runs unit h =
    let a : (goes_on st.holding (call_of st.calling unit.work.call) ≡ true) × _ = and_parts (goes_on st.holding (call_of st.calling unit.work.call)) _ h in
    let b : (is_asked unit.work.state ≡ true) × _ = and_parts (is_asked unit.work.state) _ a.1 in
    let c = and_parts (nat_le unit.work.asked_at (installed_id st.holding.coord unit.work.node)) _ b.1 in
    and_from (is_asked unit.work.state) _ b.0 c.0

-- where there is no unit, none may begin
pub begin_none : (st : State) (number : ℕ) (runs : Bool) → unit_of st.calling number ≡ None → can_begin st number runs ≡ true → ⊥
unfolding can_begin
begin_none st number runs none may = absurd (false≢true (sym (ap (can_begin_unit st runs) none) ∙ may))

-- a unit that can end is one that may
ends_one : (st : State) (found : Option Unit) → can_end_unit st found ≡ true → is_one may_end found ≡ true
ends_one st None h = absurd (cc)
ends_one st (Some unit) h = (and_parts (goes_on st.holding (call_of st.calling unit.work.call)) _ h).1

-- a unit that may end runs, and nothing of its last batch flies
pub end_may : (st : State) (number : ℕ) → can_end st number ≡ true → is_one may_end (unit_of st.calling number) ≡ true
unfolding can_end
end_may st number h = ends_one st (unit_of st.calling number) h

-- what a reading that may happen tells
pub record MayRead (st : State) (batch : Portion Entry) (found : Option Unit) : Type 0 where
  pub may : is_one may_read found ≡ true
  pub few : read_by st.calling.units + length batch.entries ≤ MOST_READ

-- where a batch may be read, all that reading asks for stands
reads_one : (st : State) (walk : Bool) (batch : Portion Entry) (found : Option Unit) → can_read st walk batch found ≡ true → MayRead st batch found
reads_one st walk batch None h = absurd (cc)
reads_one st walk batch (Some unit) h =
    let a : (goes_on st.holding (call_of st.calling unit.work.call) ≡ true) × _ = and_parts (goes_on st.holding (call_of st.calling unit.work.call)) _ h in
    let b : (beq walk (walks (call_of st.calling unit.work.call)) ≡ true) × _ = and_parts (beq walk (walks (call_of st.calling unit.work.call))) _ a.1 in
    let c : (is_running unit.work.state ≡ true) × _ = and_parts (is_running unit.work.state) _ b.1 in
    let d : (not unit.work.last ≡ true) × _ = and_parts (not unit.work.last) _ c.1 in
    let e : (is_none unit.flying ≡ true) × _ = and_parts (is_none unit.flying) _ d.1 in
    let f = and_parts (same_batch batch (next_batch st unit)) _ e.1 in
    let room : nat_le (read_by st.calling.units + length batch.entries) MOST_READ ≡ true = f.1 in
    record {
      may = and_from (is_running unit.work.state) _ c.0 (and_from (not unit.work.last) _ d.0 e.0);
      few = leb-true (read_by st.calling.units + length batch.entries) MOST_READ room;
    }

-- a scan that may happen
pub scan_may : (st : State) (scan : ScanEvent) → can_scan st scan ≡ true → MayRead st scan.batch (unit_of st.calling scan.unit)
unfolding can_scan
scan_may st scan h = reads_one st false scan.batch (unit_of st.calling scan.unit) h

-- a fetch that may happen
pub fetch_may : (st : State) (fetch : FetchEvent) → can_fetch st fetch ≡ true → MayRead st fetch.batch (unit_of st.calling fetch.unit)
unfolding can_fetch
fetch_may st fetch h = reads_one st true fetch.batch (unit_of st.calling fetch.unit) h
