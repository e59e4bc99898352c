-- A unit of a core is changed: it begins, it reads, it ends.
use Rattle.std.proofs.Common.{◌≡◌, ℕ, ◌-◌, Bool, true, List, Some, refl, sym, ap, ◌∙◌}
use Rattle.std.specs.Prelude.{slice_get, slice_set}
use Rattle.grid_event.specs.declared.event.Event.{Event}
use Rattle.grid_event.specs.declared.event.Event.TheVariants as events
use Rattle.grid_event.specs.declared.unit_events.FetchEvent.{FetchEvent}
use Rattle.grid_event.specs.declared.unit_events.ScanEvent.{ScanEvent}
use Rattle.local_publisher.specs.Units.{begun, ended, extended}
use Rattle.topology_coord.specs.Coordination.{installed_id}
use Rattle.cluster_model.specs.State.{Calling, State, Unit, unit_in, unit_of, with_unit}
use Rattle.cluster_model.specs.Step.{allowed, changed}
use Rattle.cluster_model.specs.Units.{begun_unit, can_begin, can_begin_unit, can_end, can_fetch, can_scan, ended_unit, fetched, scanned, with_begin}
use Rattle.cluster_calls.specs.Calling.{AreNumbered, changes_unit, is_one, may_begin}
use Rattle.cluster_calls.proofs.QueryLaws.{find_unit}
use Rattle.cluster_calls.proofs.RightLaws.{there, with_unit-there}
use Rattle.cluster_core.specs.Insides.{IsCore, state_of}
use Rattle.cluster_core.specs.declared.cluster.Core.TheInside.{Inside}
use Rattle.cluster_core.proofs.Rows.{core_next}
use Rattle.cluster_core.proofs.UnitPlaces.{core_numbered}
use Rattle.cluster_core.proofs.UnitReads.{begins_one}

-- the fields are a core's, and are seen as this state
pub record IsSeen (later : Inside) (next : State) : Type 0 where
  pub core : IsCore later
  pub seen : state_of later ≡ next

-- a unit is changed as an event says that may happen
pub unit_row : (fields : Inside) (st : State) (event : Event) (calls : Calling) (number : ℕ) (change : Unit → Unit) → IsCore fields → state_of fields ≡ st → allowed st event ≡ true
    → record st { calling = record st.calling { units = with_unit number change st.calling.units } } ≡ changed st event → calls ≡ changes_unit number change fields.calls → IsSeen (record fields { calls = calls }) (changed st event)
unit_row fields st event calls number change h view may same is =
    let seen : state_of (record fields { calls = calls }) ≡ changed st event =
    ap (λ (x : Calling). state_of (record fields { calls = x })) is
    ∙ ap (λ (s : State). record s { calling = record s.calling { units = with_unit number change s.calling.units } }) view
    ∙ same in
    record {
      core = core_next fields (record fields { calls = calls }) st event h view may seen (ap (λ (x : Calling). x.segments) is);
      seen = seen;
    }

-- a unit has ended
pub end_row : (fields : Inside) (st : State) (calls : Calling) (number : ℕ) → IsCore fields → state_of fields ≡ st → can_end st number ≡ true
    → calls ≡ changes_unit number (λ u. record u { work = ended u.work }) fields.calls → IsSeen (record fields { calls = calls }) (record st { calling = ended_unit st.calling number })
unfolding ended_unit
end_row fields st calls number h view may is =
    unit_row fields st (events.Done number) calls number (λ u. record u { work = ended u.work }) h view may refl is

-- a unit of a reduction has read a batch
pub scan_row : (fields : Inside) (st : State) (calls : Calling) (scan : ScanEvent) → IsCore fields → state_of fields ≡ st → can_scan st scan ≡ true
    → calls ≡ changes_unit scan.unit (λ u. record u { work = extended u.work scan.batch }) fields.calls → IsSeen (record fields { calls = calls }) (record st { calling = scanned st.calling scan })
unfolding scanned
scan_row fields st calls scan h view may is =
    unit_row fields st (events.Scan scan) calls scan.unit (λ u. record u { work = extended u.work scan.batch }) h view may refl is

-- a unit of a walk has read a batch
pub fetch_row : (fields : Inside) (st : State) (calls : Calling) (fetch : FetchEvent) → IsCore fields → state_of fields ≡ st → can_fetch st fetch ≡ true
    → calls ≡ changes_unit fetch.unit (λ u. record { work = extended u.work fetch.batch; flying = Some fetch.batch.entries }) fields.calls → IsSeen (record fields { calls = calls }) (record st { calling = fetched st.calling fetch })
unfolding fetched
fetch_row fields st calls fetch h view may is =
    unit_row fields st (events.Fetch fetch) calls fetch.unit (λ u. record { work = extended u.work fetch.batch; flying = Some fetch.batch.entries }) h view may refl is

-- a change of the unit that is found by a number, told in two ways
changed_alike : (units : List Unit) (number : ℕ) (unit : Unit) (f g : Unit → Unit) → AreNumbered units → unit_in units number ≡ Some unit → f unit ≡ g unit → with_unit number f units ≡ with_unit number g units
changed_alike units number unit f g numbers is same =
    let positive = (there units number (λ u. true) numbers (ap (is_one (λ u. true)) is)).positive in
    let at : slice_get units (number - 1) ≡ Some unit = sym (find_unit units number numbers positive) ∙ is in
    with_unit-there units number unit f numbers positive at ∙ ap (slice_set units (number - 1)) same ∙ sym (with_unit-there units number unit g numbers positive at)

-- what the calls ask of a unit that begins at the topology that its node has installed
pub begin_may : (st : State) (number : ℕ) (runs : Bool) (unit : Unit) (at : ℕ) → unit_of st.calling number ≡ Some unit → at ≡ installed_id st.holding.coord unit.work.node → can_begin st number runs ≡ true → is_one (may_begin at) (unit_of st.calling number) ≡ true
unfolding can_begin
begin_may st number runs unit at is installed may =
    ap (is_one (may_begin at)) is
    ∙ ap (λ (n : ℕ). may_begin n unit) installed
    ∙ begins_one st runs unit (sym (ap (can_begin_unit st runs) is) ∙ may)

-- a unit has begun
pub begin_row : (fields : Inside) (st : State) (calls : Calling) (number : ℕ) (runs : Bool) (unit : Unit) (at : ℕ) → IsCore fields → state_of fields ≡ st → unit_of st.calling number ≡ Some unit
    → at ≡ installed_id st.holding.coord unit.work.node → can_begin st number runs ≡ true
    → calls ≡ changes_unit number (λ u. record u { work = begun u.work runs at }) fields.calls → IsSeen (record fields { calls = calls }) (record st { calling = begun_unit st.holding st.calling number runs })
unfolding begun_unit
begin_row fields st calls number runs unit at h view is installed may changes =
    let same : with_unit number (λ u. record u { work = begun u.work runs at }) st.calling.units ≡ with_unit number (with_begin st.holding runs) st.calling.units =
    changed_alike st.calling.units number unit (λ u. record u { work = begun u.work runs at }) (with_begin st.holding runs) (core_numbered fields st h view) is
    (ap (λ n. record unit { work = begun unit.work runs n }) installed) in
    unit_row fields st (events.Begin number runs) calls number (λ u. record u { work = begun u.work runs at }) h view may (ap (λ units. record st { calling = record st.calling { units = units } }) same) changes
