-- What a core becomes by the events that change what it holds.
use Rattle.std.proofs.Common.{◌≡◌, ℕ, true, List, map, refl, sym, ap, subst, ◌∙◌}
use Rattle.std.specs.FinSet as set_of
use Rattle.std.specs.Ordering.{nat_cmp}
use Rattle.grid_event.specs.Configs.{is_config}
use Rattle.grid_event.specs.declared.config.Config.{Config}
use Rattle.grid_event.specs.declared.event.Event.{Event}
use Rattle.grid_event.specs.declared.event.Event.TheVariants as events
use Rattle.grid_event.specs.declared.store_events.CopyEvent.{CopyEvent}
use Rattle.grid_event.specs.declared.store_events.EraseEvent.{EraseEvent}
use Rattle.grid_event.specs.declared.store_events.WriteEvent.{WriteEvent}
use Rattle.topology_coord.specs.Coordination.{lost_segments}
use Rattle.topology_phase.specs.Topologies.{Topology}
use Rattle.cluster_model.specs.State.{Call, Calling, Holding, State, Unit, first_holding, no_calls, start}
use Rattle.cluster_model.specs.Step.{allowed, changed}
use Rattle.cluster_model.specs.Topologies.{announced, can_announce, can_depart, can_install, can_join, departed, each_call, installed, joined, lost_by_departure, lost_by_installation, notes_losses, with_departure}
use Rattle.cluster_model.specs.Transfers.{can_copy, can_land, copied, landed}
use Rattle.cluster_model.specs.Writes.{can_erase, can_tick, can_write, erased, ticked, written}
use Rattle.cluster_calls.specs.Calling.{with_installation}
use Rattle.cluster_core.specs.Runs.{IsReached}
use Rattle.cluster_core.proofs.Reached.{start_reached}
use Rattle.cluster_core.specs.Insides.{IsCore, state_of}
use Rattle.cluster_core.specs.declared.cluster.Core.TheInside.{Inside}
use Rattle.cluster_core.proofs.Departures.{notes_departed}
use Rattle.cluster_core.proofs.Rows.{core_next}
use Rattle.cluster_core.proofs.UnitSegments.{AreUnread, units_cease, units_within}

-- the fields are those of a core, which is seen as this state
pub record Becomes (later : Inside) (after : State) : Type 0 where
  pub core : IsCore later
  pub seen : state_of later ≡ after

-- a core becomes what an event makes of it
pub becomes : (fields later : Inside) (st : State) (event : Event) → IsCore fields → state_of fields ≡ st → allowed st event ≡ true
    → state_of later ≡ changed (state_of fields) event → later.calls.segments ≡ fields.calls.segments → Becomes later (changed st event)
becomes fields later st event h view may is segments =
    let seen : state_of later ≡ changed st event = is ∙ ap (λ s. changed s event) view in
    record { core = core_next fields later st event h view may seen segments; seen = seen }

-- an event that changes what the store holds alone
store_becomes : (fields : Inside) (store after : Holding) (st : State) (event : Event) → IsCore fields → state_of fields ≡ st → allowed st event ≡ true → store ≡ after
    → record { holding = after; calling = fields.calls } ≡ changed (state_of fields) event → Becomes (record fields { store = store }) (changed st event)
store_becomes fields store after st event h view may is same =
    becomes fields (record fields { store = store }) st event h view may (ap (λ (s : Holding). record { holding = s; calling = fields.calls }) is ∙ same) refl

-- ---- the start

-- a core without calls is seen as the start
pub first_seen : (config : Config) (store : Holding) (calls : Calling) → store ≡ first_holding config → calls ≡ no_calls config.segments → state_of (record { store = store; calls = calls }) ≡ start config
first_seen config store calls is are = λ i. record { holding = is i; calling = are i }

-- and is one
pub first_core : (config : Config) (store : Holding) (calls : Calling) → is_config config ≡ true → store ≡ first_holding config → calls ≡ no_calls config.segments → IsCore (record { store = store; calls = calls })
first_core config store calls good is are = record {
  limits = ap (λ (s : Holding). is_config s.config) is ∙ good;
  segments = ap (λ (x : Calling). x.segments) are ∙ ap (λ (s : Holding). s.config.segments) (sym is);
  reached = first_reached config store calls is are;
}
  where
    first_reached : (config : Config) (store : Holding) (calls : Calling) → store ≡ first_holding config → calls ≡ no_calls config.segments → IsReached store.config (state_of (record { store = store; calls = calls }))
    first_reached config store calls is are = subst (λ (s : State). IsReached s.holding.config s) (sym (first_seen config store calls is are)) (start_reached config)

-- ---- writes, erasures and ticks

-- a write that may happen in the core may happen in its store
pub write_may : (fields : Inside) (st : State) (w : WriteEvent) → state_of fields ≡ st → can_write st.holding w ≡ true → can_write fields.store w ≡ true
write_may fields st w view may = ap (λ (s : State). can_write s.holding w) view ∙ may

-- what a core becomes by a write
pub write_row : (fields : Inside) (st : State) (w : WriteEvent) (store : Holding) → IsCore fields → state_of fields ≡ st → can_write st.holding w ≡ true → store ≡ written fields.store w → Becomes (record fields { store = store }) (record st { holding = written st.holding w })
write_row fields st w store h view may is = store_becomes fields store (written fields.store w) st (events.Write w) h view may is refl

-- an erasure that may happen in the core may happen in its store
pub erase_may : (fields : Inside) (st : State) (e : EraseEvent) → state_of fields ≡ st → can_erase st.holding e ≡ true → can_erase fields.store e ≡ true
erase_may fields st e view may = ap (λ (s : State). can_erase s.holding e) view ∙ may

-- what a core becomes by an erasure
pub erase_row : (fields : Inside) (st : State) (e : EraseEvent) (store : Holding) → IsCore fields → state_of fields ≡ st → can_erase st.holding e ≡ true → store ≡ erased fields.store e → Becomes (record fields { store = store }) (record st { holding = erased st.holding e })
erase_row fields st e store h view may is = store_becomes fields store (erased fields.store e) st (events.Erase e) h view may is refl

-- a tick that may happen in the core may happen in its store
pub tick_may : (fields : Inside) (st : State) (number : ℕ) → state_of fields ≡ st → can_tick st.holding number ≡ true → can_tick fields.store number ≡ true
tick_may fields st number view may = ap (λ (s : State). can_tick s.holding number) view ∙ may

-- what a core becomes by a tick
pub tick_row : (fields : Inside) (st : State) (number : ℕ) (store : Holding) → IsCore fields → state_of fields ≡ st → can_tick st.holding number ≡ true → store ≡ ticked fields.store number → Becomes (record fields { store = store }) (record st { holding = ticked st.holding number })
tick_row fields st number store h view may is = store_becomes fields store (ticked fields.store number) st (events.Tick number) h view may is refl

-- ---- chunks

-- the sending of a chunk that may happen in the core may happen in its store
pub copy_may : (fields : Inside) (st : State) (e : CopyEvent) → state_of fields ≡ st → can_copy st.holding e ≡ true → can_copy fields.store e ≡ true
copy_may fields st e view may = ap (λ (s : State). can_copy s.holding e) view ∙ may

-- what a core becomes by the sending of a chunk
pub copy_row : (fields : Inside) (st : State) (e : CopyEvent) (store : Holding) → IsCore fields → state_of fields ≡ st → can_copy st.holding e ≡ true → store ≡ copied fields.store e → Becomes (record fields { store = store }) (record st { holding = copied st.holding e })
copy_row fields st e store h view may is = store_becomes fields store (copied fields.store e) st (events.Copy e) h view may is refl

-- a landing that may happen in the core may happen in its store
pub land_may : (fields : Inside) (st : State) (receiver segment : ℕ) → state_of fields ≡ st → can_land st.holding receiver segment ≡ true → can_land fields.store receiver segment ≡ true
land_may fields st receiver segment view may = ap (λ (s : State). can_land s.holding receiver segment) view ∙ may

-- what a core becomes by a landing
pub land_row : (fields : Inside) (st : State) (receiver segment : ℕ) (store : Holding) → IsCore fields → state_of fields ≡ st → can_land st.holding receiver segment ≡ true → store ≡ landed fields.store receiver segment
    → Becomes (record fields { store = store }) (record st { holding = landed st.holding receiver segment })
land_row fields st receiver segment store h view may is =
    store_becomes fields store (landed fields.store receiver segment) st (events.Land receiver segment) h view may is refl

-- ---- joins and announcements

-- a join that may happen in the core may happen in its store
pub join_may : (fields : Inside) (st : State) (node : ℕ) → state_of fields ≡ st → can_join st.holding node ≡ true → can_join fields.store node ≡ true
join_may fields st node view may = ap (λ (s : State). can_join s.holding node) view ∙ may

-- what a core becomes by a join
pub join_row : (fields : Inside) (st : State) (node : ℕ) (store : Holding) → IsCore fields → state_of fields ≡ st → can_join st.holding node ≡ true → store ≡ joined fields.store node → Becomes (record fields { store = store }) (record st { holding = joined st.holding node })
join_row fields st node store h view may is = store_becomes fields store (joined fields.store node) st (events.Join node) h view may is refl

-- an announcement that may happen in the core may happen in its store
pub announce_may : (fields : Inside) (st : State) (t : Topology) → state_of fields ≡ st → can_announce st.holding t ≡ true → can_announce fields.store t ≡ true
announce_may fields st t view may = ap (λ (s : State). can_announce s.holding t) view ∙ may

-- what a core becomes by an announcement
pub announce_row : (fields : Inside) (st : State) (t : Topology) (store : Holding) → IsCore fields → state_of fields ≡ st → can_announce st.holding t ≡ true → store ≡ announced fields.store t → Becomes (record fields { store = store }) (record st { holding = announced st.holding t })
announce_row fields st t store h view may is = store_becomes fields store (announced fields.store t) st (events.Announce t) h view may is refl

-- ---- departures

-- a departure that may happen in the core may happen in its store
pub depart_may : (fields : Inside) (st : State) (node : ℕ) → state_of fields ≡ st → can_depart st.holding node ≡ true → can_depart fields.store node ≡ true
depart_may fields st node view may = ap (λ (s : State). can_depart s.holding node) view ∙ may

-- what a core becomes by a departure
pub depart_row : (fields : Inside) (st : State) (node : ℕ) (store : Holding) (left noted : Calling) → IsCore fields → state_of fields ≡ st → can_depart st.holding node ≡ true → store ≡ departed fields.store node
    → left ≡ record fields.calls { units = map (with_departure node) fields.calls.units }
    → noted ≡ record left { calls = each_call (notes_losses left.units (lost_segments fields.store.coord node)) left.calls } → Becomes (record { store = store; calls = noted }) (changed st (events.Depart node))
unfolding lost_by_departure
depart_row fields st node store left noted h view may is leaves notes =
    let lost : List ℕ = lost_segments fields.store.coord node in
    let calls : noted ≡ record fields.calls { units = map (with_departure node) fields.calls.units; calls = each_call (notes_losses fields.calls.units lost) fields.calls.calls } =
    notes
    ∙ ap (λ (x : Calling). record x { calls = each_call (notes_losses x.units lost) x.calls }) leaves
    ∙ ap (λ (change : ℕ → Call → Call). record fields.calls { units = map (with_departure node) fields.calls.units; calls = each_call change fields.calls.calls })
    (notes_departed node fields.calls.units lost) in
    becomes fields (record { store = store; calls = noted }) st (events.Depart node) h view may
    (λ i. record { holding = is i; calling = calls i }) (ap (λ (x : Calling). x.segments) calls)

-- ---- installations

-- an installation that may happen in the core may happen in its store
pub install_may : (fields : Inside) (st : State) (node id : ℕ) → state_of fields ≡ st → can_install st.holding node id ≡ true → can_install fields.store node id ≡ true
install_may fields st node id view may = ap (λ (s : State). can_install s.holding node id) view ∙ may

-- what a core becomes by an installation
pub install_row : (fields : Inside) (st : State) (node id : ℕ) (store : Holding) (unread : set_of.FinSet nat_cmp) (left : Calling) → IsCore fields → state_of fields ≡ st → can_install st.holding node id ≡ true
    → store ≡ installed fields.store node id → AreUnread fields.store node unread → left ≡ record fields.calls { units = map (with_installation node unread id) fields.calls.units }
    → Becomes (record { store = store; calls = left }) (changed st (events.Install node id))
unfolding lost_by_installation
install_row fields st node id store unread left h view may is told leaves =
    let units = units_cease fields.store node id unread fields.calls.units told (units_within fields.store.config (state_of fields) h.limits h.reached) in
    let calls = leaves ∙ ap (λ (us : List Unit). record fields.calls { units = us }) units in
    becomes fields (record { store = store; calls = left }) st (events.Install node id) h view may
    (λ i. record { holding = is i; calling = calls i }) (ap (λ (x : Calling). x.segments) calls)
