-- What a store becomes by each event.
use Rattle.std.proofs.Common.{◌≡◌, ℕ, ◌+◌, ◌≤◌, ◌==◌, true, false, cond, not, ◌||◌, nat_le, nat_lt, List, Option, Some, None, refl, sym, ap, subst, ◌∙◌}
use Rattle.std.proofs.lemmas.Bool.{and_parts, eqb-true, false_from_ne_true, leb-true, true≢false}
use Rattle.std.specs.Cmp.{nat_cmp_total, unsigned_tied}
use Rattle.std.specs.FinSet as set_of
use Rattle.std.specs.List.{filter}
use Rattle.grid_base.specs.declared.limits.TheConstants.{LAST_CLOCK, LONGEST_LIFESPAN}
use Rattle.grid_event.specs.Configs.{is_config}
use Rattle.grid_event.specs.declared.event.Event.{Event}
use Rattle.grid_event.specs.declared.event.Event.TheVariants as events
use Rattle.grid_event.specs.declared.store_events.CopyEvent.{CopyEvent}
use Rattle.grid_event.specs.declared.store_events.EraseEvent.{EraseEvent}
use Rattle.grid_event.specs.declared.store_events.WriteEvent.{WriteEvent}
use Rattle.grid_base.specs.declared.stamped.Stamped.{Stamped}
use Rattle.container_seg.specs.Lifespans.{outlasts}
use Rattle.state_transfer.specs.Calls.{ProvidesNone}
use Rattle.state_transfer.specs.Changes.{changes, ticks}
use Rattle.state_transfer.specs.Chunks.{flies, lands, sends}
use Rattle.state_transfer.specs.Copying.{Copying, Stores, transfer_to}
use Rattle.state_transfer.specs.Leaving.{closes}
use Rattle.topology_coord.specs.Changes.{announces, joins, may_join}
use Rattle.topology_coord.specs.Coordination.{Coordination, live_of, lives, topology_of}
use Rattle.topology_coord.specs.Following.{following}
use Rattle.topology_coord.proofs.MemberLaws.{lives-joins}
use Rattle.topology_phase.specs.Owners.{pruned}
use Rattle.topology_phase.specs.Phases.{same_phase}
use Rattle.topology_phase.specs.Topologies.{Topology, write_owners}
use Rattle.topology_phase.specs.declared.phase.Phase.TheVariants.{ReadOld}
use Rattle.topology_phase.proofs.SameTopologies.{same_topology_is}
use Rattle.cluster_model.specs.State.{Calling, Holding, segment_of}
use Rattle.cluster_model.specs.Step.{allowed, changed}
use Rattle.cluster_model.specs.Topologies.{all_copied, announced, can_announce, can_join, is_that, joined, next_topology}
use Rattle.cluster_model.specs.Transfers.{can_copy, can_land, copied, landed}
use Rattle.cluster_model.specs.Writes.{can_change, can_erase, can_tick, can_write, changed_key, erased, is_deadline, is_of_kind, ticked, writers, written}
use Rattle.cluster_laws.proofs.copies.Facts.{turned}
use Rattle.cluster_laws.proofs.copies.ProviderSteps.{IsProvided}
use Rattle.cluster_store.specs.Insides.{IsReached, IsStore, holding_of}
use Rattle.cluster_store.specs.Hints.{IsAhead, AreHints, IsPassed, WasAnnounced, WasLanded, WasSent, hints_changed}
use Rattle.cluster_store.specs.declared.hints.Hints.{Hints}
use Rattle.cluster_store.specs.declared.hints.ahead.Ahead.{Ahead}
use Rattle.cluster_store.specs.declared.hints.place.Place.{Place}
use Rattle.cluster_store.specs.declared.store.Store.TheInside.{Inside}
use Rattle.cluster_store.proofs.HintLaws.{hints_announces, hints_changes, hints_lands, hints_later, hints_sends, hints_ticks}
use Rattle.cluster_store.proofs.Reached.{reached_next, store_parts, store_providers}

-- the fields are those of a store, which is seen as this state
pub record Becomes (later : Inside) (after : Holding) : Type 0 where
  pub store : IsStore later
  pub seen : holding_of later ≡ after

-- a store becomes what an event makes of what is held, whatever is asked
pub becomes : (fields later : Inside) (st after : Holding) (event : Event) → IsStore fields → holding_of fields ≡ st → ((calling : Calling) → allowed (record { holding = st; calling = calling }) event ≡ true)
    → ((calling : Calling) → (changed (record { holding = st; calling = calling }) event).holding ≡ after) → later.config ≡ fields.config
    → ((node : ℕ) → set_of.contains later.copies.nodes node ≡ lives later.coord node) → holding_of later ≡ after → AreHints later.hints (holding_of later) → Becomes later after
becomes fields later st after event h view may makes config nodes is hints =
    let before : IsReached fields.config st = subst (λ s. IsReached fields.config s) view h.reached in
    let reached : IsReached fields.config (holding_of later) = subst (λ s. IsReached fields.config s) (sym is) (reached_next fields.config st after event before (may before.calling) (makes before.calling)) in
    record {
      store = record {
        limits = ap is_config config ∙ h.limits;
        nodes = nodes;
        reached = subst (λ settings. IsReached settings (holding_of later)) (sym config) reached;
        hints = hints;
      };
      seen = is;
    }

-- an event that changes copies and transfers alone
copies_become : (fields : Inside) (stores : Stores) (copying : Copying) (hints : Hints) (st : Holding) (change : Holding → Holding) (event : Event) → IsStore fields → holding_of fields ≡ st
    → ((calling : Calling) → allowed (record { holding = st; calling = calling }) event ≡ true) → ((calling : Calling) → (changed (record { holding = st; calling = calling }) event).holding ≡ change st)
    → stores ≡ record fields.copies { copying = copying } → record (holding_of fields) { copying = copying } ≡ change (holding_of fields)
    → AreHints hints (record (holding_of fields) { copying = copying }) → Becomes (record fields { copies = stores; hints = hints }) (change st)
copies_become fields stores copying hints st change event h view may makes are is so =
    becomes fields (record fields { copies = stores; hints = hints }) st (change st) event h view may makes refl (λ node. ap (λ (x : Stores). set_of.contains x.nodes node) are ∙ h.nodes node)
    (ap (λ (x : Stores). record (holding_of fields) { copying = x.copying }) are ∙ is ∙ ap change view)
    (subst (λ (x : Stores). AreHints hints (record (holding_of fields) { copying = x.copying })) (sym are) so)

-- ---- writes and erasures

-- the owners that are there are the live ones
pub live_there : (fields : Inside) → IsStore fields → (owners : List ℕ) → pruned (set_of.contains fields.copies.nodes) owners ≡ live_of fields.coord owners
live_there fields h owners = ap (λ f. filter f owners) (λ i node. h.nodes node i)

-- a key's change is that of its segment, where it has one
changed_at : (st : Holding) (n s : ℕ) (k : List ℕ) (o : Option Stamped) (found : Option ℕ) → found ≡ Some s → record st { copying = changes (writers st n s) s k o st.copying } ≡ changed_key st n k o found
changed_at st n s k o found is = ap (changed_key st n k o) (sym is)

-- a write makes of the store what the cluster's step makes of what it holds
pub write_row : (fields : Inside) (st : Holding) (w : WriteEvent) (s : ℕ) (stores : Stores) → IsStore fields → holding_of fields ≡ st → can_write st w ≡ true → segment_of st w.key ≡ Some s
    → stores ≡ record fields.copies { copying = changes (pruned (set_of.contains fields.copies.nodes) (write_owners (topology_of st.coord w.node) s)) s w.key (Some (record { value = w.value; until = w.until })) fields.copies.copying }
    → Becomes (record fields { copies = stores }) (written st w)
unfolding written
write_row fields st w s stores h view may segment are =
    copies_become fields stores (changes (pruned (set_of.contains fields.copies.nodes) (write_owners (topology_of st.coord w.node) s)) s w.key (Some (record { value = w.value; until = w.until })) fields.copies.copying)
    fields.hints st (λ (x : Holding). written x w) (events.Write w) h view (λ _. may) (λ _. refl) are
    (ap (λ owners. record (holding_of fields) { copying = changes owners s w.key (Some (record { value = w.value; until = w.until })) fields.copies.copying })
    (live_there fields h (write_owners (topology_of st.coord w.node) s) ∙ ap (λ (x : Holding). live_of fields.coord (write_owners (topology_of x.coord w.node) s)) (sym view))
    ∙ changed_at (holding_of fields) w.node s w.key (Some (record { value = w.value; until = w.until })) (segment_of (holding_of fields) w.key) (ap (λ (x : Holding). segment_of x w.key) view ∙ segment))
    (hints_changes fields.hints (holding_of fields) (pruned (set_of.contains fields.copies.nodes) (write_owners (topology_of st.coord w.node) s)) s w.key (Some (record { value = w.value; until = w.until })) h.hints)

-- so does an erasure
pub erase_row : (fields : Inside) (st : Holding) (e : EraseEvent) (s : ℕ) (stores : Stores) → IsStore fields → holding_of fields ≡ st → can_erase st e ≡ true → segment_of st e.key ≡ Some s
    → stores ≡ record fields.copies { copying = changes (pruned (set_of.contains fields.copies.nodes) (write_owners (topology_of st.coord e.node) s)) s e.key None fields.copies.copying }
    → Becomes (record fields { copies = stores }) (erased st e)
unfolding erased
erase_row fields st e s stores h view may segment are =
    copies_become fields stores (changes (pruned (set_of.contains fields.copies.nodes) (write_owners (topology_of st.coord e.node) s)) s e.key None fields.copies.copying)
    fields.hints st (λ (x : Holding). erased x e) (events.Erase e) h view (λ _. may) (λ _. refl) are
    (ap (λ owners. record (holding_of fields) { copying = changes owners s e.key None fields.copies.copying })
    (live_there fields h (write_owners (topology_of st.coord e.node) s) ∙ ap (λ (x : Holding). live_of fields.coord (write_owners (topology_of x.coord e.node) s)) (sym view))
    ∙ changed_at (holding_of fields) e.node s e.key None (segment_of (holding_of fields) e.key) (ap (λ (x : Holding). segment_of x e.key) view ∙ segment))
    (hints_changes fields.hints (holding_of fields) (pruned (set_of.contains fields.copies.nodes) (write_owners (topology_of st.coord e.node) s)) s e.key None h.hints)

-- a key without a segment is changed nowhere
pub written_nowhere : (st : Holding) (w : WriteEvent) → segment_of st w.key ≡ None → st ≡ written st w
unfolding written
written_nowhere st w none = ap (changed_key st w.node w.key (Some (record { value = w.value; until = w.until }))) (sym none)

-- an erasure of a key without a segment changes nothing
pub erased_nowhere : (st : Holding) (e : EraseEvent) → segment_of st e.key ≡ None → st ≡ erased st e
unfolding erased
erased_nowhere st e none = ap (changed_key st e.node e.key None) (sym none)

-- a deadline that may be written is none or above the clock
pub write_lasts : (st : Holding) (w : WriteEvent) → can_write st w ≡ true → outlasts st.copying.clock w.until ≡ true
unfolding can_write
write_lasts st w may =
    let parts = and_parts (can_change st w.node w.key) _ may in
    lasting st.copying.clock w.until (and_parts (is_of_kind st.config.values w.value) (is_deadline st.copying.clock w.until) parts.1).1
  where
    lasting : (clock : ℕ) (until : Option ℕ) → is_deadline clock until ≡ true → outlasts clock until ≡ true
    lasting clock None h = refl
    lasting clock (Some until) h = (and_parts (nat_lt clock until) _ h).0

-- ---- ticks

-- a tick that may happen keeps the clock in its limit
pub tick_fits : (st : Holding) (number : ℕ) → can_tick st number ≡ true → st.copying.clock + number ≤ LAST_CLOCK
unfolding can_tick
tick_fits st number may =
    let parts = and_parts (nat_le 1 number) _ may in
    leb-true (st.copying.clock + number) LAST_CLOCK (and_parts (nat_le number LONGEST_LIFESPAN) (nat_le (st.copying.clock + number) LAST_CLOCK) parts.1).1

-- a tick makes of the store what the cluster's step makes of what it holds
pub tick_row : (fields : Inside) (st : Holding) (number clock : ℕ) (stores : Stores) → IsStore fields → holding_of fields ≡ st → can_tick st number ≡ true → clock ≡ fields.copies.copying.clock + number
    → stores ≡ record fields.copies { copying = ticks clock fields.copies.copying } → Becomes (record fields { copies = stores }) (ticked st number)
unfolding ticked
tick_row fields st number clock stores h view may is are =
    copies_become fields stores (ticks clock fields.copies.copying) fields.hints st (λ (x : Holding). ticked x number) (events.Tick number) h view (λ _. may) (λ _. refl) are
    (ap (λ n. record (holding_of fields) { copying = ticks n fields.copies.copying }) is) (hints_ticks fields.hints (holding_of fields) clock h.hints)

-- ---- chunks

-- so does a chunk that lands
pub land_row : (fields : Inside) (st : Holding) (r s : ℕ) (stores : Stores) (hints : Hints) → IsStore fields → holding_of fields ≡ st → can_land st r s ≡ true
    → stores ≡ record fields.copies { copying = lands r s fields.copies.copying } → WasLanded r s fields.hints hints → Becomes (record fields { copies = stores; hints = hints }) (landed st r s)
unfolding landed
land_row fields st r s stores hints h view may are so =
    copies_become fields stores (lands r s fields.copies.copying) hints st (λ (x : Holding). landed x r s) (events.Land r s) h view (λ _. may) (λ _. refl) are refl
    (hints_lands fields.hints hints (holding_of fields) r s so h.hints)

-- so does a chunk that is sent
pub copy_row : (fields : Inside) (st : Holding) (e : CopyEvent) (stores : Stores) (hints : Hints) → IsStore fields → holding_of fields ≡ st → can_copy st e ≡ true
    → stores ≡ record fields.copies { copying = sends e.receiver e.segment e.provider e.batch fields.copies.copying } → WasSent e.receiver e.segment fields.hints hints
    → Becomes (record fields { copies = stores; hints = hints }) (copied st e)
unfolding copied
copy_row fields st e stores hints h view may are so =
    copies_become fields stores (sends e.receiver e.segment e.provider e.batch fields.copies.copying) hints st (λ (x : Holding). copied x e) (events.Copy e) h view (λ _. may) (λ _. refl) are refl
    (hints_sends fields.hints hints (holding_of fields) e.receiver e.segment e.provider e.batch so h.hints)

-- no chunk may be sent before a place, where that is so in the state
pub passed_row : (fields : Inside) (st : Holding) (place : Place) → IsStore fields → holding_of fields ≡ st → IsPassed st place.receiver place.segment
    → Becomes (record fields { hints = record fields.hints { from = place } }) st
passed_row fields st place h view passed = record {
  store = record {
    limits = h.limits;
    nodes = h.nodes;
    reached = h.reached;
    hints = record {
      ahead = h.hints.ahead;
      flying = h.hints.flying;
      passed = subst (λ s. IsPassed s place.receiver place.segment) (sym view) passed;
    };
  };
  seen = view;
}

-- ---- joins

-- a node that may join is one that the coordinator takes
pub join_may : (fields : Inside) (st : Holding) (node : ℕ) → holding_of fields ≡ st → can_join st node ≡ true → may_join fields.coord node ≡ true
unfolding can_join
join_may fields st node view may = ap (λ (x : Holding). may_join x.coord node) view ∙ may

-- and it was never a member
never_member : (c : Coordination) (node : ℕ) → may_join c node ≡ true → set_of.contains c.ever node ≡ false
never_member c node may = turned (set_of.contains c.ever node) (and_parts (not (set_of.contains c.ever node)) _ may).0

-- a node that may join isn't there
pub join_absent : (fields : Inside) (node : ℕ) → IsStore fields → may_join fields.coord node ≡ true → set_of.contains fields.copies.nodes node ≡ false
join_absent fields node h may =
    h.nodes node
    ∙ false_from_ne_true (lives fields.coord node) (λ live. true≢false (sym ((store_parts fields h).1.topologies.member node live) ∙ never_member fields.coord node may))

-- and provides no transfer
pub join_provides : (fields : Inside) (node : ℕ) → IsStore fields → may_join fields.coord node ≡ true → (s : ℕ) → ProvidesNone fields.copies.copying.transfers node s
join_provides fields node h may s r v there =
    let provided : IsProvided fields.coord v.provider s = store_providers fields h r s v there in
    false_from_ne_true (v.provider == node) (λ same. true≢false (sym provided.member ∙ ap (set_of.contains fields.coord.ever) (eqb-true v.provider node same) ∙ never_member fields.coord node may))

-- a join makes of the store what the cluster's step makes of what it holds
pub join_row : (fields : Inside) (st : Holding) (node : ℕ) (coord : Coordination) (stores : Stores) (hints : Hints) (ahead : Ahead) → IsStore fields → holding_of fields ≡ st → can_join st node ≡ true
    → coord ≡ joins fields.coord node → stores ≡ record fields.copies { nodes = set_of.insert fields.copies.nodes node }
    → hints ≡ hints_changed ahead fields.hints → IsAhead ahead coord → Becomes (record fields { coord = coord; copies = stores; hints = hints }) (joined st node)
unfolding joined
join_row fields st node coord stores hints ahead h view may is are so follows =
    becomes fields (record fields { coord = coord; copies = stores; hints = hints }) st (joined st node) (events.Join node) h view (λ _. may) (λ _. refl) refl
    (λ n.
    ap (λ (x : Stores). set_of.contains x.nodes n) are
    ∙ set_of.contains-insert nat_cmp_total fields.copies.nodes node n
    ∙ (λ i. unsigned_tied n node i || h.nodes n i)
    ∙ sym (lives-joins fields.coord node n)
    ∙ ap (λ (x : Coordination). lives x n) (sym is))
    ((λ i. record (holding_of fields) { coord = is i; copying = (are i).copying }) ∙ ap (λ (x : Holding). record x { coord = joins x.coord node }) view)
    (subst (λ k. AreHints k (record (holding_of fields) { coord = coord; copying = stores.copying })) (sym so)
    (hints_later fields.hints (holding_of fields) ahead coord stores.copying follows (λ r s none. ap (λ (x : Stores). flies (transfer_to x.copying.transfers r s)) are ∙ none) h.hints))

-- ---- announcements

-- a topology that is that one is there
is_that_one : (t : Topology) (found : Option Topology) → is_that t found ≡ true → found ≡ Some t
is_that_one t None h = absurd (cc)
is_that_one t (Some other) h = ap (λ x. Some x) (sym (same_topology_is t other h))

-- what may be announced is the next topology
pub announce_next : (fields : Inside) (st : Holding) (t : Topology) → holding_of fields ≡ st → can_announce st t ≡ true → following (all_copied (holding_of fields)) fields.coord ≡ Some t
unfolding can_announce
announce_next fields st t view may = ap (λ (x : Holding). next_topology x) view ∙ is_that_one t (next_topology st) may

-- an announcement makes of the store what the cluster's step makes of what it holds
pub announce_row : (fields : Inside) (st : Holding) (t : Topology) (coord : Coordination) (stores : Stores) (hints : Hints) → IsStore fields → holding_of fields ≡ st → can_announce st t ≡ true
    → coord ≡ announces fields.coord t → stores ≡ record fields.copies { copying = cond (same_phase t.phase ReadOld) fields.copies.copying (closes fields.copies.copying) }
    → WasAnnounced (same_phase t.phase ReadOld) fields.hints hints → Becomes (record fields { coord = coord; copies = stores; hints = hints }) (announced st t)
unfolding announced announces
announce_row fields st t coord stores hints h view may is are so =
    becomes fields (record fields { coord = coord; copies = stores; hints = hints }) st (announced st t) (events.Announce t) h view (λ _. may) (λ _. refl) refl
    (λ n. ap (λ (x : Stores). set_of.contains x.nodes n) are ∙ h.nodes n ∙ ap (λ (x : Coordination). lives x n) (sym is))
    ((λ i. record (holding_of fields) { coord = is i; copying = (are i).copying })
    ∙ ap (λ (x : Holding). record x { coord = announces x.coord t; copying = cond (same_phase t.phase ReadOld) x.copying (closes x.copying) }) view)
    (subst (λ (x : Stores). AreHints hints (record (holding_of fields) { coord = coord; copying = x.copying })) (sym are)
    (hints_announces fields.hints hints (holding_of fields) (same_phase t.phase ReadOld) coord so h.hints))
