-- In a run each node that an event names is below 16, and each segment one of the cluster's.
use Rattle.std.proofs.Common.{inl, inr, ◌≡◌, ℕ, suc, ◌+◌, nat_lt, Bool, true, not, ◌&&◌, List, [], ◌∷◌, ◌++◌, map, length, refl, sym, ap, subst, ◌∙◌, arith}
use Rattle.std.proofs.lemmas.Bool.{and_from, and_parts, lt-ltb}
use Rattle.std.proofs.lemmas.List.Folds.{list_all-append}
use Rattle.std.specs.FinSet as set_of
use Rattle.std.specs.List.{list_all}
use Rattle.grid_base.specs.declared.limits.TheConstants.{MOST_NODES}
use Rattle.grid_event.specs.declared.call_events.Ask.{Ask}
use Rattle.grid_event.specs.declared.call_events.RoundEvent.{RoundEvent}
use Rattle.grid_event.specs.declared.config.Config.{Config}
use Rattle.grid_event.specs.declared.event.Event.{Event}
use Rattle.grid_event.specs.declared.event.Event.TheVariants.{Write, Erase, Join, Depart, Announce, Install, Copy, Land, Invoke, Round, Answer}
use Rattle.state_transfer.specs.Copying.{Transfer}
use Rattle.topology_coord.specs.Changes.{announces}
use Rattle.topology_coord.specs.Coordination.{lives}
use Rattle.topology_phase.proofs.Mending.{owned_within}
use Rattle.topology_phase.specs.Laws.{Names}
use Rattle.topology_phase.specs.Owners.{Hash, among, owners_at}
use Rattle.topology_phase.specs.Topologies.{Topology}
use Rattle.cluster_model.specs.Calls.{asks_from, can_invoke, incomplete, unit_made}
use Rattle.cluster_model.specs.Kept.{IsKept, IsSound}
use Rattle.cluster_model.specs.State.{Call, State, segments_read}
use Rattle.cluster_model.specs.Step.{allowed, changed}
use Rattle.cluster_model.specs.Told.{contents_of}
use Rattle.cluster_model.specs.Topologies.{announced, can_depart, can_install, can_join, is_complete}
use Rattle.cluster_model.specs.Writes.{can_change, can_erase, can_write}
use Rattle.cluster_laws.proofs.Runs.{step_keeps}
use Rattle.cluster_laws.proofs.causes.CauseQuiet.{FewMembers}
use Rattle.cluster_laws.proofs.causes.CauseUnits.{RoundKnown, round_known}
use Rattle.cluster_laws.proofs.causes.CauseWords.{row_below}
use Rattle.cluster_laws.proofs.copies.Requests.{may_copy, may_land}
use Rattle.cluster_laws.proofs.units.CallRequests.{CanAnswer, answer_facts}
use Rattle.cluster_laws.proofs.units.StageNotes.{AllNotes}
use Rattle.cluster_laws.proofs.units.UnitPlaces.{AllPlaced, asked_placed}
use Rattle.audit_clauses.specs.Mentions.{nodes_named, owners_in, segments_named}
use Rattle.audit_runs.proofs.DueOutcomes.{due, due_segments}
use Rattle.audit_runs.proofs.Lists.{all_among, all_filter, alone}

-- what is true of each owner by a hash is true of all
all_owners : (p : ℕ → Bool) (hash : Hash) → ((n s : ℕ) → among n (owners_at hash s) ≡ true → p n ≡ true)
    → list_all p (owners_in hash) ≡ true
all_owners p [] h = refl
all_owners p (owners ∷ hash) h =
    list_all-append p owners (owners_in hash)
    ∙ and_from (list_all p owners) (list_all p (owners_in hash)) (all_among p owners (λ n there. h n 0 there))
    (all_owners p hash (λ n s there. h n (suc s) there))

-- the asks for some segments are for these
asked_segments : (p : ℕ → Bool) (st : State) (originator n : ℕ) (segments : List ℕ) → list_all p segments ≡ true
    → list_all p (map (λ (ask : Ask). ask.segment) (asks_from st.holding originator n segments)) ≡ true
asked_segments p st originator n [] h = refl
asked_segments p st originator n (segment ∷ segments) h =
    let q = and_parts (p segment) (list_all p segments) h in
    and_from (p segment) (list_all p (map (λ (ask : Ask). ask.segment) (asks_from st.holding originator (n + 1) segments))) q.0
    (asked_segments p st originator (n + 1) segments q.1)

-- ---- nodes

-- a node that an event may name
abbrev small : ℕ → Bool
small node = nat_lt node MOST_NODES

module _ (config : Config) (past : List Event) (st : State) (k : IsKept config past st) (few : FewMembers config past) where
  -- a live node is below 16
  live_small : (node : ℕ) → lives st.holding.coord node ≡ true → small node ≡ true
  live_small node live = lt-ltb node 16 (few node (sym (k.told.member node) ∙ k.parts.topologies.member node live))

  -- so are the nodes that a topology names which may be announced
  announced_small : (t : Topology) → allowed st (Announce t) ≡ true
      → list_all small (owners_in t.current ++ owners_in t.pending) ≡ true
  unfolding announced announces
  announced_small t may =
      list_all-append small (owners_in t.current) (owners_in t.pending)
      ∙ and_from (list_all small (owners_in t.current)) (list_all small (owners_in t.pending))
      (all_owners small t.current (λ n s there. named n s (inl there))) (all_owners small t.pending (λ n s there. named n s (inr there)))
    where
      later : IsKept config (Announce t ∷ past) (changed st (Announce t))
      later = step_keeps config past st (Announce t) may k

      named : (n s : ℕ) → Names t n s → small n ≡ true
      named n s names = lt-ltb n 16 (few n (sym (later.told.member n) ∙ later.parts.topologies.named n s names))

  -- and the nodes that a round asks
  asked_small : (call id : ℕ) (asks : List Ask) → AllPlaced st.holding.coord (map (unit_made call id) asks)
      → list_all small (map (λ (ask : Ask). ask.node) asks) ≡ true
  asked_small call id [] placed = refl
  asked_small call id (ask ∷ asks) placed =
      and_from (small ask.node) (list_all small (map (λ (ask : Ask). ask.node) asks)) (live_small ask.node (placed.0.live refl))
      (asked_small call id asks placed.1)

  round_small : (r : RoundEvent) → allowed st (Round r) ≡ true → list_all small (map (λ (ask : Ask). ask.node) r.asks) ≡ true
  round_small r may = let known : (call : Call) × RoundKnown st r call = round_known st r may in by_known known.0 known.1
    where
      by_known : (call : Call) → RoundKnown st r call → list_all small (map (λ (ask : Ask). ask.node) r.asks) ≡ true
      by_known call known =
          asked_small r.call r.id r.asks
          (subst (λ asks. AllPlaced st.holding.coord (map (unit_made r.call r.id) asks)) (sym known.asks)
          (asked_placed st r call.originator (length st.calling.units + 1) (incomplete st.calling r.call) known.readers))

  -- each node that an event names
  pub nodes_known : (event : Event) → allowed st event ≡ true → list_all small (nodes_named event) ≡ true
  unfolding nodes_named can_write can_erase can_join can_depart can_install can_invoke
  nodes_known (Write w) may =
      let p = and_parts (can_change st.holding w.node w.key) _ may in
      alone (small w.node) (live_small w.node (and_parts (lives st.holding.coord w.node) _ p.0).0)
  nodes_known (Erase e) may = alone (small e.node) (live_small e.node (and_parts (lives st.holding.coord e.node) _ may).0)
  nodes_known (Join node) may = alone (small node) (and_parts (not (set_of.contains st.holding.coord.ever node)) (nat_lt node MOST_NODES) may).1
  nodes_known (Depart node) may = alone (small node) (live_small node (and_parts (lives st.holding.coord node) _ may).0)
  nodes_known (Announce t) may = announced_small t may
  nodes_known (Install node id) may = alone (small node) (live_small node (and_parts (lives st.holding.coord node) _ may).0)
  nodes_known (Copy c) may =
      let sends = may_copy config.segments st (contents_of config past) c k.parts may in
      and_from (small c.receiver) (small c.provider && true) (live_small c.receiver sends.live)
      (alone (small c.provider) (live_small c.provider sends.provides.0))
  nodes_known (Land receiver segment) may =
      let there = may_land st receiver segment may in
      alone (small receiver) (live_small receiver (k.parts.transfers receiver segment there.0 there.1).live)
  nodes_known (Invoke i) may = alone (small i.node) (live_small i.node (and_parts (lives st.holding.coord i.node) _ may).0)
  nodes_known (Round r) may = round_small r may
  nodes_known _ may = refl

-- ---- segments

module _ (config : Config) (past : List Event) (st : State) (k : IsKept config past st) (notes : AllNotes config past st) where
  -- a segment that an event may name
  abbrev within : ℕ → Bool
  within segment = nat_lt segment config.segments

  -- a segment with an owner by a hash of all segments is one of the cluster's
  owned_inside : (hash : Hash) (node segment : ℕ) → length hash ≡ config.segments → among node (owners_at hash segment) ≡ true
      → within segment ≡ true
  owned_inside hash node segment long owns =
      let below = owned_within hash segment node owns in lt-ltb segment config.segments (omega (arith, below, long))

  -- so is one of which there is a transfer
  transferred_inside : (receiver segment : ℕ) (transfer : Transfer)
      → IsSound st.holding.coord st.holding.copying.cells (contents_of config past) receiver segment transfer → within segment ≡ true
  transferred_inside receiver segment transfer sound =
      owned_inside st.holding.coord.newest.pending receiver segment
      (elim k.parts.topologies.owned.same_length [
        | inl quiet ↦ (let first = sound.receives.phase in absurd (cc))
        | inr same ↦ same ∙ k.parts.topologies.all_segments
      ]) sound.receives.pending

  -- and so are those that a round asks for
  round_inside : (r : RoundEvent) → allowed st (Round r) ≡ true → list_all within (map (λ (ask : Ask). ask.segment) r.asks) ≡ true
  round_inside r may = let known : (call : Call) × RoundKnown st r call = round_known st r may in by_known known.0 known.1
    where
      by_known : (call : Call) → RoundKnown st r call → list_all within (map (λ (ask : Ask). ask.segment) r.asks) ≡ true
      by_known call known =
          ap (λ asks. list_all within (map (λ (ask : Ask). ask.segment) asks)) known.asks
          ∙ asked_segments within st call.originator (length st.calling.units + 1) (incomplete st.calling r.call)
          (all_filter within (λ segment. not (is_complete st.calling.units r.call segment)) (segments_read st.calling)
          (all_among within (segments_read st.calling) (λ segment there.
          (let below = row_below 0 st.calling.segments segment there in let many = k.told.segments in lt-ltb segment config.segments (omega (arith, below, many))))))

  -- each segment that an event names
  pub segments_known : (event : Event) → allowed st event ≡ true → list_all within (segments_named event) ≡ true
  unfolding segments_named
  segments_known (Copy c) may =
      let sends = may_copy config.segments st (contents_of config past) c k.parts may in
      alone (within c.segment) (owned_inside st.holding.coord.newest.current c.provider c.segment k.parts.topologies.all_segments sends.provides.1)
  segments_known (Land receiver segment) may =
      let there = may_land st receiver segment may in
      alone (within segment) (transferred_inside receiver segment there.0 (k.parts.transfers receiver segment there.0 there.1))
  segments_known (Round r) may = round_inside r may
  segments_known (Answer a) may =
      let facts : (call : Call) × CanAnswer st a call = answer_facts st a may in
      due_segments st a.call facts.0 a.outcome config.segments (due st a.call facts.0 a.outcome facts.1.outcome) k.told.segments
      (λ segment there. (notes a.call facts.0 facts.1.there).within segment there)
  segments_known _ may = refl
