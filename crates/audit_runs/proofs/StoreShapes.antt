-- In a run writes, ticks, joins, departures, announcements and installations fit their past.
use Rattle.std.proofs.Common.{Less, Equal, Greater, ◌⊎◌, inl, inr, ◌≡◌, ℕ, ◌+◌, ◌<◌, ◌==◌, nat_le, nat_lt, Bool, true, false, not, ◌&&◌, ◌||◌, T, List, [], ◌∷◌, map, length, refl, sym, ap, ◌∙◌, arith}
use Rattle.std.proofs.lemmas.Bool.{and_parts, eq-eqb, eqb-true, lt-ltb, ltb-true, or_left, or_right}
use Rattle.std.specs.Cmp.{ranked}
use Rattle.std.specs.FinMap as map_of
use Rattle.std.specs.FinSet as set_of
use Rattle.std.specs.List.{range_with_len}
use Rattle.std.specs.Ordering.{is_lt, nat_cmp}
use Rattle.std.specs.declared.cmp.Ordering.{Ordering}
use Rattle.grid_base.specs.declared.limits.TheConstants.{LAST_CLOCK, LONGEST_LIFESPAN}
use Rattle.grid_event.specs.Members.{is_live, live_members, newest_topology}
use Rattle.grid_event.specs.declared.config.Config.{Config}
use Rattle.grid_event.specs.declared.event.Event.{Event}
use Rattle.grid_event.specs.declared.event.Event.TheVariants.{Write, Tick, Join, Depart, Announce, Install}
use Rattle.grid_event.specs.declared.store_events.WriteEvent.{WriteEvent}
use Rattle.topology_coord.proofs.FirstNodes.{in_row}
use Rattle.topology_coord.proofs.MemberLaws.{among-live}
use Rattle.topology_coord.proofs.NextLaws.{next_follows}
use Rattle.topology_coord.specs.Coordination.{installed_id, live_nodes, lives}
use Rattle.topology_phase.proofs.OwnerLists.{among-filter}
use Rattle.topology_phase.specs.Owners.{among}
use Rattle.topology_phase.specs.Phases.{same_phase}
use Rattle.topology_phase.specs.Topologies.{Topology}
use Rattle.topology_phase.specs.declared.phase.Phase.TheVariants.{NoRebalance}
use Rattle.cluster_model.specs.Kept.{IsKept, KeepsTopologies}
use Rattle.cluster_model.specs.State.{State}
use Rattle.cluster_model.specs.Step.{allowed}
use Rattle.cluster_model.specs.Told.{IsTold}
use Rattle.cluster_model.specs.Topologies.{all_copied, can_depart, can_install, can_join}
use Rattle.cluster_model.specs.Writes.{can_change, can_tick, can_write, is_deadline, is_of_kind}
use Rattle.cluster_laws.proofs.causes.CauseQuiet.{FewMembers}
use Rattle.cluster_laws.proofs.copies.Requests.{may_announce}
use Rattle.audit_clauses.specs.Shapes.{fits_past}

-- ---- numbers among others

-- a list that has two numbers has more than one
two_there : (xs : List ℕ) (a b : ℕ) → among a xs ≡ true → among b xs ≡ true → a < b → 1 < length xs
two_there [] a b h g less = absurd (cc)
two_there (x ∷ []) a b h g less = let p = eqb-true x a (only (x == a) h) in let q = eqb-true x b (only (x == b) g) in absurd (omega arith)
  where
    only : (c : Bool) → (c || false) ≡ true → c ≡ true
    only true h = refl
    only false h = h
two_there (x ∷ y ∷ xs) a b h g less = omega arith

-- two numbers that pass a test
record Pair (test : ℕ → Bool) : Type 0 where
  low : ℕ
  high : ℕ
  first : test low ≡ true
  second : test high ≡ true
  less : low < high

-- a map with more than one key has two
two_keys : (es : List (ℕ × ℕ)) → T (map_of.is_sorted nat_cmp es) → 1 < length (map (λ e. e.0) es)
    → Pair (λ n. among n (map (λ e. e.0) es))
two_keys [] sorted h = absurd (omega arith)
two_keys (x ∷ []) sorted h = absurd (omega arith)
two_keys (x ∷ y ∷ es) sorted h = record {
  low = x.0;
  high = y.0;
  first = or_left (x.0 == x.0) _ (eq-eqb x.0 x.0 refl);
  second = or_right (x.0 == y.0) _ (or_left (y.0 == y.0) _ (eq-eqb y.0 y.0 refl));
  less = below x.0 y.0 (parts _ _ (parts _ _ sorted).0).0;
}
  where
    parts : (a b : Bool) → T (a && b) → T a × T b
    parts true b h = (tt, h)
    parts false b h = absurd h

    below : (a b : ℕ) → T (is_lt (nat_cmp a b)) → a < b
    below a b h = by_order (nat_cmp a b) refl h
      where
        by_order : (o : Ordering) → nat_cmp a b ≡ o → T (is_lt o) → a < b
        by_order Less e h = ranked a b Less (sym e)
        by_order Equal e h = absurd h
        by_order Greater e h = absurd h

-- ---- shapes

module _ (config : Config) (past : List Event) (st : State) (k : IsKept config past st) where
  abbrev told : IsTold config past st
  told = k.told

  -- a write has a deadline that can stand
  pub write_fits : (w : WriteEvent) → allowed st (Write w) ≡ true → fits_past config past (Write w) ≡ true
  unfolding can_write fits_past
  write_fits w may =
      ap (λ clock. is_deadline clock w.until) (sym told.clock)
      ∙ (and_parts (is_of_kind st.holding.config.values w.value) _ (and_parts (can_change st.holding w.node w.key) _ may).1).1

  -- a tick is in its limits
  pub tick_fits : (n : ℕ) → allowed st (Tick n) ≡ true → fits_past config past (Tick n) ≡ true
  unfolding can_tick fits_past
  tick_fits n may = ap (λ clock. nat_le 1 n && (nat_le n LONGEST_LIFESPAN && nat_le (clock + n) LAST_CLOCK)) (sym told.clock) ∙ may

  -- a node that joins was never a member
  pub join_fits : (node : ℕ) → allowed st (Join node) ≡ true → fits_past config past (Join node) ≡ true
  unfolding can_join fits_past
  join_fits node may = ap not (sym (told.member node)) ∙ (and_parts (not (set_of.contains st.holding.coord.ever node)) _ may).0

  -- a live node installs the newest topology
  pub install_fits : (node id : ℕ) → allowed st (Install node id) ≡ true → fits_past config past (Install node id) ≡ true
  unfolding can_install fits_past
  install_fits node id may =
      (λ i. sym (told.live node) i && (id == (sym told.newest i).id))
      ∙ outer (lives st.holding.coord node) (not (installed_id st.holding.coord node == st.holding.coord.newest.id))
      (id == st.holding.coord.newest.id) may
    where
      outer : (a b c : Bool) → (a && (b && c)) ≡ true → (a && c) ≡ true
      outer true true c h = h
      outer true false c h = absurd (cc)
      outer false b c h = h

  -- a live node is one of the live members
  member_there : FewMembers config past → (n : ℕ) → among n (live_nodes st.holding.coord) ≡ true
      → among n (live_members config past) ≡ true
  member_there few n h =
      let live : lives st.holding.coord n ≡ true = sym (among-live st.holding.coord n) ∙ h in
      let small : n < 16 = few n (sym (told.member n) ∙ k.parts.topologies.member n live) in
      among-filter n (is_live config past) (range_with_len 0 16)
      ∙ (λ i. (sym (told.live n) ∙ live) i && in_row 0 16 n (omega arith) (omega arith) i)

  -- a live node departs that isn't the only one
  pub depart_fits : FewMembers config past → (node : ℕ) → allowed st (Depart node) ≡ true → fits_past config past (Depart node) ≡ true
  unfolding can_depart fits_past
  depart_fits few node may =
      let p = and_parts (lives st.holding.coord node) (nat_lt 1 (length (live_nodes st.holding.coord))) may in
      let installed = st.holding.coord.installed in
      let two = two_keys (map_of.entries installed) (map_of.entries_sorted installed) (ltb-true 1 (length (live_nodes st.holding.coord)) p.1) in
      let many =
      two_there (live_members config past) two.low two.high (member_there few two.low two.first) (member_there few two.high two.second)
      two.less in
      λ i. (sym (told.live node) ∙ p.0) i && lt-ltb 1 (length (live_members config past)) many i

  -- an announced topology has the next number, and as many segments as the cluster
  pub announce_fits : (t : Topology) → allowed st (Announce t) ≡ true → fits_past config past (Announce t) ≡ true
  unfolding fits_past
  announce_fits t may =
      let topologies : KeepsTopologies config.segments st.holding.coord = k.parts.topologies in
      let next = may_announce config.segments st t topologies may in
      let follows = next_follows (all_copied st.holding) st.holding.coord t topologies.some_live topologies.owned next in
      let id : t.id ≡ (newest_topology config past).id + 1 = follows.next_id ∙ ap (λ (u : Topology). u.id + 1) told.newest in
      let current : length t.current ≡ config.segments = next.as_long ∙ topologies.all_segments in
      λ i. eq-eqb t.id ((newest_topology config past).id + 1) id i
      && (eq-eqb (length t.current) config.segments current i && pending current follows.owned.same_length i)
    where
      pending : length t.current ≡ config.segments → (t.phase ≡ NoRebalance) ⊎ (length t.pending ≡ length t.current)
          → (same_phase t.phase NoRebalance || (length t.pending == config.segments)) ≡ true
      pending current (inl quiet) = or_left (same_phase t.phase NoRebalance) _ (ap (λ p. same_phase p NoRebalance) quiet)
      pending current (inr long) = or_right (same_phase t.phase NoRebalance) _ (eq-eqb (length t.pending) config.segments (long ∙ current))
