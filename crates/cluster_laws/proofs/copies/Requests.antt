-- What is known of a cluster where an event may happen.
use Rattle.std.proofs.Common.{◌≡◌, ℕ, suc, zero, ◌+◌, ◌<◌, ◌≤◌, ◌==◌, Bool, true, false, cond, not, ◌&&◌, ◌||◌, List, [], ◌∷◌, length, Option, Some, None, is_none, unwrap_or, refl, sym, ap, subst, ◌∙◌, inl, inr, arith}
use Rattle.std.proofs.lemmas.Bool.{and_parts, eqb-true, eq-eqb, or_left, or_right, cases_eq}
use Rattle.std.specs.List.{find, list_all, range_with_len}
use Rattle.grid_base.specs.Portion.{Portion}
use Rattle.grid_base.specs.declared.stamped_entry.StampedEntry.{StampedEntry}
use Rattle.grid_event.specs.declared.store_events.CopyEvent.{CopyEvent}
use Rattle.state_transfer.specs.Chunks.{chunk_of, flies, may_send, provider_of, sent_of}
use Rattle.state_transfer.specs.Copying.{Copying, Transfer, has_ended, transfer_to}
use Rattle.state_transfer.proofs.ChunkLaws.{IsChunk, next_is_chunk}
use Rattle.topology_coord.specs.Coordination.{Coordination, all_installed, first_live, lives, some_live, topology_of}
use Rattle.topology_coord.specs.Following.{receives}
use Rattle.topology_coord.proofs.MemberLaws.{each_of, topology_newest}
use Rattle.topology_coord.proofs.NextLaws.{IsNext, following_is_next}
use Rattle.topology_phase.specs.Laws.{IsOwned}
use Rattle.topology_phase.specs.Owners.{among, owners_at}
use Rattle.topology_phase.specs.Phases.{same_phase}
use Rattle.topology_phase.specs.declared.phase.Phase.TheVariants.{ReadOld}
use Rattle.topology_phase.specs.Topologies.{Topology, holders, read_owners}
use Rattle.topology_phase.proofs.Mending.{any_of, owned_within}
use Rattle.topology_phase.proofs.SameTopologies.{same_phase_is, same_topology_is}
use Rattle.cluster_model.specs.Kept.{KeepsParts, KeepsTopologies, Receives}
use Rattle.cluster_model.specs.State.{State, segment_of}
use Rattle.cluster_model.specs.Told.{Contents}
use Rattle.cluster_model.specs.Topologies.{all_copied, can_announce, is_over, is_that, next_topology}
use Rattle.cluster_model.specs.Transfers.{can_copy, can_land, is_provided, next_chunk_of, provider, transfer_of}
use Rattle.cluster_model.specs.Writes.{can_change, reaches}
use Rattle.cluster_laws.proofs.copies.Facts.{holders_old, turned}
use Rattle.cluster_laws.proofs.copies.SameChunks.{same_chunk_is}
use Rattle.cluster_laws.proofs.copies.TransferSteps.{IsSending}

-- ---- writes and erasures

-- a key may be changed at a node: the node lives, and the key has a segment with a live reader
pub record MayChange (st : State) (node : ℕ) (key : List ℕ) (segment : ℕ) : Type 0 where
  pub live : lives st.holding.coord node ≡ true
  pub has_segment : segment_of st.holding key ≡ Some segment
  pub reads : some_live st.holding.coord (read_owners (topology_of st.holding.coord node) segment) ≡ true

-- a key with a segment that has a live reader may be changed
reached : (st : State) (node : ℕ) (key : List ℕ) (found : Option ℕ) → lives st.holding.coord node ≡ true → segment_of st.holding key ≡ found → reaches st.holding node found ≡ true → (segment : ℕ) × MayChange st node key segment
reached st node key None live is reads = absurd (cc)
reached st node key (Some segment) live is reads = (segment, record { live = live; has_segment = is; reads = reads })

-- where a key may be changed, this is known
pub may_change : (st : State) (node : ℕ) (key : List ℕ) → can_change st.holding node key ≡ true → (segment : ℕ) × MayChange st node key segment
may_change st node key can =
    let parts = and_parts (lives st.holding.coord node) (reaches st.holding node (segment_of st.holding key)) can in
    reached st node key (segment_of st.holding key) parts.0 refl parts.1

-- ---- chunks

-- what is found first passes the test and is in the list
found_first : (p : ℕ → Bool) (xs : List ℕ) (x : ℕ) → find p xs ≡ Some x → (p x ≡ true) × (among x xs ≡ true)
found_first p [] x e = absurd (cc)
found_first p (y ∷ xs) x e = elim (p y) as (λ b. p y ≡ b → cond b (Some y) (find p xs) ≡ Some x → (p x ≡ true) × (among x (y ∷ xs) ≡ true)) [
  | true ↦ λ passes e. (let same : y ≡ x = ap (λ o. unwrap_or o y) e in (ap p (sym same) ∙ passes, or_left (y == x) (among x xs) (eq-eqb y x same)))
  | false ↦ λ _ e. (let rest = found_first p xs x e in (rest.0, or_right (y == x) (among x xs) rest.1))
] refl e

-- the provider that passes the test is the one that is found
is_provider : (q : ℕ) (found : Option ℕ) → is_provided q found ≡ true → found ≡ Some q
is_provider q None h = absurd (cc)
is_provider q (Some other) h = ap (λ n. Some n) (sym (eqb-true q other h))

-- who receives a segment, by the newest topology
pub receiver_is : (c : Coordination) (r s : ℕ) → receives c r s ≡ true → (lives c r ≡ true) × Receives c.newest r s
receiver_is c r s h =
    let phase = and_parts (same_phase c.newest.phase ReadOld) _ h in
    let live = and_parts (lives c r) _ phase.1 in
    let owners = and_parts (among r (owners_at c.newest.pending s)) (not (among r (owners_at c.newest.current s))) live.1 in
    (live.0, record { phase = same_phase_is c.newest.phase ReadOld phase.0; pending = owners.0; current = turned (among r (owners_at c.newest.current s)) owners.1 })

-- a transfer of which a chunk may be sent hasn't ended
going_on : (v : Transfer) → may_send (Some v) ≡ true → has_ended v ≡ false
going_on v may = ap (λ b. b && is_none v.flying) (turned v.last (and_parts (not v.last) (is_none v.flying) may).0)

module _ (segments : ℕ) (c : Coordination) (p : Copying) (m : Contents) (h : KeepsParts segments c p m) (r s q : ℕ) where
  -- the provider of a transfer that goes on, or the first live owner, lives and owns the segment
  provides_by : (found : Option Transfer) → transfer_to p.transfers r s ≡ found → may_send found ≡ true → provider_of found (first_live c (owners_at c.newest.current s)) ≡ Some q
      → (lives c q ≡ true) × (among q (owners_at c.newest.current s) ≡ true)
  provides_by None is may gives = found_first (lives c) (owners_at c.newest.current s) q gives
  provides_by (Some v) is may gives =
      subst (λ n. (lives c n ≡ true) × (among n (owners_at c.newest.current s) ≡ true)) (ap (λ o. unwrap_or o q) gives) ((h.transfers r s v is).provided (going_on v may))

  -- a transfer that is there has the provider that is given
  provider_by : (found : Option Transfer) (first : Option ℕ) → provider_of found first ≡ Some q → (v : Transfer) → found ≡ Some v → v.provider ≡ q
  provider_by None first gives v is = absurd (cc)
  provider_by (Some u) first gives v is = ap (λ o. (unwrap_or o u).provider) (sym is) ∙ ap (λ o. unwrap_or o q) gives

  -- where a chunk may be sent, all is known that keeps transfers sound
  pub is_sending : (chunk : Portion StampedEntry) (most : ℕ) → all_installed c ≡ true → receives c r s ≡ true → may_send (transfer_to p.transfers r s) ≡ true
      → is_provided q (provider_of (transfer_to p.transfers r s) (first_live c (owners_at c.newest.current s))) ≡ true → chunk ≡ chunk_of p r s q most
      → IsSending c p m r s q chunk (transfer_to p.transfers r s)
  is_sending chunk most all receiving may provided is =
      let receiver = receiver_is c r s receiving in
      let gives = is_provider q (provider_of (transfer_to p.transfers r s) (first_live c (owners_at c.newest.current s))) provided in
      let there = provides_by (transfer_to p.transfers r s) refl may gives in
      record {
        live = receiver.0;
        receives = receiver.1;
        everywhere = λ n l. subst (λ t. Receives t r s) (sym (topology_newest c all n l)) receiver.1;
        may = may;
        provider = provider_by (transfer_to p.transfers r s) (first_live c (owners_at c.newest.current s)) gives;
        provides = there;
        right = h.copies q s there.0 (ap (among q) (holders_old c.newest s receiver.1.phase) ∙ there.1);
        next = subst (λ x. IsChunk p.cells q s (sent_of (transfer_to p.transfers r s)) x) (sym is) (next_is_chunk p.cells q s (sent_of (transfer_to p.transfers r s)) most);
      }

  -- the segment that is sent has a live holder
  pub sending_held : (chunk : Portion StampedEntry) → IsSending c p m r s q chunk (transfer_to p.transfers r s) → some_live c (holders c.newest s) ≡ true
  sending_held chunk go = any_of (lives c) (holders c.newest s) q go.provides.0 (ap (among q) (holders_old c.newest s go.receives.phase) ∙ go.provides.1)

-- a copy that may happen sends such a chunk
pub may_copy : (segments : ℕ) (st : State) (m : Contents) (e : CopyEvent) → KeepsParts segments st.holding.coord st.holding.copying m → can_copy st.holding e ≡ true
    → IsSending st.holding.coord st.holding.copying m e.receiver e.segment e.provider e.batch (transfer_to st.holding.copying.transfers e.receiver e.segment)
unfolding can_copy
may_copy segments st m e h can =
    let all = and_parts (all_installed st.holding.coord) _ can in
    let receiving = and_parts (receives st.holding.coord e.receiver e.segment) _ all.1 in
    let may = and_parts (may_send (transfer_of st.holding e.receiver e.segment)) _ receiving.1 in
    let provided = and_parts (is_provided e.provider (provider st.holding e.receiver e.segment)) _ may.1 in
    is_sending segments st.holding.coord st.holding.copying m h e.receiver e.segment e.provider e.batch st.holding.config.chunk all.0 receiving.0 may.0 provided.0 (same_chunk_is e.batch (next_chunk_of st.holding e.receiver e.segment e.provider) provided.1)

-- what flies flies in a transfer that is there
flying_there : (found : Option Transfer) → flies found ≡ true → (v : Transfer) × (found ≡ Some v)
flying_there None h = absurd (cc)
flying_there (Some v) h = (v, refl)

-- where a chunk may land there is its transfer
pub may_land : (st : State) (r s : ℕ) → can_land st.holding r s ≡ true → (v : Transfer) × (transfer_to st.holding.copying.transfers r s ≡ Some v)
unfolding can_land
may_land st r s can = flying_there (transfer_to st.holding.copying.transfers r s) can

-- ---- announcements

-- the topology that passes the test is the one that is next
is_that_one : (t : Topology) (found : Option Topology) → is_that t found ≡ true → found ≡ Some t
is_that_one t None h = absurd (cc)
is_that_one t (Some other) h = ap (λ x. Some x) (sym (same_topology_is t other h))

-- what may be announced is the next topology
pub may_announce : (segments : ℕ) (st : State) (t : Topology) → KeepsTopologies segments st.holding.coord → can_announce st.holding t ≡ true → IsNext (all_copied st.holding) st.holding.coord t
unfolding can_announce
may_announce segments st t h can = following_is_next (all_copied st.holding) st.holding.coord h.some_live h.some_owner h.owned t (is_that_one t (next_topology st.holding) can)

-- a number in the range is in its list
among_range : (t a n : ℕ) → a ≤ t → t < a + n → among t (range_with_len a n) ≡ true
among_range t a zero low high = absurd (omega arith)
among_range t a (suc n) low high = elim (cases_eq a t) [
  | inl same ↦ or_left (a == t) (among t (range_with_len (a + 1) n)) (eq-eqb a t same)
  | inr other ↦ or_right (a == t) (among t (range_with_len (a + 1) n)) (among_range t (a + 1) n (omega arith) (omega arith))
]

-- a transfer that is over is there and has ended
over_there : (found : Option Transfer) → is_over found ≡ true → (v : Transfer) × (found ≡ Some v) × (has_ended v ≡ true)
over_there None h = absurd (cc)
over_there (Some v) h = (v, refl, h)

-- what is so or not asked for, is so where it is asked for
only_way : (a b : Bool) → a ≡ true → (not a || b) ≡ true → b ≡ true
only_way true b e h = h
only_way false b e h = absurd (cc)

-- where all receivers have their copies, the transfer to each of them has ended
pub receiver_over : (st : State) → length st.holding.coord.newest.current ≡ st.holding.config.segments → IsOwned st.holding.coord.newest → all_copied st.holding ≡ true
    → (n t : ℕ) → lives st.holding.coord n ≡ true → Receives st.holding.coord.newest n t
    → (v : Transfer) × (transfer_to st.holding.copying.transfers n t ≡ Some v) × (has_ended v ≡ true)
receiver_over st long owned all n t live is =
    let pending_long : length st.holding.coord.newest.pending ≡ length st.holding.coord.newest.current = elim owned.same_length [
      | inl still ↦ (let first = is.phase in absurd (cc))
      | inr same ↦ same
    ] in
    let within : t < st.holding.config.segments = omega (arith, owned_within st.holding.coord.newest.pending t n is.pending) in
    let of_segment = each_of (λ segment. list_all (λ node. not (receives st.holding.coord node segment) || is_over (transfer_to st.holding.copying.transfers node segment)) (owners_at st.holding.coord.newest.pending segment)) (range_with_len 0 st.holding.config.segments) t all (among_range t 0 st.holding.config.segments (omega arith) (omega arith)) in
    let of_node = each_of (λ node. not (receives st.holding.coord node t) || is_over (transfer_to st.holding.copying.transfers node t)) (owners_at st.holding.coord.newest.pending t) n of_segment is.pending in
    over_there (transfer_to st.holding.copying.transfers n t) (only_way (receives st.holding.coord n t) (is_over (transfer_to st.holding.copying.transfers n t)) (receives_true st.holding.coord n t live is) of_node)
  where
    receives_true : (c : Coordination) (r s : ℕ) → lives c r ≡ true → Receives c.newest r s → receives c r s ≡ true
    receives_true c r s l is = (λ i. same_phase (is.phase i) ReadOld && (l i && (is.pending i && not (is.current i))))
