-- As long as the topology isn't settled there is a step towards the next one.
use Rattle.std.proofs.Common.{◌≡◌, ℕ, zero, suc, ◌+◌, ◌<◌, ◌==◌, Bool, true, false, not, ◌||◌, ◌⊎◌, inl, inr, cond, List, [], ◌∷◌, length, refl, ap, ◌∙◌, arith}
use Rattle.std.proofs.lemmas.Bool.{and_parts, or_cases, or_left, or_right}
use Rattle.std.specs.List.{list_any}
use Rattle.topology_coord.proofs.MemberLaws.{among-live}
use Rattle.topology_coord.specs.Coordination.{Coordination, live_nodes, lives, some_live}
use Rattle.topology_coord.specs.Following.{needs_repair}
use Rattle.topology_phase.proofs.Mending.{HasSome, any_of, length-tabulated, mended_some, none_of}
use Rattle.topology_phase.proofs.OwnerLists.{among-joined}
use Rattle.topology_phase.proofs.SameTopologies.{same_hash_decides, same_topology_is}
use Rattle.topology_phase.specs.Following.{begins_rebalance, cancelled, completed, in_phase, mended, names_departed, neighbours, repaired}
use Rattle.topology_phase.specs.Laws.{IsOwned}
use Rattle.topology_phase.specs.Owners.{Hash, among, joined, owners_at}
use Rattle.topology_phase.specs.Phases.{by_phase, same_phase}
use Rattle.topology_phase.specs.Topologies.{Topology, read_owners, same_hash, same_topology}
use Rattle.topology_phase.specs.declared.phase.Phase.{Phase}
use Rattle.topology_phase.specs.declared.phase.Phase.TheVariants.{NoRebalance, ReadOld, ReadAll, ReadNew}

-- each segment has a current owner
abbrev pub CurrentOwned : Topology → Type 0
CurrentOwned t = (s : ℕ) → s < length t.current → HasSome (owners_at t.current s)

-- ---- the next topology

-- a topology with the same current owners
owned_alike : (a b : Topology) → b.current ≡ a.current → CurrentOwned a → CurrentOwned b
owned_alike a b same owned s within =
    let one = owned s (let n = ap length same in omega arith) in (one.0, ap (λ hash. among one.0 (owners_at hash s)) same ∙ one.1)

-- a repair gives each segment an owner
repaired_owned : (a : Topology) (live : List ℕ) → CurrentOwned (repaired a live)
unfolding repaired
repaired_owned a live s within =
    mended_some live a.current a.pending s (let n = length-tabulated (length a.current) (λ t. mended live t (owners_at a.current t) (owners_at a.pending t)) in omega arith)

-- and so does the end of a rebalance
completed_owned : (a : Topology) → IsOwned a → a.phase ≡ ReadNew → CurrentOwned a → CurrentOwned (completed a)
completed_owned a owned phase current s within = by_length owned.same_length
  where
    pended : (m : ℕ) → (a.phase ≡ NoRebalance) ⊎ ((n : ℕ) × (among n (owners_at a.pending s) ≡ true)) → HasSome (owners_at a.pending s)
    pended m (inl still) = absurd (cc)
    pended m (inr some) = some

    by_length : (a.phase ≡ NoRebalance) ⊎ (length a.pending ≡ length a.current) → HasSome (owners_at a.pending s)
    by_length (inl still) = absurd (cc)
    by_length (inr same) = let one = current s (omega (arith, same)) in pended one.0 (owned.pending s one.0 one.1)

-- a neighbour of a topology in which each segment has an owner is such a one
pub next_owned : (a b : Topology) (live : List ℕ) → neighbours a b live ≡ true → IsOwned a → CurrentOwned a → CurrentOwned b
unfolding neighbours
next_owned a b live near owned current = by_repair (names_departed live a.current || names_departed live a.pending) near
  where
    same_as : (t : Topology) → same_topology b t ≡ true → CurrentOwned t → CurrentOwned b
    same_as t same h = owned_alike t b (ap (λ (x : Topology). x.current) (same_topology_is b t same)) h

    by_turn : (phase : Phase) → a.phase ≡ phase →
        by_phase phase (begins_rebalance a b live) (same_topology b (in_phase a ReadAll) || same_topology b (cancelled a)) (same_topology b (in_phase a ReadNew)) (same_topology b (completed a)) ≡ true → CurrentOwned b
    by_turn NoRebalance e h =
        let p = and_parts (b.id == a.id + 1) _ h in
        let q = and_parts (same_phase b.phase ReadOld) _ p.1 in
        let r = and_parts (same_hash b.current a.current) _ q.1 in
        owned_alike a b ((same_hash_decides b.current a.current).0 r.0) current
    by_turn ReadOld e h = elim (or_cases (same_topology b (in_phase a ReadAll)) (same_topology b (cancelled a)) h) [
      | inl further ↦ same_as (in_phase a ReadAll) further current
      | inr given ↦ same_as (cancelled a) given current
    ]
    by_turn ReadAll e h = same_as (in_phase a ReadNew) h current
    by_turn ReadNew e h = same_as (completed a) h (completed_owned a owned e current)

    by_repair : (r : Bool) → cond r (same_topology b (repaired a live)) (by_phase a.phase (begins_rebalance a b live) (same_topology b (in_phase a ReadAll) || same_topology b (cancelled a)) (same_topology b (in_phase a ReadNew)) (same_topology b (completed a))) ≡ true → CurrentOwned b
    by_repair true h = same_as (repaired a live) h (repaired_owned a live)
    by_repair false h = by_turn a.phase refl h

-- ---- departed owners

-- a row of a hash that passes a test
any_row : (p : List ℕ → Bool) (hash : Hash) (s : ℕ) → s < length hash → p (owners_at hash s) ≡ true → list_any p hash ≡ true
any_row p [] s within h = absurd (omega arith)
any_row p (owners ∷ hash) zero within h = or_left (p owners) (list_any p hash) h
any_row p (owners ∷ hash) (suc s) within h = or_right (p owners) (list_any p hash) (any_row p hash s (omega arith) h)

-- an owner that doesn't live is named
pub departed_named : (c : Coordination) (hash : Hash) (s n : ℕ) → s < length hash → among n (owners_at hash s) ≡ true → lives c n ≡ false → names_departed (live_nodes c) hash ≡ true
departed_named c hash s n within owns gone =
    any_row (λ owners. list_any (λ m. not (among m (live_nodes c))) owners) hash s within
    (any_of (λ m. not (among m (live_nodes c))) (owners_at hash s) n (ap not (among-live c n ∙ gone)) owns)

-- where a segment has no live reader by the newest topology, a departed node is named
pub unread_needs_repair : (c : Coordination) (s : ℕ) → IsOwned c.newest → CurrentOwned c.newest → s < length c.newest.current → some_live c (read_owners c.newest s) ≡ false → needs_repair c ≡ true
unfolding read_owners
unread_needs_repair c s owned current within none = by_turn c.newest.phase refl none
  where
    one : HasSome (owners_at c.newest.current s)
    one = current s within

    -- one of the readers that doesn't live
    gone : (readers : List ℕ) (n : ℕ) → some_live c readers ≡ false → among n readers ≡ true → lives c n ≡ false
    gone readers n none reads = by_test (lives c n) refl
      where
        by_test : (b : Bool) → lives c n ≡ b → b ≡ false
        by_test false e = refl
        by_test true e = absurd (none_of (lives c) readers n none e reads)

    by_current : (readers : List ℕ) → some_live c readers ≡ false → ((n : ℕ) → among n (owners_at c.newest.current s) ≡ true → among n readers ≡ true) → needs_repair c ≡ true
    by_current readers none reads = or_left (names_departed (live_nodes c) c.newest.current) _ (departed_named c c.newest.current s one.0 within one.1 (gone readers one.0 none (reads one.0 one.1)))

    by_pending : c.newest.phase ≡ ReadNew → some_live c (owners_at c.newest.pending s) ≡ false → (c.newest.phase ≡ NoRebalance) ⊎ ((n : ℕ) × (among n (owners_at c.newest.pending s) ≡ true)) →
        (c.newest.phase ≡ NoRebalance) ⊎ (length c.newest.pending ≡ length c.newest.current) → needs_repair c ≡ true
    by_pending e none (inl still) l = absurd (cc)
    by_pending e none (inr some) (inl still) = absurd (cc)
    by_pending e none (inr some) (inr same) =
        or_right (names_departed (live_nodes c) c.newest.current) _ (departed_named c c.newest.pending s some.0 (omega (arith, same)) some.1 (gone (owners_at c.newest.pending s) some.0 none some.1))

    by_turn : (phase : Phase) → c.newest.phase ≡ phase →
        some_live c (by_phase phase (owners_at c.newest.current s) (owners_at c.newest.current s) (joined (owners_at c.newest.current s) (owners_at c.newest.pending s)) (owners_at c.newest.pending s)) ≡ false → needs_repair c ≡ true
    by_turn NoRebalance e none = by_current (owners_at c.newest.current s) none (λ n h. h)
    by_turn ReadOld e none = by_current (owners_at c.newest.current s) none (λ n h. h)
    by_turn ReadAll e none =
        by_current (joined (owners_at c.newest.current s) (owners_at c.newest.pending s)) none
        (λ n h. among-joined n (owners_at c.newest.current s) (owners_at c.newest.pending s) ∙ or_left (among n (owners_at c.newest.current s)) _ h)
    by_turn ReadNew e none = by_pending e none (owned.pending s one.0 one.1) owned.same_length
