-- The next topology is a neighbour of the newest.
use Rattle.std.proofs.Common.{◌≡◌, ℕ, ◌+◌, ◌<◌, ◌==◌, Bool, true, false, cond, not, ◌||◌, if◌then◌else◌, List, length, Some, None, unwrap_or, refl, sym, ap, subst, ◌∙◌, inl, inr}
use Rattle.std.proofs.lemmas.Bool.{and_parts, and_from, eq-eqb, or_left, or_right}
use Rattle.topology_phase.specs.Following.{begins_rebalance, cancelled, completed, in_phase, mended, neighbours, repaired}
use Rattle.topology_phase.specs.Laws.{Follows, IsOwned}
use Rattle.topology_phase.specs.Owners.{among, owners_at}
use Rattle.topology_phase.specs.Phases.{by_phase}
use Rattle.topology_phase.specs.declared.phase.Phase.{Phase}
use Rattle.topology_phase.specs.declared.phase.Phase.TheVariants.{NoRebalance, ReadOld, ReadAll, ReadNew}
use Rattle.topology_phase.specs.Topologies.{Topology, same_hash, same_topology}
use Rattle.topology_phase.proofs.Mending.{length-tabulated}
use Rattle.topology_phase.proofs.NeighbourLaws as neighbour_laws
use Rattle.topology_phase.proofs.SameTopologies.{same_hash_decides, same_topology_itself}
use Rattle.topology_coord.specs.Coordination.{Coordination, all_installed, live_nodes, lives, segment_count}
use Rattle.topology_coord.specs.Following.{aimed, following, may_follow, needs_repair, rebalanced, unrepaired}
use Rattle.topology_coord.proofs.Aiming.{length-aimed, owned_aimed}
use Rattle.topology_coord.proofs.MemberLaws.{among-live}

-- what is known of the next topology: every live node has the newest; it is a neighbour, with as many segments; and after the
-- first phase of a rebalance the second comes only once all receivers have their copies
pub record IsNext (copied : Bool) (c : Coordination) (next : Topology) : Type 0 where
  pub installed : all_installed c ≡ true
  pub near : neighbours c.newest next (live_nodes c) ≡ true
  pub as_long : length next.current ≡ length c.newest.current
  pub after_copying : c.newest.phase ≡ ReadOld → next.phase ≡ ReadAll → copied ≡ true

-- equal topologies, of equal options
same_some : (a b : Topology) → Some a ≡ Some b → a ≡ b
same_some a b e = ap (λ o. unwrap_or o a) e

-- the part that depends on the way to the next topology
record IsStep (copied : Bool) (c : Coordination) (next : Topology) : Type 0 where
  near : neighbours c.newest next (live_nodes c) ≡ true
  as_long : length next.current ≡ length c.newest.current
  after_copying : c.newest.phase ≡ ReadOld → next.phase ≡ ReadAll → copied ≡ true

module _ (copied : Bool) (c : Coordination) (some : 0 < length (live_nodes c)) (owners : 0 < c.owners) (owned : IsOwned c.newest) where
  -- the live nodes
  abbrev live : List ℕ
  live = live_nodes c

  -- without repair, the way to the next topology by the phase
  abbrev in_turn : Topology → Phase → Bool
  in_turn next phase =
      by_phase phase (begins_rebalance c.newest next live)
      (same_topology next (in_phase c.newest ReadAll) || same_topology next (cancelled c.newest))
      (same_topology next (in_phase c.newest ReadNew))
      (same_topology next (completed c.newest))

  record Way (next : Topology) (phase : Phase) : Type 0 where
    near : in_turn next phase ≡ true
    as_long : length next.current ≡ length c.newest.current
    after_copying : phase ≡ ReadOld → next.phase ≡ ReadAll → copied ≡ true

  -- a rebalance towards the aim may follow where no departed node is named
  rebalanced_begins : needs_repair c ≡ false → begins_rebalance c.newest (rebalanced c) live ≡ true
  rebalanced_begins none =
      and_from ((c.newest.id + 1) == (c.newest.id + 1)) _ (eq-eqb (c.newest.id + 1) (c.newest.id + 1) refl)
      (and_from (same_hash c.newest.current c.newest.current) _ ((same_hash_decides c.newest.current c.newest.current).1 refl)
      (and_from (length (aimed c) == length c.newest.current) _ (eq-eqb (length (aimed c)) (length c.newest.current) (length-aimed c)) (owned_aimed c some owners none)))

  -- from the phase without rebalance the next topology begins one
  begun_way : needs_repair c ≡ false → (b : Bool) (next : Topology) → (if b then None else Some (rebalanced c)) ≡ Some next → Way next NoRebalance
  begun_way none true next e = absurd (cc)
  begun_way none false next e = subst (λ t. Way t NoRebalance) (same_some (rebalanced c) next e) (record { near = rebalanced_begins none; as_long = refl; after_copying = λ p. absurd (cc) })

  -- from the first phase the next topology is the cancellation or the next phase
  moved_way : (next : Topology) → (b k : Bool) → k ≡ copied → (if b then Some (cancelled c.newest) else if k then Some (in_phase c.newest ReadAll) else None) ≡ Some next → Way next ReadOld
  moved_way next true k is e = subst (λ t. Way t ReadOld) (same_some (cancelled c.newest) next e) (record {
    near = or_right (same_topology (cancelled c.newest) (in_phase c.newest ReadAll)) _ (same_topology_itself (cancelled c.newest));
    as_long = refl;
    after_copying = λ _ p. absurd (cc);
  })
  moved_way next false true is e = subst (λ t. Way t ReadOld) (same_some (in_phase c.newest ReadAll) next e) (record {
    near = or_left _ (same_topology (in_phase c.newest ReadAll) (cancelled c.newest)) (same_topology_itself (in_phase c.newest ReadAll));
    as_long = refl;
    after_copying = λ _ _. sym is;
  })
  moved_way next false false is e = absurd (cc)

  -- from the second phase it is the third
  all_way : (next : Topology) → Some (in_phase c.newest ReadNew) ≡ Some next → Way next ReadAll
  all_way next e = subst (λ t. Way t ReadAll) (same_some (in_phase c.newest ReadNew) next e) (record { near = same_topology_itself (in_phase c.newest ReadNew); as_long = refl; after_copying = λ p. absurd (cc) })

  -- from the third phase it is the end
  new_way : c.newest.phase ≡ ReadNew → (next : Topology) → Some (completed c.newest) ≡ Some next → Way next ReadNew
  new_way phase next e = subst (λ t. Way t ReadNew) (same_some (completed c.newest) next e) (record {
    near = same_topology_itself (completed c.newest);
    as_long = elim owned.same_length [ inl still ↦ absurd (cc) | inr same ↦ same ];
    after_copying = λ p. absurd (cc);
  })

  -- so without repair the way to the next topology is one that its phase allows
  unrepaired_way : needs_repair c ≡ false → (next : Topology) → unrepaired copied c ≡ Some next → Way next c.newest.phase
  unfolding unrepaired
  unrepaired_way none next e =
      elim c.newest.phase as (λ phase. c.newest.phase ≡ phase → by_phase phase
      (if same_hash c.newest.current (aimed c) then None else Some (rebalanced c))
      (if not (same_hash c.newest.pending (aimed c)) then Some (cancelled c.newest) else if copied then Some (in_phase c.newest ReadAll) else None)
      (Some (in_phase c.newest ReadNew))
      (Some (completed c.newest)) ≡ Some next → Way next phase) [
        | NoRebalance ↦ λ _ e. begun_way none (same_hash c.newest.current (aimed c)) next e
        | ReadOld ↦ λ _ e. moved_way next (not (same_hash c.newest.pending (aimed c))) copied refl e
        | ReadAll ↦ λ _ e. all_way next e
        | ReadNew ↦ λ phase e. new_way phase next e
      ] refl e

  -- a repair is a neighbour, and has as many segments
  repair_step : (next : Topology) → needs_repair c ≡ true → Some (repaired c.newest live) ≡ Some next → IsStep copied c next
  unfolding neighbours repaired
  repair_step next gone e = subst (λ t. IsStep copied c t) (same_some (repaired c.newest live) next e) (record {
    near = ap (λ b. cond b (same_topology (repaired c.newest live) (repaired c.newest live)) (in_turn (repaired c.newest live) c.newest.phase)) gone ∙ same_topology_itself (repaired c.newest live);
    as_long = length-tabulated (length c.newest.current) (λ s. mended live s (owners_at c.newest.current s) (owners_at c.newest.pending s));
    after_copying = λ p q. absurd (cc);
  })

  -- so is a next topology without repair
  plain_step : (next : Topology) → needs_repair c ≡ false → unrepaired copied c ≡ Some next → IsStep copied c next
  unfolding neighbours
  plain_step next none e =
      let way = unrepaired_way none next e in
      record {
        near = ap (λ b. cond b (same_topology next (repaired c.newest live)) (in_turn next c.newest.phase)) none ∙ way.near;
        as_long = way.as_long;
        after_copying = way.after_copying;
      }

  -- so is either of them
  next_step : (next : Topology) (b : Bool) → needs_repair c ≡ b → (if b then Some (repaired c.newest live) else unrepaired copied c) ≡ Some next → IsStep copied c next
  next_step next true gone e = repair_step next gone e
  next_step next false none e = plain_step next none e

  -- and where a topology may be next, every live node has installed the newest
  next_from : (next : Topology) (m : Bool) → may_follow c ≡ m → (if m then if needs_repair c then Some (repaired c.newest live) else unrepaired copied c else None) ≡ Some next → IsNext copied c next
  next_from next true may e =
      let step = next_step next (needs_repair c) refl e in
      record { installed = (and_parts (all_installed c) _ may).0; near = step.near; as_long = step.as_long; after_copying = step.after_copying }
  next_from next false may e = absurd (cc)

  -- the next topology is a neighbour of the newest
  pub following_is_next : (next : Topology) → following copied c ≡ Some next → IsNext copied c next
  unfolding following
  following_is_next next e = next_from next (may_follow c) refl e

-- what the next topology keeps of the newest one, for the live nodes
pub next_follows : (copied : Bool) (c : Coordination) (next : Topology) → 0 < length (live_nodes c) → IsOwned c.newest → IsNext copied c next → Follows c.newest next (lives c)
next_follows copied c next some owned is =
    let same : (λ n. among n (live_nodes c)) ≡ lives c = λ i n. among-live c n i in
    subst (λ (p : ℕ → Bool). Follows c.newest next p) same (neighbour_laws.neighbours_follow (live_nodes c) c.newest next some is.near owned)
