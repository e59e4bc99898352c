-- What the kept parts say of who reads, writes, holds and receives a segment.
use Rattle.std.proofs.Common.{◌≡◌, ℕ, ◌==◌, Bool, true, false, cond, not, ◌&&◌, ◌||◌, List, Option, Some, None, refl, sym, ap, ◌∙◌, unwrap_or}
use Rattle.std.proofs.lemmas.Bool.{eqb-true, true≢false, false_from_ne_true, true_from_ne_false}
use Rattle.std.specs.List.{list_any}
use Rattle.std.specs.Option.{option_map}
use Rattle.state_transfer.specs.Copying.{Copying, Transfer, transfer_to}
use Rattle.topology_coord.specs.Coordination.{Coordination, installed_id, live_of, lives, some_live, topology_of}
use Rattle.topology_phase.specs.Laws.{IsSafe}
use Rattle.topology_phase.specs.Owners.{among, joined, owners_at}
use Rattle.topology_phase.specs.Phases.{by_phase}
use Rattle.topology_phase.specs.declared.phase.Phase.TheVariants.{ReadOld}
use Rattle.topology_phase.specs.Topologies.{Topology, holders, read_owners, write_owners}
use Rattle.topology_phase.proofs.Mending.{any_of, some_of}
use Rattle.topology_phase.proofs.NeighbourLaws.{joined_right}
use Rattle.topology_phase.proofs.OwnerLists.{among-filter}
use Rattle.topology_phase.proofs.Tables.{safe_alone}
use Rattle.cluster_model.specs.Kept.{KeepsEmpty, KeepsTopologies, Receives}
use Rattle.cluster_model.specs.Told.{Contents}

-- ---- tests

-- where the first of two tests fails, and one passes, the second does
pub second_of : (a b : Bool) → a ≡ false → (a || b) ≡ true → b ≡ true
second_of true b e h = absurd (true≢false e)
second_of false b e h = h

-- a test fails where its negation passes
pub turned : (b : Bool) → not b ≡ true → b ≡ false
turned true h = absurd (true≢false (sym h))
turned false h = refl

-- a value that was changed was there
pub changed_some : {A B : Type 0} (f : A → B) (o : Option A) (w : B) → option_map f o ≡ Some w → (v : A) × (o ≡ Some v) × (f v ≡ w)
changed_some f None w e = absurd (cc)
changed_some f (Some v) w e = (v, refl, ap (λ o. unwrap_or o (f v)) e)

-- a test that some of a list pass is passed by some where a wider test is asked
pub wider : (p q : ℕ → Bool) (xs : List ℕ) → ((n : ℕ) → p n ≡ true → q n ≡ true) → list_any p xs ≡ true → list_any q xs ≡ true
wider p q xs keeps h = let one = some_of p xs h in any_of q xs one.0 (keeps one.0 one.1) one.2

-- ---- safety, by the topology that a node has installed

module _ (segments : ℕ) (c : Coordination) (h : KeepsTopologies segments c) where
  -- what a node has installed, and the newest topology, are safe for the live nodes
  pub safe_by : (n : ℕ) → IsSafe (topology_of c n) c.newest (lives c)
  safe_by n = elim (installed_id c n == c.newest.id) as (λ b. IsSafe (cond b c.newest c.before) c.newest (lives c)) [
    | true ↦ safe_alone c.newest (lives c)
    | false ↦ h.safe
  ]

  -- where a segment has a live reader by what a node has installed, each live holder is written by the node
  pub written_by : (n s q : ℕ) → some_live c (read_owners (topology_of c n) s) ≡ true → lives c q ≡ true → among q (holders c.newest s) ≡ true → among q (write_owners (topology_of c n) s) ≡ true
  written_by n s q reads l held = (safe_by n).held_was_written s reads q l held

  -- and there is a live holder
  pub held_where_read : (n s : ℕ) → some_live c (read_owners (topology_of c n) s) ≡ true → some_live c (holders c.newest s) ≡ true
  held_where_read n s reads =
      let one = some_of (lives c) (read_owners (topology_of c n) s) reads in
      any_of (lives c) (holders c.newest s) one.0 one.1 ((safe_by n).read_is_held one.0 s one.1 one.2)

-- who is a live writer lives and is written
pub among-writers : (c : Coordination) (t : Topology) (s q : ℕ) → among q (live_of c (write_owners t s)) ≡ (lives c q && among q (write_owners t s))
among-writers c t s q = among-filter q (lives c) (write_owners t s)

-- ---- receivers

-- in the first phase the current owners hold
pub holders_old : (t : Topology) (s : ℕ) → t.phase ≡ ReadOld → holders t s ≡ owners_at t.current s
unfolding holders
holders_old t s e =
    ap
    (λ phase. by_phase phase (owners_at t.current s) (owners_at t.current s) (joined (owners_at t.current s) (owners_at t.pending s)) (joined (owners_at t.current s) (owners_at t.pending s)))
    e

-- and both current and pending owners are written
writers_old : (t : Topology) (s : ℕ) → t.phase ≡ ReadOld → write_owners t s ≡ joined (owners_at t.current s) (owners_at t.pending s)
unfolding write_owners
writers_old t s e =
    ap
    (λ phase. by_phase phase (owners_at t.current s) (joined (owners_at t.current s) (owners_at t.pending s)) (joined (owners_at t.current s) (owners_at t.pending s)) (joined (owners_at t.current s) (owners_at t.pending s)))
    e

-- a receiver is written
pub receiver_written : (t : Topology) (r s : ℕ) → Receives t r s → among r (write_owners t s) ≡ true
receiver_written t r s h = ap (among r) (writers_old t s h.phase) ∙ joined_right r (owners_at t.current s) (owners_at t.pending s) h.pending

-- a receiver holds nothing yet
pub receiver_not_held : (t : Topology) (r s : ℕ) → Receives t r s → among r (holders t s) ≡ true → ⊥
receiver_not_held t r s h held = true≢false (sym held ∙ ap (among r) (holders_old t s h.phase) ∙ h.current)

-- ---- segments without a live holder

-- the segment of a transfer has a live holder
pub transfer_held : (c : Coordination) (p : Copying) (m : Contents) (r s : ℕ) (v : Transfer) → KeepsEmpty c p m → transfer_to p.transfers r s ≡ Some v → some_live c (holders c.newest s) ≡ true
transfer_held c p m r s v empty is = true_from_ne_false (some_live c (holders c.newest s)) (λ none. let gone = (empty s none).no_transfer r in absurd (cc))

-- a segment with a live holder isn't one without
pub apart_from : (c : Coordination) (t s : ℕ) → some_live c (holders c.newest t) ≡ false → some_live c (holders c.newest s) ≡ true → (t == s) ≡ false
apart_from c t s none some = false_from_ne_true (t == s) (λ e. true≢false (sym some ∙ ap (λ z. some_live c (holders c.newest z)) (sym (eqb-true t s e)) ∙ none))
