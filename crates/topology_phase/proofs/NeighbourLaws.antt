-- What the newer of two neighbouring topologies keeps of the older one.
use Rattle.std.proofs.Common.{◌≡◌, ℕ, suc, zero, ◌+◌, ◌<◌, ◌==◌, Bool, true, false, cond, not, ◌&&◌, ◌||◌, ◌⊎◌, List, [], ◌∷◌, length, arith, refl, sym, ap, ◌∙◌, subst, inl, inr}
use Rattle.std.proofs.lemmas.Bool.{eqb-true, and_parts, or_cases, or_left, or_right, or_parts, both_ways, cases_Bool, false_from_ne_true, not-false}
use Rattle.std.specs.List.{list_any, list_all}
use Rattle.topology_phase.specs.Owners.{Hash, among, joined, owners_at, is_ownerless}
use Rattle.topology_phase.specs.Phases.{Phase, NoRebalance, ReadOld, ReadAll, ReadNew, same_phase, by_phase}
use Rattle.topology_phase.specs.Topologies.{Topology, read_owners, write_owners, holders, same_hash, same_topology}
use Rattle.topology_phase.specs.Following.{mended, mended_hash, names_departed, repaired, cancelled, in_phase, completed, begins_rebalance, is_owned_by, neighbours}
use Rattle.topology_phase.specs.Laws.{Names, IsSafe, IsOwned, KeepsReceivers, Follows}
use Rattle.topology_phase.proofs.OwnerLists.{among-joined}
use Rattle.topology_phase.proofs.Mending.{HasSome, some_of, any_of, none_of, owned_within, mended_stays, mended_known, mended_lives, mended_some, length-tabulated, among_at}
use Rattle.topology_phase.proofs.SameTopologies.{same_hash_decides, same_phase_is, same_topology_is}

-- who is in the first list is in the joined one
pub joined_left : (n : ℕ) (xs ys : List ℕ) → among n xs ≡ true → among n (joined xs ys) ≡ true
joined_left n xs ys h = among-joined n xs ys ∙ or_left (among n xs) (among n ys) h

-- who is in the second list is in the joined one
pub joined_right : (n : ℕ) (xs ys : List ℕ) → among n ys ≡ true → among n (joined xs ys) ≡ true
joined_right n xs ys h = among-joined n xs ys ∙ or_right (among n xs) (among n ys) h

-- who is in the joined list is in one of the two
pub joined_cases : (n : ℕ) (xs ys : List ℕ) → among n (joined xs ys) ≡ true → (among n xs ≡ true) ⊎ (among n ys ≡ true)
joined_cases n xs ys h = or_cases (among n xs) (among n ys) (sym (among-joined n xs ys) ∙ h)

-- where none of either list pass a test, none of the joined one do
none_joined : (p : ℕ → Bool) (xs ys : List ℕ) → list_any p xs ≡ false → list_any p ys ≡ false → list_any p (joined xs ys) ≡ false
none_joined p xs ys none_left none_right = false_from_ne_true (list_any p (joined xs ys)) (λ h.
    let one = some_of p (joined xs ys) h in
    elim (joined_cases one.0 xs ys one.2) [
      | inl left ↦ none_of p xs one.0 none_left one.1 left
      | inr right ↦ none_of p ys one.0 none_right one.1 right
    ])

-- a test that some of one list pass is passed by some of another, where those who pass it are in it
passed_on : (p : ℕ → Bool) (xs ys : List ℕ) → ((n : ℕ) → p n ≡ true → among n xs ≡ true → among n ys ≡ true) → list_any p xs ≡ true → list_any p ys ≡ true
passed_on p xs ys keeps h = let one = some_of p xs h in any_of p ys one.0 one.1 (keeps one.0 one.1 one.2)

-- two tests that hold alike are equal
both_ways_equal : (a b : Bool) → (a ≡ true → b ≡ true) → (b ≡ true → a ≡ true) → a ≡ b
both_ways_equal true b there back = sym (there refl)
both_ways_equal false true there back = back refl
both_ways_equal false false there back = refl

-- a mended hash has as many segments
length-mended : (live : List ℕ) (mine other : Hash) → length (mended_hash live mine other) ≡ length mine
length-mended live mine other = length-tabulated (length mine) (λ s. mended live s (owners_at mine s) (owners_at other s))

-- no one owns a segment of a hash without segments
no_owner : (n s : ℕ) → among n (owners_at [] s) ≡ true → ⊥
no_owner n s h = absurd (omega (arith, owned_within [] s n h))

-- where the owners of a segment pass a test, some of the hash do
any_row : (hash : Hash) (s : ℕ) (p : List ℕ → Bool) → s < length hash → p (owners_at hash s) ≡ true → list_any p hash ≡ true
any_row [] s p within h = absurd (omega arith)
any_row (row ∷ hash) zero p within h = or_left (p row) (list_any p hash) h
any_row (row ∷ hash) (suc s) p within h = or_right (p row) (list_any p hash) (any_row hash s p (omega arith) h)

-- where all of a hash pass a test, the owners of a segment do
pub each_row : (hash : Hash) (s : ℕ) (p : List ℕ → Bool) → s < length hash → list_all p hash ≡ true → p (owners_at hash s) ≡ true
each_row [] s p within h = absurd (omega arith)
each_row (row ∷ hash) zero p within h = (and_parts (p row) (list_all p hash) h).0
each_row (row ∷ hash) (suc s) p within h = each_row hash s p (omega arith) (and_parts (p row) (list_all p hash) h).1

-- where all of a list pass a test, each that is in it does
each_of : (p : ℕ → Bool) (xs : List ℕ) (n : ℕ) → list_all p xs ≡ true → among n xs ≡ true → p n ≡ true
each_of p [] n all h = absurd (cc)
each_of p (x ∷ xs) n all h = elim (or_cases (x == n) (among n xs) h) [
  | inl same ↦ ap p (sym (eqb-true x n same)) ∙ (and_parts (p x) (list_all p xs) all).0
  | inr there ↦ each_of p xs n (and_parts (p x) (list_all p xs) all).1 there
]

-- owners that aren't none are some
some_owner : (xs : List ℕ) → not (is_ownerless xs) ≡ true → HasSome xs
some_owner [] h = absurd (cc)
some_owner (x ∷ xs) h = (x, among_at (x ∷ xs) 0 (omega arith))

-- what holds in one phase of a rebalance is said of another
other_phase : {A : Type 0} → (ReadOld ≡ NoRebalance) ⊎ A → (ReadAll ≡ NoRebalance) ⊎ A
other_phase (inl e) = absurd (cc)
other_phase (inr a) = inr a

-- what holds in the second phase is said of the third
in_rebalance_all : {A : Type 0} → (ReadAll ≡ NoRebalance) ⊎ A → (ReadNew ≡ NoRebalance) ⊎ A
in_rebalance_all (inl e) = absurd (cc)
in_rebalance_all (inr a) = inr a

-- what is said of the third phase holds
in_read_new : {A : Type 0} → (ReadNew ≡ NoRebalance) ⊎ A → A
in_read_new (inl e) = absurd (cc)
in_read_new (inr a) = a

module _ (live : List ℕ) where
  -- a node is among the live ones
  abbrev lives : ℕ → Bool
  lives n = among n live

  -- ---- the repair

  module _ (id : ℕ) (c p : Hash) where
    abbrev left : Hash
    left = mended_hash live c p

    abbrev right : Hash
    right = mended_hash live p c

    -- a live owner of either hash is one of the mended ones
    stays_joined : (n s : ℕ) → lives n ≡ true → among n (joined (owners_at c s) (owners_at p s)) ≡ true → among n (joined (owners_at left s) (owners_at right s)) ≡ true
    stays_joined n s l h = elim (joined_cases n (owners_at c s) (owners_at p s) h) [
      | inl in_current ↦ joined_left n (owners_at left s) (owners_at right s) (mended_stays live c p n s l in_current)
      | inr in_pending ↦ joined_right n (owners_at left s) (owners_at right s) (mended_stays live p c n s l in_pending)
    ]

    -- an owner by either mended hash was an owner, or no owner lives
    known_joined : (n s : ℕ) → among n (joined (owners_at left s) (owners_at right s)) ≡ true
        → (among n (joined (owners_at c s) (owners_at p s)) ≡ true) ⊎ ((list_any lives (owners_at c s) ≡ false) × (list_any lives (owners_at p s) ≡ false))
    known_joined n s h = elim (joined_cases n (owners_at left s) (owners_at right s) h) [
      | inl in_left ↦ elim (mended_known live c p n s in_left) [
        | inl own ↦ inl (joined_left n (owners_at c s) (owners_at p s) own)
        | inr none ↦ elim none.1 [
          | inl of_other ↦ inl (joined_right n (owners_at c s) (owners_at p s) of_other)
          | inr no_other ↦ inr (none.0, no_other)
        ]
      ]
      | inr in_right ↦ elim (mended_known live p c n s in_right) [
        | inl own ↦ inl (joined_right n (owners_at c s) (owners_at p s) own)
        | inr none ↦ elim none.1 [
          | inl of_other ↦ inl (joined_left n (owners_at c s) (owners_at p s) of_other)
          | inr no_other ↦ inr (no_other, none.0)
        ]
      ]
    ]

    -- where an owner lives, an owner by the mended hash was one
    was_owner : (n s : ℕ) → list_any lives (owners_at c s) ≡ true → among n (owners_at left s) ≡ true → among n (owners_at c s) ≡ true
    was_owner n s some h = elim (mended_known live c p n s h) [
      | inl own ↦ own
      | inr none ↦ absurd (both_ways (list_any lives (owners_at c s)) none.0 some)
    ]

    was_joined : (n s : ℕ) → list_any lives (joined (owners_at c s) (owners_at p s)) ≡ true → among n (joined (owners_at left s) (owners_at right s)) ≡ true → among n (joined (owners_at c s) (owners_at p s)) ≡ true
    was_joined n s some h = elim (known_joined n s h) [
      | inl was ↦ was
      | inr none ↦ absurd (both_ways (list_any lives (joined (owners_at c s) (owners_at p s))) (none_joined lives (owners_at c s) (owners_at p s) none.0 none.1) some)
    ]

    repaired_safe : (phase : Phase) → IsSafe (record { id = id; phase = phase; current = c; pending = p }) (record { id = id + 1; phase = phase; current = left; pending = right }) lives
    unfolding read_owners write_owners holders
    repaired_safe NoRebalance = record {
      read_is_held = λ n s l h. mended_stays live c p n s l h;
      held_was_written = λ s some n l h. was_owner n s some h;
    }
    repaired_safe ReadOld = record {
      read_is_held = λ n s l h. mended_stays live c p n s l h;
      held_was_written = λ s some n l h. joined_left n (owners_at c s) (owners_at p s) (was_owner n s some h);
    }
    repaired_safe ReadAll = record {
      read_is_held = λ n s l h. stays_joined n s l h;
      held_was_written = λ s some n l h. was_joined n s some h;
    }
    repaired_safe ReadNew = record {
      read_is_held = λ n s l h. joined_right n (owners_at left s) (owners_at right s) (mended_stays live p c n s l h);
      held_was_written = λ s some n l h. was_joined n s (passed_on lives (owners_at p s) (joined (owners_at c s) (owners_at p s)) (λ m _ i. joined_right m (owners_at c s) (owners_at p s) i) some) h;
    }

    held_by_current : (n s : ℕ) → among n (owners_at left s) ≡ true → (among n (owners_at c s) ≡ true) ⊎ (list_any lives (owners_at c s) ≡ false)
    held_by_current n s h = elim (mended_known live c p n s h) [ inl own ↦ inl own | inr none ↦ inr none.0 ]

    held_by_joined : (n s : ℕ) → among n (joined (owners_at left s) (owners_at right s)) ≡ true
        → (among n (joined (owners_at c s) (owners_at p s)) ≡ true) ⊎ (list_any lives (joined (owners_at c s) (owners_at p s)) ≡ false)
    held_by_joined n s h = elim (known_joined n s h) [ inl was ↦ inl was | inr none ↦ inr (none_joined lives (owners_at c s) (owners_at p s) none.0 none.1) ]

    repaired_held_before : (phase : Phase) (n s : ℕ) → lives n ≡ true
        → among n (holders (record { id = id + 1; phase = phase; current = left; pending = right }) s) ≡ true
        → (among n (holders (record { id = id; phase = phase; current = c; pending = p }) s) ≡ true)
        ⊎ (list_any lives (holders (record { id = id; phase = phase; current = c; pending = p }) s) ≡ false)
    unfolding holders
    repaired_held_before NoRebalance n s l h = held_by_current n s h
    repaired_held_before ReadOld n s l h = held_by_current n s h
    repaired_held_before ReadAll n s l h = held_by_joined n s h
    repaired_held_before ReadNew n s l h = held_by_joined n s h

    repaired_still_held : (phase : Phase) (s : ℕ)
        → list_any lives (holders (record { id = id; phase = phase; current = c; pending = p }) s) ≡ true
        → list_any lives (holders (record { id = id + 1; phase = phase; current = left; pending = right }) s) ≡ true
    unfolding holders
    repaired_still_held NoRebalance s h = passed_on lives (owners_at c s) (owners_at left s) (λ n l i. mended_stays live c p n s l i) h
    repaired_still_held ReadOld s h = passed_on lives (owners_at c s) (owners_at left s) (λ n l i. mended_stays live c p n s l i) h
    repaired_still_held ReadAll s h = passed_on lives (joined (owners_at c s) (owners_at p s)) (joined (owners_at left s) (owners_at right s)) (λ n l i. stays_joined n s l i) h
    repaired_still_held ReadNew s h = passed_on lives (joined (owners_at c s) (owners_at p s)) (joined (owners_at left s) (owners_at right s)) (λ n l i. stays_joined n s l i) h

    repaired_named : 0 < length live → (n s : ℕ) → (among n (owners_at left s) ≡ true) ⊎ (among n (owners_at right s) ≡ true) → lives n ≡ true
    repaired_named some n s (inl h) = mended_lives live c p n s some h
    repaired_named some n s (inr h) = mended_lives live p c n s some h

    repaired_owned : (phase : Phase) → (phase ≡ NoRebalance) ⊎ (length p ≡ length c) → IsOwned (record { id = id + 1; phase = phase; current = left; pending = right })
    repaired_owned phase (inl none) = record { pending = λ s m h. inl none; same_length = inl none }
    repaired_owned phase (inr long) = record {
      pending = λ s m h.
          let within : s < length c = omega (arith, owned_within left s m h, length-mended live c p) in
          inr (mended_some live p c s (omega (arith, long, within)));
      same_length = inr (length-mended live p c ∙ long ∙ sym (length-mended live c p));
    }

    -- in the first phase the receivers of a segment with a live current owner stay
    repaired_keeps : (s : ℕ) → list_any lives (owners_at c s) ≡ true
        → KeepsReceivers (record { id = id; phase = ReadOld; current = c; pending = p }) (record { id = id + 1; phase = ReadOld; current = left; pending = right }) lives s
    repaired_keeps s some = record {
      current = λ n l. both_ways_equal (among n (owners_at left s)) (among n (owners_at c s)) (λ h. was_owner n s some h) (λ h. mended_stays live c p n s l h);
      pending = λ n l h. mended_stays live p c n s l h;
    }

    repaired_receives : (phase : Phase) → phase ≡ ReadOld → (phase ≡ NoRebalance)
        ⊎ ((phase ≡ ReadOld) × ((s : ℕ) → list_any lives (owners_at c s) ≡ true
        → KeepsReceivers (record { id = id; phase = phase; current = c; pending = p }) (record { id = id + 1; phase = phase; current = left; pending = right }) lives s))
    repaired_receives NoRebalance e = inl refl
    repaired_receives ReadOld e = inr (refl, repaired_keeps)
    repaired_receives ReadAll e = absurd (cc)
    repaired_receives ReadNew e = absurd (cc)

  -- a repair is a neighbour as runs need it
  repaired_follows : (t : Topology) → 0 < length live → IsOwned t → Follows t (repaired t live) lives
  unfolding repaired
  repaired_follows t some owned = record {
    next_id = refl;
    safe = repaired_safe t.id t.current t.pending t.phase;
    held_before = λ n s l h. elim (repaired_held_before t.id t.current t.pending t.phase n s l h) [ inl was ↦ inl was | inr none ↦ inr (inl none) ];
    still_held = repaired_still_held t.id t.current t.pending t.phase;
    named = λ n s h. inr (repaired_named t.id t.current t.pending some n s h);
    owned = repaired_owned t.id t.current t.pending t.phase owned.same_length;
    receives = repaired_receives t.id t.current t.pending t.phase;
  }

  -- ---- the other ways on

  -- everyone who is named lives
  abbrev pub AllLive : Topology → Type 0
  AllLive t = (n s : ℕ) → Names t n s → lives n ≡ true

  -- a hash that names no departed node names live ones
  named_live : (hash : Hash) → names_departed live hash ≡ false → (n s : ℕ) → among n (owners_at hash s) ≡ true → lives n ≡ true
  named_live hash none n s h =
      not-false (lives n) (false_from_ne_true (not (lives n)) (λ gone.
      both_ways (names_departed live hash) none (any_row hash s (λ owners. list_any (λ m. not (among m live)) owners) (owned_within hash s n h) (any_of (λ m. not (among m live)) (owners_at hash s) n gone h))))

  -- in a hash of live owners each owner lives
  owners_live : (q : Hash) → is_owned_by live q ≡ true → (n s : ℕ) → among n (owners_at q s) ≡ true → lives n ≡ true
  owners_live q owned n s h =
      let row = each_row q s (λ owners. not (is_ownerless owners) && list_all (λ m. among m live) owners) (owned_within q s n h) owned in
      each_of lives (owners_at q s) n (and_parts (not (is_ownerless (owners_at q s))) (list_all (λ m. among m live) (owners_at q s)) row).1 h

  -- and each segment has one
  owners_some : (q : Hash) → is_owned_by live q ≡ true → (s : ℕ) → s < length q → HasSome (owners_at q s)
  owners_some q owned s within =
      let row = each_row q s (λ owners. not (is_ownerless owners) && list_all (λ m. among m live) owners) within owned in
      some_owner (owners_at q s) (and_parts (not (is_ownerless (owners_at q s))) (list_all (λ m. among m live) (owners_at q s)) row).0

  -- READ_ALL after READ_OLD is safe
  read_all_safe : (id : ℕ) (c p : Hash) → IsSafe (record { id = id; phase = ReadOld; current = c; pending = p }) (record { id = id + 1; phase = ReadAll; current = c; pending = p }) lives
  unfolding read_owners write_owners holders
  read_all_safe id c p = record {
    read_is_held = λ n s l h. joined_left n (owners_at c s) (owners_at p s) h;
    held_was_written = λ s some n l h. h;
  }

  -- READ_NEW after READ_ALL is safe
  read_new_safe : (id : ℕ) (c p : Hash) → IsSafe (record { id = id; phase = ReadAll; current = c; pending = p }) (record { id = id + 1; phase = ReadNew; current = c; pending = p }) lives
  unfolding read_owners write_owners holders
  read_new_safe id c p = record {
    read_is_held = λ n s l h. h;
    held_was_written = λ s some n l h. h;
  }

  -- the end of a rebalance is safe
  completed_safe : (id : ℕ) (c p : Hash) → IsSafe (record { id = id; phase = ReadNew; current = c; pending = p }) (record { id = id + 1; phase = NoRebalance; current = p; pending = [] }) lives
  unfolding read_owners write_owners holders
  completed_safe id c p = record {
    read_is_held = λ n s l h. h;
    held_was_written = λ s some n l h. joined_right n (owners_at c s) (owners_at p s) h;
  }

  -- a cancellation is safe
  cancelled_safe : (id : ℕ) (c p : Hash) → IsSafe (record { id = id; phase = ReadOld; current = c; pending = p }) (record { id = id + 1; phase = NoRebalance; current = c; pending = [] }) lives
  unfolding read_owners write_owners holders
  cancelled_safe id c p = record {
    read_is_held = λ n s l h. h;
    held_was_written = λ s some n l h. joined_left n (owners_at c s) (owners_at p s) h;
  }

  -- a new rebalance is safe
  begun_safe : (id : ℕ) (c p q : Hash) → IsSafe (record { id = id; phase = NoRebalance; current = c; pending = p }) (record { id = id + 1; phase = ReadOld; current = c; pending = q }) lives
  unfolding read_owners write_owners holders
  begun_safe id c p q = record {
    read_is_held = λ n s l h. h;
    held_was_written = λ s some n l h. h;
  }

  -- READ_ALL after READ_OLD
  read_all_follows : (id : ℕ) (c p : Hash) → IsOwned (record { id = id; phase = ReadOld; current = c; pending = p })
      → Follows (record { id = id; phase = ReadOld; current = c; pending = p }) (record { id = id + 1; phase = ReadAll; current = c; pending = p }) lives
  unfolding read_owners write_owners holders
  read_all_follows id c p owned = record {
    next_id = refl;
    safe = read_all_safe id c p;
    held_before = λ n s l h. elim (cases_Bool (among n (owners_at c s))) [
      | inl own ↦ inl own
      | inr other ↦ elim (joined_cases n (owners_at c s) (owners_at p s) h) [
        | inl own ↦ inl own
        | inr received ↦ inr (inr ((refl, refl), (received, other)))
      ]
    ];
    still_held = λ s h. passed_on lives (owners_at c s) (joined (owners_at c s) (owners_at p s)) (λ n l i. joined_left n (owners_at c s) (owners_at p s) i) h;
    named = λ n s h. inl h;
    owned = record { pending = λ s m h. other_phase (owned.pending s m h); same_length = other_phase owned.same_length };
    receives = λ e. absurd (cc);
  }

  -- READ_NEW after READ_ALL
  read_new_follows : (id : ℕ) (c p : Hash) → IsOwned (record { id = id; phase = ReadAll; current = c; pending = p })
      → Follows (record { id = id; phase = ReadAll; current = c; pending = p }) (record { id = id + 1; phase = ReadNew; current = c; pending = p }) lives
  unfolding read_owners write_owners holders
  read_new_follows id c p owned = record {
    next_id = refl;
    safe = read_new_safe id c p;
    held_before = λ n s l h. inl h;
    still_held = λ s h. h;
    named = λ n s h. inl h;
    owned = record { pending = λ s m h. in_rebalance_all (owned.pending s m h); same_length = in_rebalance_all owned.same_length };
    receives = λ e. absurd (cc);
  }

  -- the end of a rebalance
  completed_follows : (id : ℕ) (c p : Hash) → ((n s : ℕ) → Names (record { id = id; phase = ReadNew; current = c; pending = p }) n s → lives n ≡ true)
      → IsOwned (record { id = id; phase = ReadNew; current = c; pending = p })
      → Follows (record { id = id; phase = ReadNew; current = c; pending = p }) (record { id = id + 1; phase = NoRebalance; current = p; pending = [] }) lives
  unfolding read_owners write_owners holders
  completed_follows id c p all owned = record {
    next_id = refl;
    safe = completed_safe id c p;
    held_before = λ n s l h. inl (joined_right n (owners_at c s) (owners_at p s) h);
    still_held = λ s h.
        let one = some_of lives (joined (owners_at c s) (owners_at p s)) h in
        elim (joined_cases one.0 (owners_at c s) (owners_at p s) one.2) [
          | inl in_current ↦ (let other = in_read_new (owned.pending s one.0 in_current) in any_of lives (owners_at p s) other.0 (all other.0 s (inr other.1)) other.1)
          | inr in_pending ↦ any_of lives (owners_at p s) one.0 one.1 in_pending
        ];
    named = λ n s h. elim h [ inl in_current ↦ inl (inr in_current) | inr nowhere ↦ absurd (no_owner n s nowhere) ];
    owned = record { pending = λ s m h. inl refl; same_length = inl refl };
    receives = λ e. absurd (cc);
  }

  -- the cancellation of a rebalance
  cancelled_follows : (id : ℕ) (c p : Hash) → Follows (record { id = id; phase = ReadOld; current = c; pending = p }) (record { id = id + 1; phase = NoRebalance; current = c; pending = [] }) lives
  unfolding read_owners write_owners holders
  cancelled_follows id c p = record {
    next_id = refl;
    safe = cancelled_safe id c p;
    held_before = λ n s l h. inl h;
    still_held = λ s h. h;
    named = λ n s h. elim h [ inl in_current ↦ inl (inl in_current) | inr nowhere ↦ absurd (no_owner n s nowhere) ];
    owned = record { pending = λ s m h. inl refl; same_length = inl refl };
    receives = λ e. absurd (cc);
  }

  -- a new rebalance
  begun_follows : (id : ℕ) (c p q : Hash) → length q ≡ length c → is_owned_by live q ≡ true
      → Follows (record { id = id; phase = NoRebalance; current = c; pending = p }) (record { id = id + 1; phase = ReadOld; current = c; pending = q }) lives
  unfolding read_owners write_owners holders
  begun_follows id c p q long owned = record {
    next_id = refl;
    safe = begun_safe id c p q;
    held_before = λ n s l h. inl h;
    still_held = λ s h. h;
    named = λ n s h. elim h [
      | inl in_current ↦ inl (inl in_current)
      | inr in_pending ↦ inr (owners_live q owned n s in_pending)
    ];
    owned = record {
      pending = λ s m h. inr (owners_some q owned s (omega (arith, long, owned_within c s m h)));
      same_length = inr long;
    };
    receives = λ e. inl refl;
  }

  -- what a new rebalance is
  begun_is : (a b : Topology) → begins_rebalance a b live ≡ true → (b ≡ record { id = a.id + 1; phase = ReadOld; current = a.current; pending = b.pending }) × (length b.pending ≡ length a.current) × (is_owned_by live b.pending ≡ true)
  begun_is a b h =
      let ids = and_parts (b.id == a.id + 1) _ h in
      let phases = and_parts (same_phase b.phase ReadOld) _ ids.1 in
      let currents = and_parts (same_hash b.current a.current) _ phases.1 in
      let rest = and_parts (length b.pending == length a.current) (is_owned_by live b.pending) currents.1 in
      let id = eqb-true b.id (a.id + 1) ids.0 in
      let phase = same_phase_is b.phase ReadOld phases.0 in
      let current = (same_hash_decides b.current a.current).0 currents.0 in
      (λ i. record { id = id i; phase = phase i; current = current i; pending = b.pending }, eqb-true (length b.pending) (length a.current) rest.0, rest.1)

  -- where no repair applies
  abbrev in_order : Topology → Topology → Bool
  in_order a b = by_phase a.phase (begins_rebalance a b live) (same_topology b (in_phase a ReadAll) || same_topology b (cancelled a)) (same_topology b (in_phase a ReadNew)) (same_topology b (completed a))

  -- a topology that follows in order is safe beside the one before it
  in_order_safe : (id : ℕ) (phase : Phase) (c p : Hash) (b : Topology) → in_order (record { id = id; phase = phase; current = c; pending = p }) b ≡ true
      → IsSafe (record { id = id; phase = phase; current = c; pending = p }) b lives
  in_order_safe id NoRebalance c p b h =
      let is = begun_is (record { id = id; phase = NoRebalance; current = c; pending = p }) b h in
      subst (λ (t : Topology). IsSafe (record { id = id; phase = NoRebalance; current = c; pending = p }) t lives) (sym is.0) (begun_safe id c p b.pending)
  in_order_safe id ReadOld c p b h =
      elim (or_cases (same_topology b (record { id = id + 1; phase = ReadAll; current = c; pending = p })) (same_topology b (record { id = id + 1; phase = NoRebalance; current = c; pending = [] })) h) [
        | inl on ↦ subst (λ (t : Topology). IsSafe (record { id = id; phase = ReadOld; current = c; pending = p }) t lives) (sym (same_topology_is b _ on)) (read_all_safe id c p)
        | inr back ↦ subst (λ (t : Topology). IsSafe (record { id = id; phase = ReadOld; current = c; pending = p }) t lives) (sym (same_topology_is b _ back)) (cancelled_safe id c p)
      ]
  in_order_safe id ReadAll c p b h = subst (λ (t : Topology). IsSafe (record { id = id; phase = ReadAll; current = c; pending = p }) t lives) (sym (same_topology_is b _ h)) (read_new_safe id c p)
  in_order_safe id ReadNew c p b h = subst (λ (t : Topology). IsSafe (record { id = id; phase = ReadNew; current = c; pending = p }) t lives) (sym (same_topology_is b _ h)) (completed_safe id c p)

  -- and it is a neighbour as runs need it, where no departed node is named
  in_order_follows : (id : ℕ) (phase : Phase) (c p : Hash) (b : Topology) → names_departed live c ≡ false → names_departed live p ≡ false
      → in_order (record { id = id; phase = phase; current = c; pending = p }) b ≡ true → IsOwned (record { id = id; phase = phase; current = c; pending = p })
      → Follows (record { id = id; phase = phase; current = c; pending = p }) b lives
  in_order_follows id NoRebalance c p b g k h owned =
      let is = begun_is (record { id = id; phase = NoRebalance; current = c; pending = p }) b h in
      subst (λ (t : Topology). Follows (record { id = id; phase = NoRebalance; current = c; pending = p }) t lives) (sym is.0) (begun_follows id c p b.pending is.1 is.2)
  in_order_follows id ReadOld c p b g k h owned =
      elim (or_cases (same_topology b (record { id = id + 1; phase = ReadAll; current = c; pending = p })) (same_topology b (record { id = id + 1; phase = NoRebalance; current = c; pending = [] })) h) [
        | inl on ↦ subst (λ (t : Topology). Follows (record { id = id; phase = ReadOld; current = c; pending = p }) t lives) (sym (same_topology_is b _ on)) (read_all_follows id c p owned)
        | inr back ↦ subst (λ (t : Topology). Follows (record { id = id; phase = ReadOld; current = c; pending = p }) t lives) (sym (same_topology_is b _ back)) (cancelled_follows id c p)
      ]
  in_order_follows id ReadAll c p b g k h owned = subst (λ (t : Topology). Follows (record { id = id; phase = ReadAll; current = c; pending = p }) t lives) (sym (same_topology_is b _ h)) (read_new_follows id c p owned)
  in_order_follows id ReadNew c p b g k h owned =
      subst (λ (t : Topology). Follows (record { id = id; phase = ReadNew; current = c; pending = p }) t lives) (sym (same_topology_is b _ h))
      (completed_follows id c p (λ n s named. elim named [ inl in_current ↦ named_live c g n s in_current | inr in_pending ↦ named_live p k n s in_pending ]) owned)

  -- neighbouring topologies are safe while both are in force
  pub neighbours_safe : (a b : Topology) → neighbours a b live ≡ true → IsSafe a b lives
  unfolding neighbours repaired
  neighbours_safe a b h =
      elim (names_departed live a.current || names_departed live a.pending) as (λ g. cond g (same_topology b (repaired a live)) (in_order a b) ≡ true → IsSafe a b lives) [
        | true ↦ λ h. subst (λ (t : Topology). IsSafe a t lives) (sym (same_topology_is b (repaired a live) h)) (repaired_safe a.id a.current a.pending a.phase)
        | false ↦ λ h. in_order_safe a.id a.phase a.current a.pending b h
      ] h

  -- all that the newer of two neighbouring topologies keeps
  pub neighbours_follow : (a b : Topology) → 0 < length live → neighbours a b live ≡ true → IsOwned a → Follows a b lives
  unfolding neighbours repaired
  neighbours_follow a b some h owned =
      elim (names_departed live a.current || names_departed live a.pending) as (λ g. (names_departed live a.current || names_departed live a.pending) ≡ g → cond g (same_topology b (repaired a live)) (in_order a b) ≡ true → Follows a b lives) [
        | true ↦ λ gone h. subst (λ (t : Topology). Follows a t lives) (sym (same_topology_is b (repaired a live) h)) (repaired_follows a some owned)
        | false ↦ λ gone h. (let none = or_parts (names_departed live a.current) (names_departed live a.pending) gone in in_order_follows a.id a.phase a.current a.pending b none.0 none.1 h owned)
      ] refl h
