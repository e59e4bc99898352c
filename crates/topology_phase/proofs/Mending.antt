-- Who owns a segment after a repair.
use Rattle.std.proofs.Common.{◌≡◌, ℕ, suc, zero, ◌+◌, ◌%◌, ◌<◌, Bool, true, false, cond, ◌||◌, ◌⊎◌, List, [], ◌∷◌, ◌++◌, length, get_or, nat_eq, arith, refl, sym, ap, ◌∙◌, inl, inr}
use Rattle.std.proofs.lemmas.Bool.{eqb-true, eq-eqb, and_parts, and_from, or_cases, or_left, or_right, both_ways, cases_lt}
use Rattle.std.proofs.lemmas.List.{get_or_past}
use Rattle.std.proofs.lemmas.List.FromFn.{get_or-map-range_with_len, length-map-range_with_len, map-range_with_len_more}
use Rattle.std.proofs.Math.Nat.{mod-lt}
use Rattle.std.specs.List.{list_any, filter}
use Rattle.topology_phase.specs.Owners.{Hash, among, owners_at, tabulated}
use Rattle.topology_phase.specs.Following.{first_of_two, stand_in, mended, mended_hash}
use Rattle.topology_phase.proofs.OwnerLists.{among-filter}

-- some node is in the list
abbrev pub HasSome : List ℕ → Type 0
HasSome xs = (n : ℕ) × (among n xs ≡ true)

-- the first of a list is in it
among_head : (n : ℕ) (xs : List ℕ) → among n (n ∷ xs) ≡ true
among_head n xs = or_left (nat_eq n n) (among n xs) (eq-eqb n n refl)

-- the one at a place is in the list
pub among_at : (xs : List ℕ) (i : ℕ) → i < length xs → among (get_or xs i 0) xs ≡ true
among_at [] i h = absurd (omega arith)
among_at (x ∷ xs) zero h = among_head x xs
among_at (x ∷ xs) (suc i) h = or_right (nat_eq x (get_or xs i 0)) (among (get_or xs i 0) xs) (among_at xs i (omega arith))

-- who passes a test where some of a list do
pub some_of : (p : ℕ → Bool) (xs : List ℕ) → list_any p xs ≡ true → (n : ℕ) × (p n ≡ true) × (among n xs ≡ true)
some_of p [] h = absurd (cc)
some_of p (x ∷ xs) h = elim (or_cases (p x) (list_any p xs) h) [
  | inl here ↦ (x, here, among_head x xs)
  | inr there ↦ (let rest = some_of p xs there in (rest.0, rest.1, or_right (nat_eq x rest.0) (among rest.0 xs) rest.2))
]

-- where one that is in a list passes a test, some of the list do
pub any_of : (p : ℕ → Bool) (xs : List ℕ) (n : ℕ) → p n ≡ true → among n xs ≡ true → list_any p xs ≡ true
any_of p [] n passes h = absurd (cc)
any_of p (x ∷ xs) n passes h = elim (or_cases (nat_eq x n) (among n xs) h) [
  | inl same ↦ or_left (p x) (list_any p xs) (ap p (eqb-true x n same) ∙ passes)
  | inr there ↦ or_right (p x) (list_any p xs) (any_of p xs n passes there)
]

-- where none of a list pass a test, one that is in it doesn't
pub none_of : (p : ℕ → Bool) (xs : List ℕ) (n : ℕ) → list_any p xs ≡ false → p n ≡ true → among n xs ≡ true → ⊥
none_of p xs n none passes h = both_ways (list_any p xs) none (any_of p xs n passes h)

-- who is among the first list is among the first of two that has something
in_first : (n : ℕ) (xs ys : List ℕ) → among n xs ≡ true → among n (first_of_two xs ys) ≡ true
in_first n [] ys h = absurd (cc)
in_first n (x ∷ xs) ys h = h

-- who is among the first of two that has something is among the first, or the first is empty and it is among the second
from_first : (n : ℕ) (xs ys : List ℕ) → among n (first_of_two xs ys) ≡ true → (among n xs ≡ true) ⊎ ((xs ≡ []) × (among n ys ≡ true))
from_first n [] ys h = inr (refl, h)
from_first n (x ∷ xs) ys h = inl h

-- where the second list has something, the first of two that has something does
some_first : (xs ys : List ℕ) → HasSome ys → HasSome (first_of_two xs ys)
some_first [] ys h = h
some_first (x ∷ xs) ys h = (x, among_head x xs)

-- where nothing is left of a list by a test, none of it passes
none_pruned : (p : ℕ → Bool) (xs : List ℕ) → filter p xs ≡ [] → list_any p xs ≡ false
none_pruned p [] e = refl
none_pruned p (x ∷ xs) e =
    elim (p x) as (λ b. cond b (x ∷ filter p xs) (filter p xs) ≡ [] → (b || list_any p xs) ≡ false) [
      | true ↦ λ e. absurd (cc)
      | false ↦ λ e. none_pruned p xs e
    ] e

module _ (live : List ℕ) where
  -- whether a node lives
  abbrev lives : ℕ → Bool
  lives n = among n live

  -- a live owner stays one
  stays_mended : (s n : ℕ) (mine other : List ℕ) → lives n ≡ true → among n mine ≡ true → among n (mended live s mine other) ≡ true
  unfolding mended
  stays_mended s n mine other l h =
      in_first n (filter lives mine) (first_of_two (filter lives other) (stand_in live s)) (among-filter n lives mine ∙ and_from (lives n) (among n mine) l h)

  -- an owner was one, or none of them lives, and it was one of the others or none of these lives
  known_mended : (s n : ℕ) (mine other : List ℕ) → among n (mended live s mine other) ≡ true
      → (among n mine ≡ true) ⊎ ((list_any lives mine ≡ false) × ((among n other ≡ true) ⊎ (list_any lives other ≡ false)))
  unfolding mended
  known_mended s n mine other h = elim (from_first n (filter lives mine) (first_of_two (filter lives other) (stand_in live s)) h) [
    | inl own ↦ inl (and_parts (lives n) (among n mine) (sym (among-filter n lives mine) ∙ own)).1
    | inr rest ↦ inr (
      none_pruned lives mine rest.0,
      elim (from_first n (filter lives other) (stand_in live s) rest.1) [
        | inl of_other ↦ inl (and_parts (lives n) (among n other) (sym (among-filter n lives other) ∙ of_other)).1
        | inr stands ↦ inr (none_pruned lives other stands.0)
      ],
    )
  ]

  -- an owner lives
  lives_mended : (s n : ℕ) (mine other : List ℕ) → 0 < length live → among n (mended live s mine other) ≡ true → lives n ≡ true
  unfolding mended
  lives_mended s n mine other some h = elim (from_first n (filter lives mine) (first_of_two (filter lives other) (stand_in live s)) h) [
    | inl own ↦ (and_parts (lives n) (among n mine) (sym (among-filter n lives mine) ∙ own)).0
    | inr rest ↦ elim (from_first n (filter lives other) (stand_in live s) rest.1) [
      | inl of_other ↦ (and_parts (lives n) (among n other) (sym (among-filter n lives other) ∙ of_other)).0
      | inr stands ↦ elim (or_cases (nat_eq (get_or live (s % length live) 0) n) false stands.1) [
        | inl same ↦ ap lives (sym (eqb-true (get_or live (s % length live) 0) n same)) ∙ among_at live (s % length live) (mod-lt s some)
        | inr no_one ↦ absurd (cc)
      ]
    ]
  ]

  -- there is an owner
  some_mended : (s : ℕ) (mine other : List ℕ) → HasSome (mended live s mine other)
  unfolding mended
  some_mended s mine other = some_first (filter lives mine) (first_of_two (filter lives other) (stand_in live s)) (some_first (filter lives other) (stand_in live s) (get_or live (s % length live) 0, among_head (get_or live (s % length live) 0) []))

-- a tabulated hash has for each segment what the function gives it
pub owners_at-tabulated : (segments : ℕ) (f : ℕ → List ℕ) (s : ℕ) → s < segments → owners_at (tabulated segments f) s ≡ f s
owners_at-tabulated segments f s h = get_or-map-range_with_len f 0 segments s s [] h (omega arith)

-- one more segment
pub tabulated_more : (f : ℕ → List ℕ) (n : ℕ) → tabulated (n + 1) f ≡ tabulated n f ++ f n ∷ []
tabulated_more f n = map-range_with_len_more f 0 n n (omega arith)

-- a hash of the segments so far, with the next one pushed
pub pushed_more : (f : ℕ → List ℕ) (n : ℕ) (hash next : Hash) (row : List ℕ) → hash ≡ tabulated n f → next ≡ hash ++ row ∷ [] → row ≡ f n → next ≡ tabulated (n + 1) f
pushed_more f n hash next row so_far pushed is = pushed ∙ (λ i. so_far i ++ is i ∷ []) ∙ sym (tabulated_more f n)

-- a tabulated hash has so many segments
pub length-tabulated : (segments : ℕ) (f : ℕ → List ℕ) → length (tabulated segments f) ≡ segments
length-tabulated segments f = length-map-range_with_len f 0 segments

-- a segment with an owner is there
pub owned_within : (hash : Hash) (s n : ℕ) → among n (owners_at hash s) ≡ true → s < length hash
owned_within hash s n h = elim (cases_lt s (length hash)) [
  | inl within ↦ within
  | inr past ↦ absurd (both_ways (among n (owners_at hash s)) (ap (among n) (get_or_past hash s [] past)) h)
]

module _ (live : List ℕ) (mine other : Hash) where
  -- a segment with an owner in the mended hash is one of the hash
  mended_within : (s n : ℕ) → among n (owners_at (mended_hash live mine other) s) ≡ true → s < length mine
  mended_within s n h = omega (arith, owned_within (mended_hash live mine other) s n h, length-tabulated (length mine) (λ s. mended live s (owners_at mine s) (owners_at other s)))

  -- the owners of a segment in the mended hash are the mended ones
  mended_at : (s : ℕ) → s < length mine → owners_at (mended_hash live mine other) s ≡ mended live s (owners_at mine s) (owners_at other s)
  mended_at s h = owners_at-tabulated (length mine) (λ s. mended live s (owners_at mine s) (owners_at other s)) s h

  -- a live owner stays one
  pub mended_stays : (n s : ℕ) → among n live ≡ true → among n (owners_at mine s) ≡ true → among n (owners_at (mended_hash live mine other) s) ≡ true
  mended_stays n s l h =
      ap (among n) (mended_at s (owned_within mine s n h)) ∙ stays_mended live s n (owners_at mine s) (owners_at other s) l h

  -- an owner was one, or none of them lives, and it was one of the others or none of these lives
  pub mended_known : (n s : ℕ) → among n (owners_at (mended_hash live mine other) s) ≡ true
      → (among n (owners_at mine s) ≡ true) ⊎ ((list_any (λ m. among m live) (owners_at mine s) ≡ false) × ((among n (owners_at other s) ≡ true) ⊎ (list_any (λ m. among m live) (owners_at other s) ≡ false)))
  mended_known n s h = known_mended live s n (owners_at mine s) (owners_at other s) (ap (among n) (sym (mended_at s (mended_within s n h))) ∙ h)

  -- an owner lives
  pub mended_lives : (n s : ℕ) → 0 < length live → among n (owners_at (mended_hash live mine other) s) ≡ true → among n live ≡ true
  mended_lives n s some h = lives_mended live s n (owners_at mine s) (owners_at other s) some (ap (among n) (sym (mended_at s (mended_within s n h))) ∙ h)

  -- each segment has an owner
  pub mended_some : (s : ℕ) → s < length mine → HasSome (owners_at (mended_hash live mine other) s)
  mended_some s h = let one = some_mended live s (owners_at mine s) (owners_at other s) in (one.0, ap (among one.0) (mended_at s h) ∙ one.1)
