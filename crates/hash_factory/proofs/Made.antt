-- That hashes are made as their formulas say.
use Rattle.std.proofs.Common.{◌≡◌, ◌≢◌, ℕ, suc, zero, ◌+◌, ◌-◌, ◌*◌, ◌/◌, ◌%◌, ◌<◌, ◌≤◌, Bool, true, false, not, ◌&&◌, cond, List, [], ◌∷◌, map, length, get_or, min, nat_eq, ◌==◌, arith, refl, sym, ap, ◌∙◌, inl, inr}
use Rattle.std.proofs.lemmas.Bool.{ne_eqb, cases_lt, cases_order, and_from, or_from}
use Rattle.std.proofs.lemmas.List.{get_or_past}
use Rattle.std.proofs.lemmas.List.Folds.{list_any_none}
use Rattle.std.proofs.lemmas.List.Elements.{All-from_get_or}
use Rattle.std.proofs.lemmas.List.FromFn.{length-map-range_with_len, get_or-map-range_with_len}
use Rattle.std.proofs.lemmas.Map.Keys.{apart_from_distinct}
use Rattle.std.proofs.Math.Nat.{mod-lt, div-add-mod, mul-le-mul_left}
use Rattle.std.specs.List.{AllByRecursion, IsDistinct, filter, range_with_len, list_all}
use Rattle.std.specs.Cmp.{nat_eq_equiv}
use Rattle.std.specs.FinSet as sets
use Rattle.grid_base.specs.Nodes.{Nodes}
use Rattle.topology_phase.specs.Owners.{joined, owners_at, among, members, is_ownerless}
use Rattle.topology_phase.specs.Following.{is_owned_by}
use Rattle.topology_phase.proofs.OwnerLists.{joined_short}
use Rattle.topology_phase.proofs.Mending.{length-tabulated, owners_at-tabulated, among_at}
use Rattle.hash_factory.specs.Formulas.{created, created_owners}

-- numbers from a on that pass a test differ from a number below a
none_below : (p : ℕ → Bool) (a n b : ℕ) → b < a → AllByRecursion (λ m. nat_eq b m ≡ false) (filter p (range_with_len a n))
none_below p a zero b h = tt
none_below p a (suc n) b h =
    elim (p a) as (λ t. AllByRecursion (λ m. nat_eq b m ≡ false) (cond t (a ∷ filter p (range_with_len (a + 1) n)) (filter p (range_with_len (a + 1) n)))) [
      | true ↦ (ne_eqb b a (omega arith), none_below p (a + 1) n b (omega arith))
      | false ↦ none_below p (a + 1) n b (omega arith)
    ]

-- no two numbers of a range, or of a part of it, are equal
distinct_range : (p : ℕ → Bool) (a n : ℕ) → IsDistinct nat_eq (filter p (range_with_len a n))
unfolding IsDistinct
distinct_range p a zero = tt
distinct_range p a (suc n) =
    elim (p a) as (λ t. IsDistinct nat_eq (cond t (a ∷ filter p (range_with_len (a + 1) n)) (filter p (range_with_len (a + 1) n)))) [
      | true ↦ (none_below p (a + 1) n a (omega arith), distinct_range p (a + 1) n)
      | false ↦ distinct_range p (a + 1) n
    ]

-- no two members of a set are alike
pub members_distinct : (nodes : Nodes) → IsDistinct nat_eq (members nodes)
unfolding members
members_distinct nodes = distinct_range (sets.contains nodes) 0 16

-- places that are less than a round apart differ, counted round
places_differ : (n a d : ℕ) → 0 < d → d < n → (a + d) % n ≢ a % n
places_differ n a d some below same = elim (cases_order (a / n) ((a + d) / n)) [
  | inl level ↦ omega (arith, div-add-mod a n, div-add-mod (a + d) n, same, ap (λ q. n * q) level)
  | inr apart ↦ elim apart [
    | inl less ↦ omega (arith, div-add-mod a n, div-add-mod (a + d) n, same, mul-le-mul_left n less)
    | inr more ↦ (let le : (a + d) / n ≤ a / n = omega (arith, more) in omega (arith, div-add-mod a n, div-add-mod (a + d) n, same, mul-le-mul_left n le))
  ]
]

-- where no two of a list are alike, those at two places differ
members_apart : (xs : List ℕ) (i j : ℕ) → IsDistinct nat_eq xs → i ≢ j → i < length xs → j < length xs → nat_eq (get_or xs i 0) (get_or xs j 0) ≡ false
members_apart xs i j distinct differ within_i within_j = elim (cases_order i j) [
  | inl same ↦ absurd (differ same)
  | inr apart ↦ elim apart [
    | inl less ↦ apart_from_distinct nat_eq xs i j 0 distinct less within_j
    | inr more ↦ nat_eq_equiv.symm (get_or xs i 0) (get_or xs j 0) ∙ apart_from_distinct nat_eq xs j i 0 distinct more within_i
  ]
]

-- the owner at a place isn't among those before it
pub absent_owner : (xs : List ℕ) (s place : ℕ) → IsDistinct nat_eq xs → 0 < length xs → place < length xs
    → among (get_or xs ((s + place) % length xs) 0) (map (λ j. get_or xs ((s + j) % length xs) 0) (range_with_len 0 place)) ≡ false
absent_owner xs s place distinct some within =
    let f = λ (j : ℕ). get_or xs ((s + j) % length xs) 0 in
    let long = length-map-range_with_len f 0 place in
    list_any_none (λ m. m == f place) (map f (range_with_len 0 place))
    (All-from_get_or (λ m. (m == f place) ≡ false) (map f (range_with_len 0 place)) 0 (λ i h.
    let below : i < place = omega (arith, long) in
    let differ : (s + i) % length xs ≢ (s + place) % length xs = λ e.
    places_differ (length xs) (s + i) (place - i) (omega arith) (omega arith) (ap (λ k. k % length xs) (further s i place below) ∙ sym e) in
    ap (λ m. m == f place) (get_or-map-range_with_len f 0 place i i 0 below (omega arith))
    ∙ members_apart xs ((s + i) % length xs) ((s + place) % length xs) distinct differ (mod-lt (s + i) some) (mod-lt (s + place) some)))
  where
    further : (s i place : ℕ) → i < place → (s + i) + (place - i) ≡ s + place
    further s i place h = omega arith

-- ---- what the layers above know of a made hash

-- where each of the numbers passes, the whole row does
all_of_range : (p : List ℕ → Bool) (f : ℕ → List ℕ) (a n : ℕ) → ((s : ℕ) → p (f s) ≡ true) → list_all p (map f (range_with_len a n)) ≡ true
all_of_range p f a zero each = refl
all_of_range p f a (suc n) each = and_from (p (f a)) (list_all p (map f (range_with_len (a + 1) n))) (each a) (all_of_range p f (a + 1) n each)

-- where each number passes, all made of a range pass
all_numbers : (p : ℕ → Bool) (f : ℕ → ℕ) (a n : ℕ) → ((s : ℕ) → p (f s) ≡ true) → list_all p (map f (range_with_len a n)) ≡ true
all_numbers p f a zero each = refl
all_numbers p f a (suc n) each = and_from (p (f a)) (list_all p (map f (range_with_len (a + 1) n))) (each a) (all_numbers p f (a + 1) n each)

-- a range that isn't empty makes owners
owner_of_some : (f : ℕ → ℕ) (n : ℕ) → 0 < n → not (is_ownerless (map f (range_with_len 0 n))) ≡ true
owner_of_some f zero h = absurd (omega arith)
owner_of_some f (suc n) h = refl

-- a created hash has so many segments
pub length-created : (live : List ℕ) (segments owners : ℕ) → length (created live segments owners) ≡ segments
unfolding created
length-created live segments owners = length-tabulated segments (λ s. created_owners live s owners)

-- in a created hash no segment has more owners than were asked for
pub few_created : (live : List ℕ) (segments owners s : ℕ) → length (owners_at (created live segments owners) s) ≤ owners
unfolding created
few_created live segments owners s = elim (cases_lt s segments) [
  | inl within ↦ omega (arith, ap length (owners_at-tabulated segments (λ k. created_owners live k owners) s within), length-map-range_with_len (λ j. get_or live ((s + j) % length live) 0) 0 (min owners (length live)))
  | inr past ↦ omega (arith, ap length (get_or_past (created live segments owners) s [] (omega (arith, past, length-tabulated segments (λ k. created_owners live k owners)))))
]

-- in a created hash each segment has an owner, and each owner is a member
pub owned_created : (live : List ℕ) (segments owners : ℕ) → 0 < length live → 0 < owners → is_owned_by live (created live segments owners) ≡ true
unfolding created
owned_created live segments owners some one =
    all_of_range (λ row. not (is_ownerless row) && list_all (λ n. among n live) row) (λ s. created_owners live s owners) 0 segments (λ s.
    and_from (not (is_ownerless (created_owners live s owners))) (list_all (λ n. among n live) (created_owners live s owners))
    (owner_of_some (λ j. get_or live ((s + j) % length live) 0) (min owners (length live)) (omega arith))
    (all_numbers (λ n. among n live) (λ j. get_or live ((s + j) % length live) 0) 0 (min owners (length live)) (λ j. among_at live ((s + j) % length live) (mod-lt (s + j) some))))

-- two hashes of one segment with few owners have few in their union
pub union_short : (x y : List ℕ) → length x ≤ 4 → length y ≤ 4 → (s : ℕ) → length (joined (owners_at (x ∷ []) s) (owners_at (y ∷ []) s)) ≤ 8
union_short x y few few_more zero = omega (arith, joined_short x y)
union_short x y few few_more (suc s) = let none : List ℕ = [] in omega (arith, joined_short none none)

-- no member of a set is above 15
pub members_low : (nodes : Nodes) (n : ℕ) → 16 ≤ n → among n (members nodes) ≡ false
unfolding members
members_low nodes n h = low (sets.contains nodes) 0 16 h
  where
    low : (p : ℕ → Bool) (a k : ℕ) → a + k ≤ n → among n (filter p (range_with_len a k)) ≡ false
    low p a zero h = refl
    low p a (suc k) h = elim (p a) as (λ b. among n (cond b (a ∷ filter p (range_with_len (a + 1) k)) (filter p (range_with_len (a + 1) k))) ≡ false) [
      | true ↦ or_from (a == n) (among n (filter p (range_with_len (a + 1) k))) (ne_eqb a n (omega arith)) (low p (a + 1) k (omega arith))
      | false ↦ low p (a + 1) k (omega arith)
    ]
