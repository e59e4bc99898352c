-- That the rebalance that moves least is balanced, and moves as few primaries as any balanced hash.
use Rattle.std.proofs.Common.{◌≡◌, ℕ, suc, zero, ◌+◌, ◌-◌, ◌*◌, ◌/◌, ◌<◌, ◌≤◌, Bool, true, false, not, ◌&&◌, ◌||◌, cond, List, [], ◌∷◌, ◌++◌, length, take, min, nat_eq, ◌==◌, arith, refl, sym, ap, ◌∙◌, inl, inr}
use Rattle.std.proofs.lemmas.Bool.{cases_lt, cases_Bool, eq-eqb, ne_eqb, ltb-true, ltb-false, lt-ltb, le-ltb, le-leb, lt-leb, and_from, or_left, or_right, or_from, or_parts, both_ways}
use Rattle.std.proofs.lemmas.List.Folds.{list_any-append}
use Rattle.std.proofs.lemmas.List.Filters.{length-filter_both}
use Rattle.std.proofs.lemmas.List.Sums.{sum_by-cons, length-filter}
use Rattle.std.proofs.Math.Nat.{div-add-mod, mod-lt, mul_comm}
use Rattle.std.specs.List.{sum_by, count_by, filter, fold, list_all, AllByRecursion, IsDistinct}
use Rattle.std.specs.Prelude.{nat_lt}
use Rattle.topology_phase.specs.Owners.{Hash, among}
use Rattle.hash_factory.specs.Least.{leads, load, moved, is_led_by, is_balanced, even_share, left_over, is_heavy, is_light, favoured, target, shortage, most_kept, from_next, extended, owners_led_by, least, NoneMovesFewer}
use Rattle.hash_factory.proofs.Moves.{one, stayed, stayed_and_moved, sum_by-alike, sum_by-plus, sum_by-same, each_of, each_then, few_stay, many_move, at_most_one}
use Rattle.hash_factory.proofs.Seats.{Heads, AtLive, kept_rows, of_members, load_seated, length-seated, led_seated, kept_stay, kept_by_each}

-- among the first passing nodes of a list are so many of it, at most as many as pass
first_passing : (p : ℕ → Bool) (k : ℕ) (xs : List ℕ) → IsDistinct nat_eq xs → sum_by (λ n. one (among n (take k (filter p xs)))) xs ≡ min k (count_by p xs)
unfolding IsDistinct
first_passing p k [] d = omega arith
first_passing p zero (x ∷ xs) d = sum_by-alike (λ n. one (among n (take zero (filter p (x ∷ xs))))) (λ n. 0) (x ∷ xs) (each_of (λ n. one (among n (take zero (filter p (x ∷ xs)))) ≡ 0) (x ∷ xs) (λ n. refl)) ∙ sum_by-same 0 (x ∷ xs) ∙ (let e : suc (length xs) * 0 ≡ min 0 (count_by p (x ∷ xs)) = omega arith in e)
first_passing p (suc k) (x ∷ xs) d =
    let count = sum_by-cons (λ n. one (p n)) x xs in
    elim (p x) as (λ b. b ≡ p x → sum_by (λ n. one (among n (take (suc k) (cond b (x ∷ filter p xs) (filter p xs))))) (x ∷ xs) ≡ min (suc k) (count_by p (x ∷ xs))) [
      | true ↦ λ e.
          let f = λ (n : ℕ). one (among n (x ∷ take k (filter p xs))) in
          let rest = sum_by-alike f (λ n. one (among n (take k (filter p xs)))) xs
          (each_then (λ n. nat_eq x n ≡ false) (λ n. f n ≡ one (among n (take k (filter p xs)))) xs d.0 (λ n h. ap (λ b. one (b || among n (take k (filter p xs)))) h)) in
          omega (arith, count, ap one e, sum_by-cons f x xs, ap one (or_left (x == x) (among x (take k (filter p xs))) (eq-eqb x x refl)), rest, first_passing p k xs d.1)
      | false ↦ λ e.
          let f = λ (n : ℕ). one (among n (take (suc k) (filter p xs))) in
          omega (arith, count, ap one e, sum_by-cons f x xs, ap one (out (suc k) (filter p xs) (gone xs d.0)), first_passing p (suc k) xs d.1)
    ] refl
  where
    gone : (ys : List ℕ) → AllByRecursion (λ y. nat_eq x y ≡ false) ys → among x (filter p ys) ≡ false
    gone [] h = refl
    gone (y ∷ ys) h = elim (p y) as (λ b. among x (cond b (y ∷ filter p ys) (filter p ys)) ≡ false) [
      | true ↦ or_from (y == x) (among x (filter p ys)) (ne_eqb y x (λ e. both_ways (x == y) h.0 (eq-eqb x y (sym e)))) (gone ys h.1)
      | false ↦ gone ys h.1
    ]

    out : (k : ℕ) (ys : List ℕ) → among x ys ≡ false → among x (take k ys) ≡ false
    out zero ys h = refl
    out (suc k) [] h = refl
    out (suc k) (y ∷ ys) h = let parts = or_parts (y == x) (among x ys) h in or_from (y == x) (among x (take k ys)) parts.0 (out k ys parts.1)

-- who is among the first that pass passes
passes : (p : ℕ → Bool) (k n : ℕ) (xs : List ℕ) → p n ≡ false → among n (take k (filter p xs)) ≡ false
passes p k n xs h = go k xs
  where
    go : (k : ℕ) (xs : List ℕ) → among n (take k (filter p xs)) ≡ false
    go zero xs = refl
    go (suc k) [] = refl
    go (suc k) (x ∷ xs) = elim (p x) as (λ b. b ≡ p x → among n (take (suc k) (cond b (x ∷ filter p xs) (filter p xs))) ≡ false) [
      | true ↦ λ e. or_from (x == n) (among n (take k (filter p xs))) (ne_eqb x n (λ same. both_ways (p n) h (ap p (sym same) ∙ sym e))) (go k xs)
      | false ↦ λ e. go (suc k) xs
    ] refl

-- the first of two lists, taken one behind the other
take-both : (k : ℕ) (xs ys : List ℕ) → take k (xs ++ ys) ≡ take k xs ++ take (k - length xs) ys
take-both zero xs ys = ap (λ n. take n ys) (let e : 0 ≡ 0 - length xs = omega arith in e)
take-both (suc k) [] ys = ap (λ n. take n ys) (let e : suc k ≡ suc k - 0 = omega arith in e)
take-both (suc k) (x ∷ xs) ys = ap (λ zs. x ∷ zs) (take-both k xs ys) ∙ ap (λ n. x ∷ (take k xs ++ take n ys)) (let e : k - length xs ≡ suc k - suc (length xs) = omega arith in e)

-- a node is light exactly where it isn't heavy
light_or_heavy : (live : List ℕ) (hash : Hash) (n : ℕ) → is_light live hash n ≡ not (is_heavy live hash n)
light_or_heavy live hash n = elim (cases_lt (even_share live hash) (load hash n)) [
  | inl more ↦ lt-leb (load hash n) (even_share live hash) more ∙ ap not (sym (lt-ltb (even_share live hash) (load hash n) more))
  | inr no_more ↦ le-leb (load hash n) (even_share live hash) no_more ∙ ap not (sym (le-ltb (even_share live hash) (load hash n) no_more))
]

-- the first heavy nodes that are favoured, and the light ones
heavy_favoured : List ℕ → Hash → ℕ → Bool
heavy_favoured live hash n = among n (take (left_over live hash) (filter (is_heavy live hash) live))

-- a light node is favoured, after the heavy ones
light_favoured : List ℕ → Hash → ℕ → Bool
light_favoured live hash n = among n (take (left_over live hash - length (filter (is_heavy live hash) live)) (filter (is_light live hash) live))

-- a favoured node is a heavy or a light one
either_favoured : (live : List ℕ) (hash : Hash) (n : ℕ) → among n (favoured live hash) ≡ (heavy_favoured live hash n || light_favoured live hash n)
unfolding heavy_favoured light_favoured
either_favoured live hash n =
    ap (among n) (take-both (left_over live hash) (filter (is_heavy live hash) live) (filter (is_light live hash) live))
    ∙ list_any-append (λ m. m == n) (take (left_over live hash) (filter (is_heavy live hash) live)) (take (left_over live hash - length (filter (is_heavy live hash) live)) (filter (is_light live hash) live))

-- a heavy node isn't favoured as a light one
not_light : (live : List ℕ) (hash : Hash) (n : ℕ) → is_heavy live hash n ≡ true → light_favoured live hash n ≡ false
unfolding light_favoured
not_light live hash n h = passes (is_light live hash) (left_over live hash - length (filter (is_heavy live hash) live)) n live (light_or_heavy live hash n ∙ ap not h)

-- a light node isn't favoured as a heavy one
not_heavy : (live : List ℕ) (hash : Hash) (n : ℕ) → is_heavy live hash n ≡ false → heavy_favoured live hash n ≡ false
unfolding heavy_favoured
not_heavy live hash n h = passes (is_heavy live hash) (left_over live hash) n live h

-- a favoured node is counted as a heavy or as a light one, and not as both
one_favoured : (live : List ℕ) (hash : Hash) (n : ℕ) → one (among n (favoured live hash)) ≡ one (heavy_favoured live hash n) + one (light_favoured live hash n)
one_favoured live hash n = elim (cases_Bool (is_heavy live hash n)) [
  | inl heavy ↦
      let none = not_light live hash n heavy in
      ap one (either_favoured live hash n) ∙ ap (λ b. one (heavy_favoured live hash n || b)) none ∙ right (heavy_favoured live hash n) ∙ ap (λ b. one (heavy_favoured live hash n) + one b) (sym none)
  | inr light ↦
      let none = not_heavy live hash n light in
      omega (arith, ap one (either_favoured live hash n), ap (λ b. one (b || light_favoured live hash n)) none, ap one none)
]
  where
    right : (b : Bool) → one (b || false) ≡ one b + 0
    right b = elim b as (λ b. one (b || false) ≡ one b + 0) [ true ↦ omega arith | false ↦ omega arith ]

-- among the live nodes as many are favoured as are left over
favoured_in_all : (live : List ℕ) (hash : Hash) → IsDistinct nat_eq live → 0 < length live → sum_by (λ n. one (among n (favoured live hash))) live ≡ left_over live hash
unfolding heavy_favoured light_favoured
favoured_in_all live hash d some =
    let r = left_over live hash in
    let heavy = is_heavy live hash in
    let light = is_light live hash in
    let split = sum_by-alike (λ n. one (among n (favoured live hash))) (λ n. one (heavy_favoured live hash n) + one (light_favoured live hash n)) live
    (each_of (λ n. one (among n (favoured live hash)) ≡ one (heavy_favoured live hash n) + one (light_favoured live hash n)) live (one_favoured live hash)) in
    omega (
      arith,
      split,
      sum_by-plus (λ n. one (heavy_favoured live hash n)) (λ n. one (light_favoured live hash n)) live,
      first_passing heavy r live d,
      first_passing light (r - length (filter heavy live)) live d,
      length-filter heavy live,
      length-filter light live,
      length-filter_both heavy light (light_or_heavy live hash) live,
      mod-lt (length hash) some,
    )

-- a live node is to lead the even share, and one more where it is favoured
pub target_of_live : (live : List ℕ) (hash : Hash) (n : ℕ) → among n live ≡ true → target live hash n ≡ even_share live hash + one (among n (favoured live hash))
unfolding target
target_of_live live hash n inside = ap (λ b. cond b (even_share live hash + one (among n (favoured live hash))) 0) inside

-- a node that isn't live is to lead nothing
pub target_at_live : (live : List ℕ) (hash : Hash) → AtLive live (target live hash)
unfolding target
target_at_live live hash n out = ap (λ b. cond b (even_share live hash + one (among n (favoured live hash))) 0) out

-- the targets add up to the segments
targets_in_all : (live : List ℕ) (hash : Hash) → IsDistinct nat_eq live → 0 < length live → sum_by (target live hash) live ≡ length hash
targets_in_all live hash d some =
    let q = even_share live hash in
    let alike = sum_by-alike (target live hash) (λ n. q + one (among n (favoured live hash))) live
    (of_members (λ n. target live hash n ≡ q + one (among n (favoured live hash))) live (target_of_live live hash)) in
    omega (
      arith,
      alike,
      sum_by-plus (λ n. q) (λ n. one (among n (favoured live hash))) live,
      sum_by-same q live,
      favoured_in_all live hash d some,
      div-add-mod (length hash) (length live),
      mul_comm (length live) q,
    )

-- what a live node keeps: up to the even share, and one more where it is favoured among the heavy ones
kept_of_live : (live : List ℕ) (hash : Hash) (n : ℕ) → among n live ≡ true → min (load hash n) (target live hash n) ≡ min (load hash n) (even_share live hash) + one (heavy_favoured live hash n)
kept_of_live live hash n inside = elim (cases_Bool (is_heavy live hash n)) [
  | inl heavy ↦ omega (arith, target_of_live live hash n inside, one_favoured live hash n, ap one (not_light live hash n heavy), ltb-true (even_share live hash) (load hash n) heavy, at_most_one (heavy_favoured live hash n))
  | inr light ↦ omega (arith, target_of_live live hash n inside, ap one (not_heavy live hash n light), ltb-false (even_share live hash) (load hash n) light)
]

-- as many segments keep their primary as can be kept
pub most_are_kept : (live : List ℕ) (hash : Hash) → IsDistinct nat_eq live → sum_by (λ n. min (load hash n) (target live hash n)) live ≡ most_kept live hash
unfolding heavy_favoured
most_are_kept live hash d =
    let alike = sum_by-alike (λ n. min (load hash n) (target live hash n)) (λ n. min (load hash n) (even_share live hash) + one (heavy_favoured live hash n)) live
    (of_members (λ n. min (load hash n) (target live hash n) ≡ min (load hash n) (even_share live hash) + one (heavy_favoured live hash n)) live (kept_of_live live hash)) in
    omega (arith, alike, sum_by-plus (λ n. min (load hash n) (even_share live hash)) (λ n. one (heavy_favoured live hash n)) live, first_passing (is_heavy live hash) (left_over live hash) live d)

-- the nodes are short of as many segments as don't keep their primary
pub shortage_in_all : (live : List ℕ) (hash : Hash) → IsDistinct nat_eq live → 0 < length live → sum_by (shortage live hash) live + kept_rows (target live hash) hash ≡ length hash
shortage_in_all live hash d some =
    let alike = sum_by-alike (λ n. shortage live hash n + min (load hash n) (target live hash n)) (target live hash) live
    (each_of (λ n. shortage live hash n + min (load hash n) (target live hash n) ≡ target live hash n) live (λ n. omega arith)) in
    omega (arith, alike, sum_by-plus (shortage live hash) (λ n. min (load hash n) (target live hash n)) live, targets_in_all live hash d some, kept_by_each live (target live hash) hash d (target_at_live live hash))

-- owners that are extended keep their first
first_stays : (most m n : ℕ) (rest ys : List ℕ) → leads m (fold (extended most) (n ∷ rest) ys) ≡ (n == m)
first_stays most m n rest [] = refl
first_stays most m n rest (y ∷ ys) = elim (nat_lt (length (n ∷ rest)) most && not (among y (n ∷ rest))) as (λ b. leads m (fold (extended most) (cond b (n ∷ rest ++ y ∷ []) (n ∷ rest)) ys) ≡ (n == m)) [
  | true ↦ first_stays most m n (rest ++ y ∷ []) ys
  | false ↦ first_stays most m n rest ys
]

-- made owners have the node that is to lead them as their first
pub heads_of : (live : List ℕ) (most : ℕ) → Heads (owners_led_by live most)
unfolding owners_led_by
heads_of live most n owners m = first_stays most m n [] (owners ++ from_next live n)

-- the hash that moves least has as many segments
pub length-least : (live : List ℕ) (owners : ℕ) (hash : Hash) → length (least live owners hash) ≡ length hash
unfolding least
length-least live owners hash = length-seated live (owners_led_by live (min owners (length live))) (target live hash) (shortage live hash) hash

-- each live node leads as many segments as it is to
pub load_least : (live : List ℕ) (owners : ℕ) (hash : Hash) → IsDistinct nat_eq live → 0 < length live → 0 < owners → (n : ℕ) → among n live ≡ true → load (least live owners hash) n ≡ target live hash n
unfolding least
load_least live owners hash d some one_at_least n inside =
    omega (
      arith,
      load_seated live (owners_led_by live (min owners (length live))) (target live hash) (shortage live hash) hash (heads_of live (min owners (length live))) d
          (shortage_in_all live hash d some) n inside,
    )

-- the hash that moves least is balanced
pub balanced_least : (live : List ℕ) (owners : ℕ) (hash : Hash) → IsDistinct nat_eq live → 0 < length live → 0 < owners → is_balanced live (least live owners hash) ≡ true
unfolding least
balanced_least live owners hash d some one_at_least =
    let p = least live owners hash in
    let q = even_share live hash in
    and_from (list_all (is_led_by live) p) (list_all (λ n. (load p n == even_share live p) || (load p n == even_share live p + 1)) live)
    (led_seated live (owners_led_by live (min owners (length live))) (target live hash) (shortage live hash) hash (heads_of live (min owners (length live))) d (target_at_live live hash) (shortage_in_all live hash d some))
    (each_all (λ n. (load p n == even_share live p) || (load p n == even_share live p + 1)) live (of_members (λ n. ((load p n == even_share live p) || (load p n == even_share live p + 1)) ≡ true) live (λ n inside.
    let share : even_share live p ≡ q = ap (λ k. k / length live) (length-least live owners hash) in
    let now = load_least live owners hash d some one_at_least n inside ∙ target_of_live live hash n inside in
    elim (among n (favoured live hash)) as (λ b. load p n ≡ q + one b → ((load p n == even_share live p) || (load p n == even_share live p + 1)) ≡ true) [
      | true ↦ λ e. or_right (load p n == even_share live p) (load p n == even_share live p + 1) (eq-eqb (load p n) (even_share live p + 1) (omega (arith, e, share)))
      | false ↦ λ e. or_left (load p n == even_share live p) (load p n == even_share live p + 1) (eq-eqb (load p n) (even_share live p) (omega (arith, e, share)))
    ] now)))
  where
    each_all : (p : ℕ → Bool) (xs : List ℕ) → AllByRecursion (λ x. p x ≡ true) xs → list_all p xs ≡ true
    each_all p [] h = refl
    each_all p (x ∷ xs) h = and_from (p x) (list_all p xs) h.0 (each_all p xs h.1)

-- it keeps all that can be kept
pub least_stays : (live : List ℕ) (owners : ℕ) (hash : Hash) → IsDistinct nat_eq live → 0 < length live → 0 < owners → most_kept live hash ≤ stayed hash (least live owners hash)
unfolding least
least_stays live owners hash d some one_at_least =
    omega (
      arith,
      kept_stay live (owners_led_by live (min owners (length live))) (target live hash) (shortage live hash) hash (heads_of live (min owners (length live))),
      kept_by_each live (target live hash) hash d (target_at_live live hash),
      most_are_kept live hash d,
    )

-- so many segments move
pub moved_least : (live : List ℕ) (owners : ℕ) (hash : Hash) → IsDistinct nat_eq live → 0 < length live → 0 < owners → moved hash (least live owners hash) ≡ length hash - most_kept live hash
moved_least live owners hash d some one_at_least =
    omega (
      arith,
      least_stays live owners hash d some one_at_least,
      stayed_and_moved hash (least live owners hash) (sym (length-least live owners hash)),
      few_stay live hash (least live owners hash) d some (sym (length-least live owners hash)) (balanced_least live owners hash d some one_at_least),
    )

-- and every balanced hash moves at least as many
pub least_is_least : (live : List ℕ) (owners : ℕ) (hash others : Hash) → IsDistinct nat_eq live → 0 < length live → 0 < owners → length hash ≡ length others → is_balanced live others ≡ true
    → moved hash (least live owners hash) ≤ moved hash others
least_is_least live owners hash others d some one_at_least long balanced =
    omega (arith, moved_least live owners hash d some one_at_least, many_move live hash others d some long balanced)

-- a balanced hash that moves all but what can be kept moves as few as any
pub shown_least : (live : List ℕ) (hash after : Hash) (moves : ℕ) → IsDistinct nat_eq live → 0 < length live → length after ≡ length hash → moves ≡ length hash - most_kept live hash
    → NoneMovesFewer live hash moves
shown_least live hash after moves d some long kept other long_too balanced = omega (arith, kept, many_move live hash other d some (sym long_too) balanced)

-- no more can be kept than there are segments
pub most_kept_within : (live : List ℕ) (owners : ℕ) (hash : Hash) → IsDistinct nat_eq live → 0 < length live → 0 < owners → most_kept live hash ≤ length hash
most_kept_within live owners hash d some one_at_least =
    omega (arith, least_stays live owners hash d some one_at_least, stayed_and_moved hash (least live owners hash) (sym (length-least live owners hash)))
