-- That no balanced hash keeps more primaries than can be kept.
use Rattle.std.proofs.Common.{◌≡◌, ℕ, suc, ◌+◌, ◌-◌, ◌*◌, ◌/◌, ◌%◌, ◌<◌, ◌≤◌, Bool, true, false, ◌&&◌, ◌||◌, cond, List, [], ◌∷◌, length, min, nat_eq, ◌==◌, arith, refl, sym, ap, subst, ◌∙◌, inl, inr}
use Rattle.std.proofs.lemmas.Bool.{cases_lt, cases_eq, eqb-true, eq-eqb, ne_eqb, lt-ltb, le-ltb, and_parts, and_from, or_from, or_left, or_cases}
use Rattle.std.proofs.Math.Nat.{div-add-mod, mul_comm}
use Rattle.std.specs.Cmp.{nat_eq_equiv}
use Rattle.std.proofs.lemmas.List.Sums.{sum_by-cons}
use Rattle.std.specs.List.{sum_by, list_all, list_any, AllByRecursion, IsDistinct}
use Rattle.std.specs.Prelude.{nat_lt}
use Rattle.topology_phase.specs.Owners.{Hash, among}
use Rattle.hash_factory.specs.Least.{leads, load, moved, same_primary, is_led_by, is_balanced, even_share, left_over, most_kept}

-- 1 where a test passes
abbrev pub one : Bool → ℕ
one b = cond b 1 0

-- how many segments have the same primary
abbrev pub stayed : Hash → Hash → ℕ
stayed [] others = 0
stayed (owners ∷ hash) [] = 0
stayed (owners ∷ hash) (other ∷ others) = one (same_primary owners other) + stayed hash others

-- how many segments a node leads by both
abbrev pub both : ℕ → Hash → Hash → ℕ
both n [] others = 0
both n (owners ∷ hash) [] = 0
both n (owners ∷ hash) (other ∷ others) = one (leads n owners && leads n other) + both n hash others

-- the load of a node with one segment more
pub load-cons : (owners : List ℕ) (hash : Hash) (n : ℕ) → load (owners ∷ hash) n ≡ one (leads n owners) + load hash n
load-cons owners hash n = sum_by-cons (λ row. one (leads n row)) owners hash

-- a segment has moved or stayed
pub stayed_and_moved : (hash others : Hash) → length hash ≡ length others → moved hash others + stayed hash others ≡ length hash
stayed_and_moved [] others h = refl
stayed_and_moved (owners ∷ hash) [] h = absurd (omega arith)
stayed_and_moved (owners ∷ hash) (other ∷ others) h =
    let more : moved hash others + stayed hash others ≡ length hash = stayed_and_moved hash others (omega arith) in
    elim (same_primary owners other) as (λ b. (cond b 0 1 + moved hash others) + (one b + stayed hash others) ≡ suc (length hash)) [
      | true ↦ omega arith
      | false ↦ omega arith
    ]

-- two tests count at most as the first does
one_and_left : (a b : Bool) → one (a && b) ≤ one a
one_and_left a b = elim a as (λ a. one (a && b) ≤ one a) [ true ↦ elim b as (λ b. one b ≤ 1) [ true ↦ omega arith | false ↦ omega arith ] | false ↦ omega arith ]

-- and at most as the second does
one_and_right : (a b : Bool) → one (a && b) ≤ one b
one_and_right a b = elim a as (λ a. one (a && b) ≤ one b) [ true ↦ omega arith | false ↦ omega arith ]

-- a node leads by both hashes no more than by the first
both_first : (n : ℕ) (hash others : Hash) → both n hash others ≤ load hash n
both_first n [] others = omega arith
both_first n (owners ∷ hash) [] = omega arith
both_first n (owners ∷ hash) (other ∷ others) = omega (arith, load-cons owners hash n, one_and_left (leads n owners) (leads n other), both_first n hash others)

-- and no more than by the second
both_second : (n : ℕ) (hash others : Hash) → both n hash others ≤ load others n
both_second n [] others = omega arith
both_second n (owners ∷ hash) [] = omega arith
both_second n (owners ∷ hash) (other ∷ others) = omega (arith, load-cons other others n, one_and_right (leads n owners) (leads n other), both_second n hash others)

-- sums of terms that are equal, or no larger, or added
pub sum_by-alike : (f g : ℕ → ℕ) (xs : List ℕ) → AllByRecursion (λ x. f x ≡ g x) xs → sum_by f xs ≡ sum_by g xs
sum_by-alike f g [] h = refl
sum_by-alike f g (x ∷ xs) h = sum_by-cons f x xs ∙ (λ i. h.0 i + sum_by-alike f g xs h.1 i) ∙ sym (sum_by-cons g x xs)

-- a sum of sums is the sum of both
pub sum_by-plus : (f g : ℕ → ℕ) (xs : List ℕ) → sum_by (λ x. f x + g x) xs ≡ sum_by f xs + sum_by g xs
sum_by-plus f g [] = refl
sum_by-plus f g (x ∷ xs) = omega (arith, sum_by-cons (λ y. f y + g y) x xs, sum_by-cons f x xs, sum_by-cons g x xs, sum_by-plus f g xs)

-- a sum of terms that are no larger is no larger
pub sum_by-below : (f g : ℕ → ℕ) (xs : List ℕ) → AllByRecursion (λ x. f x ≤ g x) xs → sum_by f xs ≤ sum_by g xs
sum_by-below f g [] h = omega arith
sum_by-below f g (x ∷ xs) h = omega (arith, h.0, sum_by-cons f x xs, sum_by-cons g x xs, sum_by-below f g xs h.1)

-- a sum of one number is a product
pub sum_by-same : (k : ℕ) (xs : List ℕ) → sum_by (λ x. k) xs ≡ length xs * k
sum_by-same k [] = omega arith
sum_by-same k (x ∷ xs) = omega (arith, sum_by-cons (λ (y : ℕ). k) x xs, sum_by-same k xs)

-- what holds of every number holds of each of a list
pub each_of : (P : ℕ → Type 0) (xs : List ℕ) → ((x : ℕ) → P x) → AllByRecursion P xs
each_of P [] h = tt
each_of P (x ∷ xs) h = (h x, each_of P xs h)

-- where some of a list passes, the sum of its ones is not 0
some_counts : (p : ℕ → Bool) (xs : List ℕ) → list_any p xs ≡ true → 1 ≤ sum_by (λ x. one (p x)) xs
some_counts p [] h = absurd (cc)
some_counts p (x ∷ xs) h = elim (p x) as (λ b. b ≡ p x → 1 ≤ sum_by (λ y. one (p y)) (x ∷ xs)) [
  | true ↦ λ e. omega (arith, sum_by-cons (λ y. one (p y)) x xs, ap one e)
  | false ↦ λ e. omega (arith, sum_by-cons (λ y. one (p y)) x xs, ap one e, some_counts p xs (ap (λ b. b || list_any p xs) e ∙ h))
] refl

-- two segments with the same primary have it of the same nodes
same_leads : (owners other : List ℕ) (n : ℕ) → same_primary owners other ≡ true → leads n owners ≡ leads n other
same_leads [] [] n h = refl
same_leads [] (m ∷ other) n h = absurd (cc)
same_leads (a ∷ owners) [] n h = absurd (cc)
same_leads (a ∷ owners) (b ∷ other) n h = ap (λ k. k == n) (sym (eqb-true b a h))

-- two equal tests count as one of them
and_same : (a b : Bool) → a ≡ b → one (a && b) ≡ one b
and_same a b e = elim b as (λ b. a ≡ b → one (a && b) ≡ one b) [ true ↦ λ e. ap (λ a. one (a && true)) e | false ↦ λ e. ap (λ a. one (a && false)) e ] e

-- the segments that stay are counted at the nodes that lead them by both
stayed_by_each : (live : List ℕ) (hash others : Hash) → list_all (is_led_by live) others ≡ true → stayed hash others ≤ sum_by (λ n. both n hash others) live
stayed_by_each live [] others h = omega arith
stayed_by_each live (owners ∷ hash) [] h = omega arith
stayed_by_each live (owners ∷ hash) (other ∷ others) h =
    let parts = and_parts (is_led_by live other) (list_all (is_led_by live) others) h in
    let rest : stayed hash others ≤ sum_by (λ n. both n hash others) live = stayed_by_each live hash others parts.1 in
    let split = sum_by-plus (λ n. one (leads n owners && leads n other)) (λ n. both n hash others) live in
    elim (same_primary owners other) as (λ b. b ≡ same_primary owners other → one b + stayed hash others ≤ sum_by (λ n. both n (owners ∷ hash) (other ∷ others)) live) [
      | true ↦ λ e.
          let alike = sum_by-alike (λ n. one (leads n owners && leads n other)) (λ n. one (leads n other)) live
          (each_of (λ n. one (leads n owners && leads n other) ≡ one (leads n other)) live (λ n. and_same (leads n owners) (leads n other) (same_leads owners other n (sym e)))) in
          omega (arith, rest, split, alike, some_counts (λ n. leads n other) live parts.0)
      | false ↦ λ e. omega (arith, rest, split)
    ] refl

-- what both have is at most the even share, and one more where both have more
within_both : (b c p q : ℕ) → b ≤ c → b ≤ p → p ≤ q + 1 → b ≤ min c q + one (nat_lt q c && nat_lt q p)
within_both b c p q hc hp few = elim (cases_lt q c) [
  | inl more ↦ elim (cases_lt q p) [
    | inl more_too ↦ omega (arith, ap one (and_from (nat_lt q c) (nat_lt q p) (lt-ltb q c more) (lt-ltb q p more_too)))
    | inr no_more ↦ omega arith
  ]
  | inr no_more ↦ omega arith
]

-- a node that isn't in a list isn't among it
pub absent : (x : ℕ) (xs : List ℕ) → AllByRecursion (λ y. nat_eq x y ≡ false) xs → among x xs ≡ false
absent x [] h = refl
absent x (y ∷ xs) h = or_from (y == x) (among x xs) (nat_eq_equiv.symm y x ∙ h.0) (absent x xs h.1)

-- a number is once in a list without repetition, or never
pub counted_once : (m : ℕ) (xs : List ℕ) → IsDistinct nat_eq xs → sum_by (λ n. one (m == n)) xs ≡ one (among m xs)
unfolding IsDistinct
counted_once m [] d = refl
counted_once m (x ∷ xs) d =
    let first = sum_by-cons (λ n. one (m == n)) x xs in
    let rest : sum_by (λ n. one (m == n)) xs ≡ one (among m xs) = counted_once m xs d.1 in
    elim (cases_eq x m) [
      | inl same ↦
          let none : among m xs ≡ false = ap (λ k. among k xs) (sym same) ∙ absent x xs d.0 in
          omega (arith, first, rest, ap one none, ap one (eq-eqb m x (sym same)), ap one (or_left (x == m) (among m xs) (eq-eqb x m same)))
      | inr apart ↦
          let no : (m == x) ≡ false = ne_eqb m x (λ e. apart (sym e)) in
          let no_too : (x == m) ≡ false = ne_eqb x m apart in
          omega (arith, first, rest, ap one no, ap (λ b. one (b || among m xs)) no_too)
    ]

-- a test counts at most 1
pub at_most_one : (b : Bool) → one b ≤ 1
at_most_one b = elim b as (λ b. one b ≤ 1) [ true ↦ omega arith | false ↦ omega arith ]

-- a segment is led by at most one live node
led_once : (live : List ℕ) (owners : List ℕ) → IsDistinct nat_eq live → sum_by (λ n. one (leads n owners)) live ≤ 1
led_once live [] d = omega (arith, sum_by-same 0 live)
led_once live (m ∷ owners) d = omega (arith, counted_once m live d, at_most_one (among m live))

-- the loads of the live nodes add up to no more than the segments
loads_within : (live : List ℕ) (hash : Hash) → IsDistinct nat_eq live → sum_by (load hash) live ≤ length hash
loads_within live [] d = omega (arith, sum_by-same 0 live)
loads_within live (owners ∷ hash) d =
    let alike = sum_by-alike (load (owners ∷ hash)) (λ n. one (leads n owners) + load hash n) live (each_of (λ n. load (owners ∷ hash) n ≡ one (leads n owners) + load hash n) live (load-cons owners hash)) in
    omega (arith, alike, sum_by-plus (λ n. one (leads n owners)) (load hash) live, led_once live owners d, loads_within live hash d)

-- a test that passes of a list passes of each of it
pub all_each : (p : ℕ → Bool) (xs : List ℕ) → list_all p xs ≡ true → AllByRecursion (λ x. p x ≡ true) xs
all_each p [] h = tt
all_each p (x ∷ xs) h = let parts = and_parts (p x) (list_all p xs) h in (parts.0, all_each p xs parts.1)

-- what follows from what holds of each holds of each
pub each_then : (P Q : ℕ → Type 0) (xs : List ℕ) → AllByRecursion P xs → ((x : ℕ) → P x → Q x) → AllByRecursion Q xs
each_then P Q [] h f = tt
each_then P Q (x ∷ xs) h f = (f x h.0, each_then P Q xs h.1 f)

-- of a balanced hash no more nodes than are left over lead more than the even share
pub few_heavy : (live : List ℕ) (others : Hash) → IsDistinct nat_eq live → 0 < length live → AllByRecursion (λ n. even_share live others ≤ load others n) live
    → sum_by (λ n. one (nat_lt (even_share live others) (load others n))) live ≤ left_over live others
few_heavy live others d some least =
    let q = even_share live others in
    let whole = div-add-mod (length others) (length live) in
    let within = loads_within live others d in
    let below = sum_by-below (λ n. q + one (nat_lt q (load others n))) (load others) live
    (each_then (λ n. q ≤ load others n) (λ n. q + one (nat_lt q (load others n)) ≤ load others n) live least (λ n h. at_least q (load others n) h)) in
    omega (arith, whole, within, below, sum_by-plus (λ n. q) (λ n. one (nat_lt q (load others n))) live, sum_by-same q live, mul_comm (length live) q)
  where
    at_least : (q p : ℕ) → q ≤ p → q + one (nat_lt q p) ≤ p
    at_least q p h = elim (cases_lt q p) [
      | inl more ↦ omega (arith, at_most_one (nat_lt q p))
      | inr no_more ↦ omega (arith, ap one (le-ltb q p no_more))
    ]

-- no balanced hash keeps more primaries than can be kept
pub few_stay : (live : List ℕ) (hash others : Hash) → IsDistinct nat_eq live → 0 < length live → length hash ≡ length others → is_balanced live others ≡ true
    → stayed hash others ≤ most_kept live hash
few_stay live hash others d some long balanced =
    let q = even_share live hash in
    let same_share : even_share live others ≡ q = ap (λ n. n / length live) (sym long) in
    let same_rest : left_over live others ≡ left_over live hash = ap (λ n. n % length live) (sym long) in
    let parts = and_parts (list_all (is_led_by live) others) (list_all (λ n. (load others n == even_share live others) || (load others n == even_share live others + 1)) live) balanced in
    let each = all_each (λ n. (load others n == even_share live others) || (load others n == even_share live others + 1)) live parts.1 in
    let least = each_then (λ n. ((load others n == even_share live others) || (load others n == even_share live others + 1)) ≡ true) (λ n. even_share live others ≤ load others n) live each
    (λ n h. (share (load others n) (even_share live others) h).0) in
    let most = each_then (λ n. ((load others n == even_share live others) || (load others n == even_share live others + 1)) ≡ true) (λ n. load others n ≤ q + 1) live each
    (λ n h. omega (arith, same_share, (share (load others n) (even_share live others) h).1)) in
    let heavy = few_heavy live others d some least in
    let heavy_now = subst (λ k. sum_by (λ n. one (nat_lt k (load others n))) live ≤ left_over live others) same_share heavy in
    let kept = sum_by-below (λ n. both n hash others) (λ n. min (load hash n) q + one (nat_lt q (load hash n) && nat_lt q (load others n))) live
    (each_then (λ n. load others n ≤ q + 1) (λ n. both n hash others ≤ min (load hash n) q + one (nat_lt q (load hash n) && nat_lt q (load others n))) live most
    (λ n h. within_both (both n hash others) (load hash n) (load others n) q (both_first n hash others) (both_second n hash others) h)) in
    let left = sum_by-below (λ n. one (nat_lt q (load hash n) && nat_lt q (load others n))) (λ n. one (nat_lt q (load hash n))) live
    (each_of (λ n. one (nat_lt q (load hash n) && nat_lt q (load others n)) ≤ one (nat_lt q (load hash n))) live (λ n. one_and_left (nat_lt q (load hash n)) (nat_lt q (load others n)))) in
    let right = sum_by-below (λ n. one (nat_lt q (load hash n) && nat_lt q (load others n))) (λ n. one (nat_lt q (load others n))) live
    (each_of (λ n. one (nat_lt q (load hash n) && nat_lt q (load others n)) ≤ one (nat_lt q (load others n))) live (λ n. one_and_right (nat_lt q (load hash n)) (nat_lt q (load others n)))) in
    omega (
      arith,
      stayed_by_each live hash others parts.0,
      kept,
      left,
      right,
      heavy_now,
      same_rest,
      sum_by-plus (λ n. min (load hash n) q) (λ n. one (nat_lt q (load hash n) && nat_lt q (load others n))) live,
    )
  where
    share : (p q : ℕ) → ((p == q) || (p == q + 1)) ≡ true → (q ≤ p) × (p ≤ q + 1)
    share p q h = elim (or_cases (p == q) (p == q + 1) h) [
      | inl level ↦ (omega (arith, eqb-true p q level), omega (arith, eqb-true p q level))
      | inr more ↦ (omega (arith, eqb-true p (q + 1) more), omega (arith, eqb-true p (q + 1) more))
    ]

-- every balanced hash moves at least the segments that can't keep their primary
pub many_move : (live : List ℕ) (hash others : Hash) → IsDistinct nat_eq live → 0 < length live → length hash ≡ length others → is_balanced live others ≡ true
    → length hash - most_kept live hash ≤ moved hash others
many_move live hash others d some long balanced = omega (arith, few_stay live hash others d some long balanced, stayed_and_moved hash others long)
