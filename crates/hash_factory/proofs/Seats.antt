-- That segments are handed out as the targets say, and each segment that can keep its primary does.
use Rattle.std.proofs.Common.{◌≡◌, ℕ, suc, ◌+◌, ◌-◌, ◌*◌, ◌<◌, ◌≤◌, Some, true, false, cond, List, [], ◌∷◌, length, min, nat_eq, ◌==◌, arith, refl, sym, ap, ◌∙◌, inl, inr}
use Rattle.std.proofs.lemmas.Bool.{cases_eq, eqb-true, eq-eqb, ne_eqb, ltb-true, ltb-false, and_from, or_left, or_right, or_cases, true_from_ne_false}
use Rattle.std.proofs.lemmas.List.Sums.{sum_by-cons}
use Rattle.std.specs.List.{sum_by, find, list_all, list_any, AllByRecursion, IsDistinct}
use Rattle.std.specs.Option.{unwrap_or}
use Rattle.std.specs.Prelude.{nat_lt, slice_index}
use Rattle.topology_phase.specs.Owners.{Hash, among}
use Rattle.hash_factory.specs.Least.{leads, load, same_primary, is_led_by, one_less, keeps, first_short, seated}
use Rattle.hash_factory.proofs.Moves.{one, stayed, load-cons, sum_by-alike, sum_by-plus, sum_by-same, each_of, counted_once}

-- made owners have the node that is to lead them as their first
abbrev pub Heads : (ℕ → List ℕ → List ℕ) → Type 0
Heads row = (n : ℕ) (owners : List ℕ) (m : ℕ) → leads m (row n owners) ≡ (n == m)

-- a number that stands only at live nodes
abbrev pub AtLive : List ℕ → (ℕ → ℕ) → Type 0
AtLive live room = (n : ℕ) → among n live ≡ false → room n ≡ 0

-- how many segments keep their primary
abbrev pub kept_rows : (ℕ → ℕ) → Hash → ℕ
kept_rows room [] = 0
kept_rows room (owners ∷ hash) = cond (keeps room owners) (1 + kept_rows (one_less room (slice_index owners 0)) hash) (kept_rows room hash)

-- what holds of each node of a list holds of each of the list
pub of_members : (P : ℕ → Type 0) (xs : List ℕ) → ((n : ℕ) → among n xs ≡ true → P n) → AllByRecursion P xs
of_members P [] h = tt
of_members P (x ∷ xs) h =
    (h x (or_left (x == x) (among x xs) (eq-eqb x x refl)), of_members P xs (λ n inside. h n (or_right (x == n) (among n xs) inside)))

-- a term of a sum is within it
pub term_within : (f : ℕ → ℕ) (n : ℕ) (xs : List ℕ) → among n xs ≡ true → f n ≤ sum_by f xs
term_within f n [] h = absurd (cc)
term_within f n (x ∷ xs) h = elim (or_cases (x == n) (among n xs) h) [
  | inl here ↦ omega (arith, sum_by-cons f x xs, ap f (eqb-true x n here))
  | inr later ↦ omega (arith, sum_by-cons f x xs, term_within f n xs later)
]

-- at the node itself there is one less
pub less_here : (f : ℕ → ℕ) (k n : ℕ) → k ≡ n → one_less f k n ≡ f n - 1
less_here f k n e = ap (λ b. cond b (f n - 1) (f n)) (eq-eqb n k (sym e))

-- at another node there is as much as before
pub less_apart : (f : ℕ → ℕ) (k n : ℕ) → (k ≡ n → ⊥) → one_less f k n ≡ f n
less_apart f k n e = ap (λ b. cond b (f n - 1) (f n)) (ne_eqb n k (λ e'. e (sym e')))

-- one less, and one at that node, is as much as before
less_and_one : (f : ℕ → ℕ) (k : ℕ) → 0 < f k → (n : ℕ) → one_less f k n + one (k == n) ≡ f n
less_and_one f k some n = elim (cases_eq k n) [
  | inl same ↦ omega (arith, less_here f k n same, ap one (eq-eqb k n same), ap f same)
  | inr apart ↦ omega (arith, less_apart f k n apart, ap one (ne_eqb k n apart))
]

-- one less at a live node is one less in all
pub sum_one_less : (live : List ℕ) (f : ℕ → ℕ) (k : ℕ) → IsDistinct nat_eq live → among k live ≡ true → 0 < f k → sum_by (one_less f k) live + 1 ≡ sum_by f live
sum_one_less live f k d inside some =
    omega (
      arith,
      sum_by-plus (one_less f k) (λ n. one (k == n)) live,
      counted_once k live d,
      ap one inside,
      sum_by-alike (λ n. one_less f k n + one (k == n)) f live (each_of (λ n. one_less f k n + one (k == n) ≡ f n) live (less_and_one f k some)),
    )

-- where some node is short, the first short one is live and short
pub first_is_short : (live : List ℕ) (short : ℕ → ℕ) → 1 ≤ sum_by short live → (among (first_short live short) live ≡ true) × (0 < short (first_short live short))
first_is_short [] short h = absurd (omega arith)
first_is_short (x ∷ xs) short h =
    elim (nat_lt 0 (short x)) as (λ b. b ≡ nat_lt 0 (short x) → (among (unwrap_or (cond b (Some x) (find (λ n. nat_lt 0 (short n)) xs)) 0) (x ∷ xs) ≡ true) × (0 < short (unwrap_or (cond b (Some x) (find (λ n. nat_lt 0 (short n)) xs)) 0))) [
      | true ↦ λ e. (or_left (x == x) (among x xs) (eq-eqb x x refl), ltb-true 0 (short x) (sym e))
      | false ↦ λ e.
          let rest = first_is_short xs short (omega (arith, h, sum_by-cons short x xs, ltb-false 0 (short x) (sym e))) in
          (or_right (x == first_short xs short) (among (first_short xs short) xs) rest.0, rest.1)
    ] refl

-- no more segments keep their primary than there are
pub kept_few : (room : ℕ → ℕ) (hash : Hash) → kept_rows room hash ≤ length hash
kept_few room [] = omega arith
kept_few room (owners ∷ hash) = elim (keeps room owners) as (λ b. cond b (1 + kept_rows (one_less room (slice_index owners 0)) hash) (kept_rows room hash) ≤ suc (length hash)) [
  | true ↦ omega (arith, kept_few (one_less room (slice_index owners 0)) hash)
  | false ↦ omega (arith, kept_few room hash)
]

-- the segments that are led now: a primary that keeps has room, and one that doesn't has none
pub keeps_first : (room : ℕ → ℕ) (owners : List ℕ) (m : ℕ) → keeps room owners ≡ true → (0 < room (slice_index owners 0)) × (leads m owners ≡ (slice_index owners 0 == m))
keeps_first room [] m h = absurd (cc)
keeps_first room (n ∷ owners) m h = (ltb-true 0 (room n) h, refl)

-- where a primary has no room, its segment adds nothing to what a node keeps
no_room : (room : ℕ → ℕ) (owners : List ℕ) (m l : ℕ) → keeps room owners ≡ false → min (one (leads m owners) + l) (room m) ≡ min l (room m)
no_room room [] m l h = omega arith
no_room room (n ∷ owners) m l h = elim (cases_eq n m) [
  | inl same ↦ omega (arith, ltb-false 0 (room n) h, ap room same)
  | inr apart ↦ omega (arith, ap one (ne_eqb n m apart))
]

-- where it has room, its segment is kept and takes one of the room
with_room : (room : ℕ → ℕ) (n m l : ℕ) → 0 < room n → min (one (n == m) + l) (room m) ≡ one (n == m) + min l (one_less room n m)
with_room room n m l some = elim (cases_eq n m) [
  | inl same ↦ omega (arith, ap one (eq-eqb n m same), less_here room n m same, ap room same)
  | inr apart ↦ omega (arith, ap one (ne_eqb n m apart), less_apart room n m apart)
]

-- each live node leads what it keeps and what it was short of
pub load_seated : (live : List ℕ) (row : ℕ → List ℕ → List ℕ) (room short : ℕ → ℕ) (hash : Hash) → Heads row → IsDistinct nat_eq live
    → sum_by short live + kept_rows room hash ≡ length hash → (m : ℕ) → among m live ≡ true
    → load (seated live row room short hash) m ≡ min (load hash m) (room m) + short m
load_seated live row room short [] heads d whole m inside = omega (arith, term_within short m live inside)
load_seated live row room short (owners ∷ hash) heads d whole m inside =
    let n = slice_index owners 0 in
    let k = first_short live short in
    let now = load-cons owners hash m in
    elim (keeps room owners) as (λ b. b ≡ keeps room owners → sum_by short live + cond b (1 + kept_rows (one_less room n) hash) (kept_rows room hash) ≡ suc (length hash)
    → load (cond b (row n owners ∷ seated live row (one_less room n) short hash) (row k owners ∷ seated live row room (one_less short k) hash)) m ≡ min (load (owners ∷ hash) m) (room m) + short m) [
      | true ↦ λ e whole.
          let first = keeps_first room owners m (sym e) in
          let rest = load_seated live row (one_less room n) short hash heads d (omega arith) m inside in
          omega (arith, now, ap one first.1, load-cons (row n owners) (seated live row (one_less room n) short hash) m, ap one (heads n owners m), rest, with_room room n m (load hash m) first.0)
      | false ↦ λ e whole.
          let some = first_is_short live short (omega (arith, whole, kept_few room hash)) in
          let rest = load_seated live row room (one_less short k) hash heads d (omega (arith, whole, sum_one_less live short k d some.0 some.1)) m inside in
          omega (arith, now, no_room room owners m (load hash m) (sym e), load-cons (row k owners) (seated live row room (one_less short k) hash) m, ap one (heads k owners m), rest, less_and_one short k some.1 m)
    ] refl whole

-- as many segments are seated as there are
pub length-seated : (live : List ℕ) (row : ℕ → List ℕ → List ℕ) (room short : ℕ → ℕ) (hash : Hash) → length (seated live row room short hash) ≡ length hash
length-seated live row room short [] = refl
length-seated live row room short (owners ∷ hash) =
    let n = slice_index owners 0 in
    let k = first_short live short in
    elim (keeps room owners) as (λ b. length (cond b (row n owners ∷ seated live row (one_less room n) short hash) (row k owners ∷ seated live row room (one_less short k) hash)) ≡ suc (length hash)) [
      | true ↦ ap suc (length-seated live row (one_less room n) short hash)
      | false ↦ ap suc (length-seated live row room (one_less short k) hash)
    ]

-- a live node leads the owners that were made for it
led : (live : List ℕ) (row : ℕ → List ℕ → List ℕ) (n : ℕ) (owners : List ℕ) → Heads row → among n live ≡ true → is_led_by live (row n owners) ≡ true
led live row n owners heads inside = go live inside
  where
    go : (xs : List ℕ) → among n xs ≡ true → list_any (λ m. leads m (row n owners)) xs ≡ true
    go [] h = absurd (cc)
    go (x ∷ xs) h = elim (or_cases (x == n) (among n xs) h) [
      | inl here ↦ or_left (leads x (row n owners)) (list_any (λ m. leads m (row n owners)) xs) (heads n owners x ∙ eq-eqb n x (sym (eqb-true x n here)))
      | inr later ↦ or_right (leads x (row n owners)) (list_any (λ m. leads m (row n owners)) xs) (go xs later)
    ]

-- with one less at a node there is still room at live nodes alone
pub less_at_live : (live : List ℕ) (room : ℕ → ℕ) (k : ℕ) → AtLive live room → AtLive live (one_less room k)
less_at_live live room k h n out = elim (cases_eq k n) [
  | inl same ↦ omega (arith, less_here room k n same, h n out)
  | inr apart ↦ omega (arith, less_apart room k n apart, h n out)
]

-- a node with room is live
pub with_room_inside : (live : List ℕ) (room : ℕ → ℕ) (n : ℕ) → AtLive live room → 0 < room n → among n live ≡ true
with_room_inside live room n h some = true_from_ne_false (among n live) (λ out. absurd (omega (arith, some, h n out)))

-- a live node leads each segment that is seated
pub led_seated : (live : List ℕ) (row : ℕ → List ℕ → List ℕ) (room short : ℕ → ℕ) (hash : Hash) → Heads row → IsDistinct nat_eq live → AtLive live room
    → sum_by short live + kept_rows room hash ≡ length hash → list_all (is_led_by live) (seated live row room short hash) ≡ true
led_seated live row room short [] heads d at whole = refl
led_seated live row room short (owners ∷ hash) heads d at whole =
    let n = slice_index owners 0 in
    let k = first_short live short in
    elim (keeps room owners) as (λ b. b ≡ keeps room owners → sum_by short live + cond b (1 + kept_rows (one_less room n) hash) (kept_rows room hash) ≡ suc (length hash)
    → list_all (is_led_by live) (cond b (row n owners ∷ seated live row (one_less room n) short hash) (row k owners ∷ seated live row room (one_less short k) hash)) ≡ true) [
      | true ↦ λ e whole.
          let first = keeps_first room owners 0 (sym e) in
          and_from (is_led_by live (row n owners)) (list_all (is_led_by live) (seated live row (one_less room n) short hash)) (led live row n owners heads (with_room_inside live room n at first.0))
          (led_seated live row (one_less room n) short hash heads d (less_at_live live room n at) (omega arith))
      | false ↦ λ e whole.
          let some = first_is_short live short (omega (arith, whole, kept_few room hash)) in
          and_from (is_led_by live (row k owners)) (list_all (is_led_by live) (seated live row room (one_less short k) hash)) (led live row k owners heads some.0)
          (led_seated live row room (one_less short k) hash heads d at (omega (arith, whole, sum_one_less live short k d some.0 some.1)))
    ] refl whole

-- what keeps its primary stays
pub kept_stay : (live : List ℕ) (row : ℕ → List ℕ → List ℕ) (room short : ℕ → ℕ) (hash : Hash) → Heads row → kept_rows room hash ≤ stayed hash (seated live row room short hash)
kept_stay live row room short [] heads = omega arith
kept_stay live row room short (owners ∷ hash) heads =
    let n = slice_index owners 0 in
    let k = first_short live short in
    elim (keeps room owners) as (λ b. b ≡ keeps room owners → cond b (1 + kept_rows (one_less room n) hash) (kept_rows room hash)
    ≤ stayed (owners ∷ hash) (cond b (row n owners ∷ seated live row (one_less room n) short hash) (row k owners ∷ seated live row room (one_less short k) hash))) [
      | true ↦ λ e. omega (arith, ap one (same owners (sym e)), kept_stay live row (one_less room n) short hash heads)
      | false ↦ λ e. omega (arith, kept_stay live row room (one_less short k) hash heads)
    ] refl
  where
    same : (owners : List ℕ) → keeps room owners ≡ true → same_primary owners (row (slice_index owners 0) owners) ≡ true
    same [] h = absurd (cc)
    same (n ∷ rest) h = heads n (n ∷ rest) n ∙ eq-eqb n n refl

-- how many keep their primary, counted at the live nodes
pub kept_by_each : (live : List ℕ) (room : ℕ → ℕ) (hash : Hash) → IsDistinct nat_eq live → AtLive live room → kept_rows room hash ≡ sum_by (λ n. min (load hash n) (room n)) live
kept_by_each live room [] d at = sym (sum_by-alike (λ n. min (load [] n) (room n)) (λ n. 0) live (each_of (λ n. min (load [] n) (room n) ≡ 0) live (λ n. omega arith)) ∙ sum_by-same 0 live ∙ (let e : length live * 0 ≡ 0 = omega arith in e))
kept_by_each live room (owners ∷ hash) d at =
    let n = slice_index owners 0 in
    elim (keeps room owners) as (λ b. b ≡ keeps room owners → cond b (1 + kept_rows (one_less room n) hash) (kept_rows room hash) ≡ sum_by (λ m. min (load (owners ∷ hash) m) (room m)) live) [
      | true ↦ λ e.
          let some = (keeps_first room owners 0 (sym e)).0 in
          let rest = kept_by_each live (one_less room n) hash d (less_at_live live room n at) in
          let alike = sum_by-alike (λ m. min (load (owners ∷ hash) m) (room m)) (λ m. one (n == m) + min (load hash m) (one_less room n m)) live
          (each_of (λ m. min (load (owners ∷ hash) m) (room m) ≡ one (n == m) + min (load hash m) (one_less room n m)) live
          (λ m. omega (arith, load-cons owners hash m, ap one (keeps_first room owners m (sym e)).1, with_room room n m (load hash m) some))) in
          omega (arith, rest, alike, sum_by-plus (λ m. one (n == m)) (λ m. min (load hash m) (one_less room n m)) live, counted_once n live d, ap one (with_room_inside live room n at some))
      | false ↦ λ e.
          let rest = kept_by_each live room hash d at in
          let alike = sum_by-alike (λ m. min (load (owners ∷ hash) m) (room m)) (λ m. min (load hash m) (room m)) live
          (each_of (λ m. min (load (owners ∷ hash) m) (room m) ≡ min (load hash m) (room m)) live
          (λ m. omega (arith, load-cons owners hash m, no_room room owners m (load hash m) (sym e)))) in
          omega (arith, rest, alike)
    ] refl
