-- The rows of the hash that moves least: how many owners each has, and who they are; and that a settled hash stays.
use Rattle.std.proofs.Common.{◌≡◌, append_assoc, ℕ, suc, zero, ◌+◌, ◌<◌, ◌≤◌, Bool, true, false, not, ◌&&◌, ◌||◌, cond, List, [], ◌∷◌, ◌++◌, length, take, min, nat_eq, ◌==◌, arith, refl, sym, ap, ◌∙◌, inl, inr}
use Rattle.std.proofs.lemmas.Bool.{cases_lt, cases_eq, cases_Bool, eqb-true, eq-eqb, ltb-true, lt-ltb, le-ltb, le-leb, lt-leb, and_parts, and_from, or_left, or_right, or_from, or_cases, both_ways, not_from_false, not_from_true, and_right}
use Rattle.std.proofs.lemmas.List.{length-append, append-nil}
use Rattle.std.proofs.lemmas.List.Folds.{list_all-append, list_any-append}
use Rattle.std.proofs.lemmas.List.Filters.{sum_by-filter_both}
use Rattle.std.proofs.lemmas.List.Sums.{sum_by-append, length-filter, fold-append}
use Rattle.std.specs.List.{sum_by, filter, fold, list_all, list_any, AllByRecursion, IsDistinct}
use Rattle.std.specs.Prelude.{nat_lt, nat_le, slice_index}
use Rattle.topology_phase.specs.Owners.{Hash, among, is_ownerless, owners_at}
use Rattle.topology_phase.specs.Following.{is_owned_by}
use Rattle.hash_factory.specs.Least.{leads, load, is_led_by, is_balanced, even_share, left_over, is_heavy, is_light, favoured, target, shortage, one_less, keeps, first_short, seated, from_next, extended, owners_led_by, least}
use Rattle.hash_factory.specs.Shown.{IsFullRow}
use Rattle.hash_factory.proofs.Moves.{one, at_most_one, load-cons, sum_by-alike, sum_by-plus, sum_by-below, sum_by-same, each_of, each_then, all_each, counted_once, few_heavy}
use Rattle.hash_factory.proofs.Seats.{AtLive, kept_rows, of_members, first_is_short, kept_few, sum_one_less, less_at_live, with_room_inside, keeps_first, less_here, less_apart}
use Rattle.hash_factory.proofs.LeastMoves.{shortage_in_all, target_at_live, target_of_live}

-- what each made row has, where the rows so far have something
pub rows_seated : (P Q : List ℕ → Type 0) (live : List ℕ) (row : ℕ → List ℕ → List ℕ) (room short : ℕ → ℕ) (hash : Hash) → IsDistinct nat_eq live → AtLive live room
    → ((n : ℕ) (owners : List ℕ) → among n live ≡ true → Q owners → P (row n owners))
    → sum_by short live + kept_rows room hash ≡ length hash → AllByRecursion Q hash → AllByRecursion P (seated live row room short hash)
rows_seated P Q live row room short [] d at made whole h = tt
rows_seated P Q live row room short (owners ∷ hash) d at made whole h =
    let n = slice_index owners 0 in
    let k = first_short live short in
    elim (keeps room owners) as (λ b. b ≡ keeps room owners → sum_by short live + cond b (1 + kept_rows (one_less room n) hash) (kept_rows room hash) ≡ suc (length hash)
    → AllByRecursion P (cond b (row n owners ∷ seated live row (one_less room n) short hash) (row k owners ∷ seated live row room (one_less short k) hash))) [
      | true ↦ λ e whole.
          (made n owners (with_room_inside live room n at (keeps_first room owners 0 (sym e)).0) h.0, rows_seated P Q live row (one_less room n) short hash d (less_at_live live room n at) made (omega arith) h.1)
      | false ↦ λ e whole.
          let some = first_is_short live short (omega (arith, whole, kept_few room hash)) in
          (made k owners some.0 h.0, rows_seated P Q live row room (one_less short k) hash d at made (omega (arith, whole, sum_one_less live short k d some.0 some.1)) h.1)
    ] refl whole

-- of numbers without repetition no more are among a list than it has
few_among : (xs ys : List ℕ) → IsDistinct nat_eq ys → sum_by (λ y. one (among y xs)) ys ≤ length xs
few_among [] ys d = omega (arith, sum_by-same 0 ys)
few_among (x ∷ xs) ys d =
    omega (
      arith,
      sum_by-below (λ y. one (among y (x ∷ xs))) (λ y. one (x == y) + one (among y xs)) ys (each_of (λ y. one (among y (x ∷ xs)) ≤ one (x == y) + one (among y xs)) ys (λ y. one_or (x == y) (among y xs))),
      sum_by-plus (λ y. one (x == y)) (λ y. one (among y xs)) ys,
      counted_once x ys d,
      at_most_one (among x ys),
      few_among xs ys d,
    )
  where
    one_or : (a b : Bool) → one (a || b) ≤ one a + one b
    one_or a b = elim a as (λ a. one (a || b) ≤ one a + one b) [ true ↦ omega arith | false ↦ omega arith ]

-- a number is at most another exactly where the other isn't less
after_or_not : (n m : ℕ) → nat_le m n ≡ not (nat_lt n m)
after_or_not n m = elim (cases_lt n m) [
  | inl more ↦ lt-leb m n more ∙ ap not (sym (lt-ltb n m more))
  | inr no_more ↦ le-leb m n no_more ∙ ap not (sym (le-ltb n m no_more))
]

-- the live nodes after a node, counted round, are all of them
sum_from_next : (f : ℕ → ℕ) (live : List ℕ) (n : ℕ) → sum_by f (from_next live n) ≡ sum_by f live
sum_from_next f live n = sum_by-append f (filter (nat_lt n) live) (filter (λ m. nat_le m n) live) ∙ sum_by-filter_both (nat_lt n) (λ m. nat_le m n) (after_or_not n) f live

-- who passes of a list is among its passing ones
among_filter : (p : ℕ → Bool) (n : ℕ) (xs : List ℕ) → among n xs ≡ true → p n ≡ true → among n (filter p xs) ≡ true
among_filter p n [] h passed = absurd (cc)
among_filter p n (x ∷ xs) h passed = elim (p x) as (λ b. b ≡ p x → among n (cond b (x ∷ filter p xs) (filter p xs)) ≡ true) [
  | true ↦ λ e. elim (or_cases (x == n) (among n xs) h) [
    | inl here ↦ or_left (x == n) (among n (filter p xs)) here
    | inr later ↦ or_right (x == n) (among n (filter p xs)) (among_filter p n xs later passed)
  ]
  | false ↦ λ e. elim (or_cases (x == n) (among n xs) h) [
    | inl here ↦ absurd (both_ways (p n) (ap p (sym (eqb-true x n here)) ∙ sym e) passed)
    | inr later ↦ among_filter p n xs later passed
  ]
] refl

-- owners that are extended are so many at most, or as many as before
few_extended : (most : ℕ) (xs ys : List ℕ) → length xs ≤ most → length (fold (extended most) xs ys) ≤ most
few_extended most xs [] h = h
few_extended most xs (y ∷ ys) h = elim (nat_lt (length xs) most && not (among y xs)) as (λ b. b ≡ (nat_lt (length xs) most && not (among y xs)) → length (fold (extended most) (cond b (xs ++ y ∷ []) xs) ys) ≤ most) [
  | true ↦ λ e. few_extended most (xs ++ y ∷ []) ys (omega (arith, length-append xs (y ∷ []), ltb-true (length xs) most (and_parts (nat_lt (length xs) most) (not (among y xs)) (sym e)).0))
  | false ↦ λ e. few_extended most xs ys h
] refl

-- owners only grow
longer : (most : ℕ) (xs ys : List ℕ) → length xs ≤ length (fold (extended most) xs ys)
longer most xs [] = omega arith
longer most xs (y ∷ ys) = elim (nat_lt (length xs) most && not (among y xs)) as (λ b. length xs ≤ length (fold (extended most) (cond b (xs ++ y ∷ []) xs) ys)) [
  | true ↦ omega (arith, length-append xs (y ∷ []), longer most (xs ++ y ∷ []) ys)
  | false ↦ longer most xs ys
]

-- who is there stays
still_there : (most m : ℕ) (xs ys : List ℕ) → among m xs ≡ true → among m (fold (extended most) xs ys) ≡ true
still_there most m xs [] h = h
still_there most m xs (y ∷ ys) h = elim (nat_lt (length xs) most && not (among y xs)) as (λ b. among m (fold (extended most) (cond b (xs ++ y ∷ []) xs) ys) ≡ true) [
  | true ↦ still_there most m (xs ++ y ∷ []) ys (list_any-append (λ k. k == m) xs (y ∷ []) ∙ or_left (among m xs) (among m (y ∷ [])) h)
  | false ↦ still_there most m xs ys h
]

-- where owners that were extended are fewer than so many, each node that was to be among them is
all_there : (most m : ℕ) (xs ys : List ℕ) → length (fold (extended most) xs ys) < most → among m ys ≡ true → among m (fold (extended most) xs ys) ≡ true
all_there most m xs [] few inside = absurd (cc)
all_there most m xs (y ∷ ys) few inside =
    elim (nat_lt (length xs) most && not (among y xs)) as (λ b. b ≡ (nat_lt (length xs) most && not (among y xs)) → length (fold (extended most) (cond b (xs ++ y ∷ []) xs) ys) < most → among m (fold (extended most) (cond b (xs ++ y ∷ []) xs) ys) ≡ true) [
      | true ↦ λ e few. elim (or_cases (y == m) (among m ys) inside) [
        | inl here ↦ still_there most m (xs ++ y ∷ []) ys (list_any-append (λ k. k == m) xs (y ∷ []) ∙ or_right (among m xs) (among m (y ∷ [])) (or_left (y == m) false here))
        | inr later ↦ all_there most m (xs ++ y ∷ []) ys few later
      ]
      | false ↦ λ e few. elim (or_cases (y == m) (among m ys) inside) [
        | inl here ↦ still_there most m xs ys (ap (λ k. among k xs) (sym (eqb-true y m here)) ∙ known e (longer most xs ys) few)
        | inr later ↦ all_there most m xs ys few later
      ]
    ] refl few
  where
    known : false ≡ (nat_lt (length xs) most && not (among y xs)) → length xs ≤ length (fold (extended most) xs ys) → length (fold (extended most) xs ys) < most → among y xs ≡ true
    known e long few = elim (cases_Bool (among y xs)) [
      | inl is ↦ is
      | inr isnt ↦ absurd (both_ways (nat_lt (length xs) most && not (among y xs)) (sym e) (and_from (nat_lt (length xs) most) (not (among y xs)) (lt-ltb (length xs) most (omega (arith, long, few))) (not_from_false (among y xs) isnt)))
    ]

-- each live node is among the live nodes after a node, counted round
among_next : (live : List ℕ) (n m : ℕ) → among m live ≡ true → among m (from_next live n) ≡ true
among_next live n m inside = list_any-append (λ k. k == m) (filter (nat_lt n) live) (filter (λ k. nat_le k n) live) ∙ (elim (cases_lt n m) [
  | inl more ↦ or_left (among m (filter (nat_lt n) live)) (among m (filter (λ k. nat_le k n) live)) (among_filter (nat_lt n) m live inside (lt-ltb n m more))
  | inr no_more ↦ or_right (among m (filter (nat_lt n) live)) (among m (filter (λ k. nat_le k n) live)) (among_filter (λ k. nat_le k n) m live inside (le-leb m n no_more))
])

-- made owners are so many
pub length_led : (live : List ℕ) (most n : ℕ) (owners : List ℕ) → IsDistinct nat_eq live → 0 < most → most ≤ length live → length (owners_led_by live most n owners) ≡ most
unfolding owners_led_by
length_led live most n owners d some few =
    let ys = owners ++ from_next live n in
    let made = fold (extended most) (n ∷ []) ys in
    let at_most : length made ≤ most = few_extended most (n ∷ []) ys (omega arith) in
    elim (cases_lt (length made) most) [
      | inl fewer ↦
          let each = of_members (λ m. one (among m made) ≡ 1) live (λ m inside. ap one (all_there most m (n ∷ []) ys fewer (list_any-append (λ k. k == m) owners (from_next live n) ∙ or_right (among m owners) (among m (from_next live n)) (among_next live n m inside)))) in
          absurd (omega (arith, fewer, few, few_among made live d, sum_by-alike (λ m. one (among m made)) (λ m. 1) live each, sum_by-same 1 live))
      | inr enough ↦ omega arith
    ]

-- all of a filter, a front or a joined list pass where all of the lists do
all_filter : (p t : ℕ → Bool) (xs : List ℕ) → list_all p xs ≡ true → list_all p (filter t xs) ≡ true
all_filter p t [] h = refl
all_filter p t (x ∷ xs) h =
    let parts = and_parts (p x) (list_all p xs) h in
    elim (t x) as (λ b. list_all p (cond b (x ∷ filter t xs) (filter t xs)) ≡ true) [
      | true ↦ and_from (p x) (list_all p (filter t xs)) parts.0 (all_filter p t xs parts.1)
      | false ↦ all_filter p t xs parts.1
    ]

-- what passes of two lists passes of both together
all_append : (p : ℕ → Bool) (xs ys : List ℕ) → list_all p xs ≡ true → list_all p ys ≡ true → list_all p (xs ++ ys) ≡ true
all_append p xs ys h k = list_all-append p xs ys ∙ and_from (list_all p xs) (list_all p ys) h k

-- each live node is among the live nodes
all_live : (live : List ℕ) → list_all (λ n. among n live) live ≡ true
all_live live = go live (of_members (λ n. among n live ≡ true) live (λ n h. h))
  where
    go : (xs : List ℕ) → AllByRecursion (λ n. among n live ≡ true) xs → list_all (λ n. among n live) xs ≡ true
    go [] h = refl
    go (x ∷ xs) h = and_from (among x live) (list_all (λ n. among n live) xs) h.0 (go xs h.1)

-- what passes of the owners so far and of those added passes of all
all_extended : (p : ℕ → Bool) (most : ℕ) (xs ys : List ℕ) → list_all p xs ≡ true → list_all p ys ≡ true → list_all p (fold (extended most) xs ys) ≡ true
all_extended p most xs [] h k = h
all_extended p most xs (y ∷ ys) h k =
    let parts = and_parts (p y) (list_all p ys) k in
    elim (nat_lt (length xs) most && not (among y xs)) as (λ b. list_all p (fold (extended most) (cond b (xs ++ y ∷ []) xs) ys) ≡ true) [
      | true ↦ all_extended p most (xs ++ y ∷ []) ys (all_append p xs (y ∷ []) h (and_from (p y) true parts.0 refl)) parts.1
      | false ↦ all_extended p most xs ys h parts.1
    ]

-- owners that begin with one aren't empty
some_there : (most : ℕ) (x : ℕ) (xs ys : List ℕ) → not (is_ownerless (fold (extended most) (x ∷ xs) ys)) ≡ true
some_there most x xs [] = refl
some_there most x xs (y ∷ ys) = elim (nat_lt (length (x ∷ xs)) most && not (among y (x ∷ xs))) as (λ b. not (is_ownerless (fold (extended most) (cond b (x ∷ xs ++ y ∷ []) (x ∷ xs)) ys)) ≡ true) [
  | true ↦ some_there most x (xs ++ y ∷ []) ys
  | false ↦ some_there most x xs ys
]

-- made owners are live where the owners so far are
owned_led : (live : List ℕ) (most n : ℕ) (owners : List ℕ) → among n live ≡ true → list_all (λ m. among m live) owners ≡ true
    → (not (is_ownerless (owners_led_by live most n owners)) && list_all (λ m. among m live) (owners_led_by live most n owners)) ≡ true
unfolding owners_led_by
owned_led live most n owners inside all =
    let p = λ (m : ℕ). among m live in
    let ys = owners ++ from_next live n in
    let all_next : list_all p (from_next live n) ≡ true = all_append p (filter (nat_lt n) live) (filter (λ m. nat_le m n) live) (all_filter p (nat_lt n) live (all_live live)) (all_filter p (λ m. nat_le m n) live (all_live live)) in
    and_from (not (is_ownerless (fold (extended most) (n ∷ []) ys))) (list_all p (fold (extended most) (n ∷ []) ys)) (some_there most n [] ys)
    (all_extended p most (n ∷ []) ys (and_from (p n) true inside refl) (all_append p owners (from_next live n) all all_next))

-- what holds of each row by a test
pub all_rows : (p : List ℕ → Bool) (hash : Hash) → AllByRecursion (λ row. p row ≡ true) hash → list_all p hash ≡ true
all_rows p [] h = refl
all_rows p (row ∷ hash) h = and_from (p row) (list_all p hash) h.0 (all_rows p hash h.1)

-- a test that passes of a hash passes of each row
pub rows_all : (p : List ℕ → Bool) (hash : Hash) → list_all p hash ≡ true → AllByRecursion (λ row. p row ≡ true) hash
rows_all p [] h = tt
rows_all p (row ∷ hash) h = let parts = and_parts (p row) (list_all p hash) h in (parts.0, rows_all p hash parts.1)

-- nothing is asked of a row here
any_rows : (hash : Hash) → AllByRecursion (λ (row : List ℕ). Unit {0}) hash
any_rows [] = tt
any_rows (row ∷ hash) = (tt, any_rows hash)

-- in the hash that moves least each segment has as many owners as are asked for, or as there are live nodes
pub full_least : (live : List ℕ) (owners : ℕ) (hash : Hash) → IsDistinct nat_eq live → 0 < length live → 0 < owners
    → AllByRecursion (λ row. length row ≡ min owners (length live)) (least live owners hash)
unfolding least
full_least live owners hash d some one_at_least =
    rows_seated (λ row. length row ≡ min owners (length live)) (λ row. Unit {0}) live (owners_led_by live (min owners (length live))) (target live hash) (shortage live hash) hash d (target_at_live live hash)
    (λ n row inside h. length_led live (min owners (length live)) n row d (omega arith) (omega arith)) (shortage_in_all live hash d some) (any_rows hash)

-- in the hash that moves least each segment has an owner, and each owner lives, where each owner so far does
pub owned_least : (live : List ℕ) (owners : ℕ) (hash : Hash) → IsDistinct nat_eq live → 0 < length live → 0 < owners → list_all (λ row. list_all (λ n. among n live) row) hash ≡ true
    → is_owned_by live (least live owners hash) ≡ true
unfolding least
owned_least live owners hash d some one_at_least all =
    all_rows (λ row. not (is_ownerless row) && list_all (λ n. among n live) row) (least live owners hash)
    (rows_seated (λ row. (not (is_ownerless row) && list_all (λ n. among n live) row) ≡ true) (λ row. list_all (λ n. among n live) row ≡ true) live (owners_led_by live (min owners (length live))) (target live hash) (shortage live hash) hash d (target_at_live live hash)
    (λ n row inside h. owned_led live (min owners (length live)) n row inside h) (shortage_in_all live hash d some) (rows_all (λ row. list_all (λ n. among n live) row) hash all))

-- ---- a settled hash stays

-- where each node leads no more than it has room for, and making owners changes none, nothing changes
seated_stays : (live : List ℕ) (row : ℕ → List ℕ → List ℕ) (room short : ℕ → ℕ) (hash : Hash) → ((n : ℕ) → among n live ≡ true → load hash n ≤ room n)
    → AllByRecursion (λ owners. (is_led_by live owners ≡ true) × (row (slice_index owners 0) owners ≡ owners)) hash → seated live row room short hash ≡ hash
seated_stays live row room short [] within h = refl
seated_stays live row room short (owners ∷ hash) within h =
    let n = slice_index owners 0 in
    let k = first_short live short in
    let first = leader live owners h.0.0 in
    let room_left : keeps room owners ≡ true = kept owners first.1 (omega (arith, within n first.0, load-cons owners hash n, ap one first.1)) in
    ap (λ b. cond b (row n owners ∷ seated live row (one_less room n) short hash) (row k owners ∷ seated live row room (one_less short k) hash)) room_left
    ∙ (λ i. h.0.1 i ∷ seated_stays live row (one_less room n) short hash (λ m inside. step owners hash n m first.1 (within m inside)) h.1 i)
  where
    none_led : (xs : List ℕ) → is_led_by xs [] ≡ true → ⊥
    none_led [] h = absurd (cc)
    none_led (y ∷ ys) h = none_led ys h

    leader : (xs owners : List ℕ) → is_led_by xs owners ≡ true → (among (slice_index owners 0) xs ≡ true) × (leads (slice_index owners 0) owners ≡ true)
    leader [] owners h = absurd (cc)
    leader (x ∷ xs) [] h = absurd (none_led xs h)
    leader (x ∷ xs) (n ∷ owners) h = elim (or_cases (n == x) (list_any (λ m. leads m (n ∷ owners)) xs) h) [
      | inl here ↦ (or_left (x == n) (among n xs) (eq-eqb x n (sym (eqb-true n x here))), eq-eqb n n refl)
      | inr later ↦ (or_right (x == n) (among n xs) (leader xs (n ∷ owners) later).0, eq-eqb n n refl)
    ]

    kept : (owners : List ℕ) → leads (slice_index owners 0) owners ≡ true → 0 < room (slice_index owners 0) → keeps room owners ≡ true
    kept [] led some = absurd (cc)
    kept (n ∷ owners) led some = lt-ltb 0 (room n) some

    step : (owners : List ℕ) (hash : Hash) (n m : ℕ) → leads n owners ≡ true → load (owners ∷ hash) m ≤ room m → load hash m ≤ one_less room n m
    step owners hash n m led h = elim (cases_eq n m) [
      | inl same ↦ omega (arith, less_here room n m same, h, load-cons owners hash m, ap one (ap (λ k. leads k owners) (sym same) ∙ led))
      | inr apart ↦ omega (arith, less_apart room n m apart, h, load-cons owners hash m)
    ]

-- owners that are so many aren't extended
full_stays : (most : ℕ) (xs ys : List ℕ) → most ≤ length xs → fold (extended most) xs ys ≡ xs
full_stays most xs [] h = refl
full_stays most xs (y ∷ ys) h = ap (λ b. fold (extended most) (cond (b && not (among y xs)) (xs ++ y ∷ []) xs) ys) (le-ltb (length xs) most h) ∙ full_stays most xs ys h

-- nodes that aren't there and have room are all put behind
all_put : (most : ℕ) (xs ys : List ℕ) → length xs + length ys ≤ most → IsDistinct nat_eq ys → AllByRecursion (λ y. among y xs ≡ false) ys → fold (extended most) xs ys ≡ xs ++ ys
unfolding IsDistinct
all_put most xs [] h d out = sym (append-nil xs)
all_put most xs (y ∷ ys) h d out =
    ap (λ b. fold (extended most) (cond b (xs ++ y ∷ []) xs) ys) (and_from (nat_lt (length xs) most) (not (among y xs)) (lt-ltb (length xs) most (omega arith)) (not_from_false (among y xs) out.0))
    ∙ all_put most (xs ++ y ∷ []) ys (omega (arith, h, length-append xs (y ∷ []))) d.1 (still_out ys out.1 d.0)
    ∙ append_assoc xs (y ∷ []) ys
  where
    still_out : (zs : List ℕ) → AllByRecursion (λ z. among z xs ≡ false) zs → AllByRecursion (λ z. nat_eq y z ≡ false) zs → AllByRecursion (λ z. among z (xs ++ y ∷ []) ≡ false) zs
    still_out [] h k = tt
    still_out (z ∷ zs) h k = (list_any-append (λ m. m == z) xs (y ∷ []) ∙ or_from (among z xs) (among z (y ∷ [])) h.0 (or_from (y == z) false k.0 refl), still_out zs h.1 k.1)

-- owners without repetition, so many, and led by their first, are made the same
led_stays : (live : List ℕ) (most : ℕ) (owners : List ℕ) → 0 < most → IsFullRow most owners → owners_led_by live most (slice_index owners 0) owners ≡ owners
unfolding owners_led_by IsDistinct
led_stays live most [] some row = absurd (omega (arith, some, row.full))
led_stays live most (n ∷ owners) some row =
    let ys = from_next live n in
    ap (λ b. fold (extended most) (cond b (n ∷ n ∷ []) (n ∷ [])) (owners ++ ys)) (and_right (nat_lt 1 most) (not (among n (n ∷ []))) (not_from_true (among n (n ∷ [])) (or_left (n == n) false (eq-eqb n n refl))))
    ∙ fold-append (extended most) (n ∷ []) owners ys
    ∙ ap (λ xs. fold (extended most) xs ys) (all_put most (n ∷ []) owners (omega (arith, row.full)) row.distinct.1 (apart owners row.distinct.0))
    ∙ full_stays most (n ∷ owners) ys (omega (arith, row.full))
  where
    apart : (zs : List ℕ) → AllByRecursion (λ z. nat_eq n z ≡ false) zs → AllByRecursion (λ z. among z (n ∷ []) ≡ false) zs
    apart [] h = tt
    apart (z ∷ zs) h = (or_from (n == z) false h.0 refl, apart zs h.1)

-- what is among the first list is among as many from both, or more
among_front : (n k : ℕ) (xs ys : List ℕ) → length xs ≤ k → among n xs ≡ true → among n (take k (xs ++ ys)) ≡ true
among_front n k [] ys h inside = absurd (cc)
among_front n zero (x ∷ xs) ys h inside = absurd (omega arith)
among_front n (suc k) (x ∷ xs) ys h inside = elim (or_cases (x == n) (among n xs) inside) [
  | inl here ↦ or_left (x == n) (among n (take k (xs ++ ys))) here
  | inr later ↦ or_right (x == n) (among n (take k (xs ++ ys))) (among_front n k xs ys (omega arith) later)
]

-- of a balanced hash each live node leads no more than it is to
within_target : (live : List ℕ) (hash : Hash) → IsDistinct nat_eq live → 0 < length live → is_balanced live hash ≡ true → (n : ℕ) → among n live ≡ true → load hash n ≤ target live hash n
within_target live hash d some balanced n inside =
    let q = even_share live hash in
    let parts = and_parts (list_all (is_led_by live) hash) (list_all (λ n. (load hash n == q) || (load hash n == q + 1)) live) balanced in
    let each = all_each (λ n. (load hash n == q) || (load hash n == q + 1)) live parts.1 in
    let least = each_then (λ n. ((load hash n == q) || (load hash n == q + 1)) ≡ true) (λ n. q ≤ load hash n) live each (λ n h. (share (load hash n) q h).0) in
    let few = few_heavy live hash d some least in
    let most = (share (load hash n) q (at_member n live each inside)).1 in
    elim (cases_lt q (load hash n)) [
      | inl more ↦
          let favours : among n (favoured live hash) ≡ true = among_front n (left_over live hash) (filter (is_heavy live hash) live) (filter (is_light live hash) live)
          (omega (arith, few, length-filter (is_heavy live hash) live)) (among_filter (is_heavy live hash) n live inside (lt-ltb q (load hash n) more)) in
          omega (arith, most, target_of_live live hash n inside, ap one favours)
      | inr no_more ↦ omega (arith, no_more, target_of_live live hash n inside)
    ]
  where
    share : (p q : ℕ) → ((p == q) || (p == q + 1)) ≡ true → (q ≤ p) × (p ≤ q + 1)
    share p q h = elim (or_cases (p == q) (p == q + 1) h) [
      | inl level ↦ (omega (arith, eqb-true p q level), omega (arith, eqb-true p q level))
      | inr more ↦ (omega (arith, eqb-true p (q + 1) more), omega (arith, eqb-true p (q + 1) more))
    ]

    at_member : (m : ℕ) (xs : List ℕ) → AllByRecursion (λ n. ((load hash n == even_share live hash) || (load hash n == even_share live hash + 1)) ≡ true) xs → among m xs ≡ true → ((load hash m == even_share live hash) || (load hash m == even_share live hash + 1)) ≡ true
    at_member m [] h inside = absurd (cc)
    at_member m (x ∷ xs) h inside = elim (or_cases (x == m) (among m xs) inside) [
      | inl here ↦ ap (λ k. (load hash k == even_share live hash) || (load hash k == even_share live hash + 1)) (sym (eqb-true x m here)) ∙ h.0
      | inr later ↦ at_member m xs h.1 later
    ]

-- a balanced hash in which each segment has as many owners as are asked for, or as there are live nodes, stays
pub least_settled : (live : List ℕ) (owners : ℕ) (hash : Hash) → IsDistinct nat_eq live → 0 < length live → 0 < owners → is_balanced live hash ≡ true
    → AllByRecursion (IsFullRow (min owners (length live))) hash → least live owners hash ≡ hash
unfolding least
least_settled live owners hash d some one_at_least balanced full =
    let most = min owners (length live) in
    let parts = and_parts (list_all (is_led_by live) hash) (list_all (λ n. (load hash n == even_share live hash) || (load hash n == even_share live hash + 1)) live) balanced in
    seated_stays live (owners_led_by live most) (target live hash) (shortage live hash) hash (within_target live hash d some balanced)
    (pairs hash (rows_all (is_led_by live) hash parts.0) full)
  where
    pairs : (rows : Hash) → AllByRecursion (λ row. is_led_by live row ≡ true) rows → AllByRecursion (IsFullRow (min owners (length live))) rows
        → AllByRecursion (λ row. (is_led_by live row ≡ true) × (owners_led_by live (min owners (length live)) (slice_index row 0) row ≡ row)) rows
    pairs [] h k = tt
    pairs (row ∷ rows) h k = ((h.0, led_stays live (min owners (length live)) row (omega arith) k.0), pairs rows h.1 k.1)

-- what each made row has, whichever node leads it
pub any_seated : (P : List ℕ → Type 0) (live : List ℕ) (row : ℕ → List ℕ → List ℕ) (room short : ℕ → ℕ) (hash : Hash) → ((n : ℕ) (owners : List ℕ) → P (row n owners)) → AllByRecursion P (seated live row room short hash)
any_seated P live row room short [] made = tt
any_seated P live row room short (owners ∷ hash) made =
    let n = slice_index owners 0 in
    let k = first_short live short in
    elim (keeps room owners) as (λ b. AllByRecursion P (cond b (row n owners ∷ seated live row (one_less room n) short hash) (row k owners ∷ seated live row room (one_less short k) hash))) [
      | true ↦ (made n owners, any_seated P live row (one_less room n) short hash made)
      | false ↦ (made k owners, any_seated P live row room (one_less short k) hash made)
    ]

-- each row is as short as all are
row_at : (most : ℕ) (hash : Hash) (s : ℕ) → AllByRecursion (λ row. length row ≤ most) hash → length (owners_at hash s) ≤ most
row_at most [] s h = omega arith
row_at most (row ∷ hash) zero h = h.0
row_at most (row ∷ hash) (suc s) h = row_at most hash s h.1

-- in the hash that moves least no segment has more owners than were asked for
pub few_least : (live : List ℕ) (owners : ℕ) (hash : Hash) (s : ℕ) → 0 < length live → 0 < owners → length (owners_at (least live owners hash) s) ≤ owners
unfolding least owners_led_by
few_least live owners hash s some one_at_least =
    let most = min owners (length live) in
    let few = row_at most (least live owners hash) s (any_seated (λ row. length row ≤ most) live (owners_led_by live most) (target live hash) (shortage live hash) hash (λ n row. few_extended most (n ∷ []) (row ++ from_next live n) (omega arith))) in
    omega (arith, few)
