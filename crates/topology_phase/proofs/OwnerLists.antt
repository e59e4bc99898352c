-- What is in a list of owners, and how such lists lie in place.
use Rattle.std.proofs.Common.{◌≡◌, ℕ, suc, zero, ◌+◌, ◌<◌, ◌≤◌, Bool, true, false, cond, not, ◌&&◌, ◌||◌, List, [], ◌∷◌, ◌++◌, length, take, drop, get_or, set, nat_eq, ◌==◌, filter, arith, refl, sym, ap, ◌∙◌, length-append, add-one}
use Rattle.std.proofs.lemmas.Bool.{eqb-true}
use Rattle.std.proofs.lemmas.List.{get_or-take, length-take-le, take-append-drop}
use Rattle.std.proofs.lemmas.List.Folds.{list_any-append, list_any_none}
use Rattle.std.proofs.lemmas.List.Elements.{filter-append, filter_more, All-from_get_or}
use Rattle.std.proofs.lemmas.Map.Keys.{apart_from_distinct}
use Rattle.std.proofs.lemmas.Map.Views.{any-filter_same}
use Rattle.std.proofs.Math.Seq.{take-suc-set}
use Rattle.std.specs.Cmp.{nat_eq_equiv}
use Rattle.std.specs.List.{list_any, filter, IsDistinct, range_with_len}
use Rattle.grid_base.specs.Padded.{pad}
use Rattle.topology_phase.specs.Owners.{among, joined}

-- who is in two lists, one after the other
pub among-append : (n : ℕ) (xs ys : List ℕ) → among n (xs ++ ys) ≡ (among n xs || among n ys)
among-append n xs ys = list_any-append (λ m. m == n) xs ys

-- who is in the part of a list that passes a test
pub among-filter : (n : ℕ) (p : ℕ → Bool) (xs : List ℕ) → among n (filter p xs) ≡ (p n && among n xs)
among-filter n p xs = any-filter_same (λ m. m == n) p (p n) (λ k e. ap p (eqb-true k n e)) xs

-- what is so, or else something, is either
kept_or : (a b : Bool) → (a || (not a && b)) ≡ (a || b)
kept_or true b = refl
kept_or false b = refl

-- who is in a joined list is in one of the two
pub among-joined : (n : ℕ) (xs ys : List ℕ) → among n (joined xs ys) ≡ (among n xs || among n ys)
unfolding joined
among-joined n xs ys =
    among-append n xs (filter (λ m. not (among m xs)) ys)
    ∙ ap (λ b. among n xs || b) (among-filter n (λ m. not (among m xs)) ys)
    ∙ kept_or (among n xs) (among n ys)

-- the test of `contains`, read either way round
pub among_flipped : (n : ℕ) (xs : List ℕ) → list_any (nat_eq n) xs ≡ among n xs
among_flipped n xs = λ i. list_any (λ m. nat_eq_equiv.symm n m i) xs

-- where no two are alike, the one at a place isn't among those before it
pub absent_before : (xs : List ℕ) (i : ℕ) → IsDistinct nat_eq xs → i < length xs → among (get_or xs i 0) (take i xs) ≡ false
absent_before xs i distinct within =
    list_any_none (λ m. m == get_or xs i 0) (take i xs)
    (All-from_get_or (λ m. (m == get_or xs i 0) ≡ false) (take i xs) 0 (λ k h.
    let short : length (take i xs) ≡ i = length-take-le i xs (omega arith) in
    let below : k < i = omega (arith, short) in
    ap (λ m. m == get_or xs i 0) (get_or-take i xs k 0 below) ∙ apart_from_distinct nat_eq xs k i 0 distinct below within))

-- nor among those of them that pass a test
pub absent_filtered : (p : ℕ → Bool) (xs : List ℕ) (i : ℕ) → IsDistinct nat_eq xs → i < length xs → among (get_or xs i 0) (filter p (take i xs)) ≡ false
absent_filtered p xs i distinct within = among-filter (get_or xs i 0) p (take i xs) ∙ ap (λ b. p (get_or xs i 0) && b) (absent_before xs i distinct within) ∙ never (p (get_or xs i 0))
  where
    never : (b : Bool) → (b && false) ≡ false
    never true = refl
    never false = refl

-- a list's part that passes is as long as its first places have, or longer
pub filter_longer : (p : ℕ → Bool) (xs : List ℕ) (i : ℕ) → i < length xs → p (get_or xs i 0) ≡ true → length (filter p (take i xs)) < length (filter p xs)
filter_longer p xs i within passes =
    let more = filter_more p xs i 0 within in
    let one : length (filter p (take (i + 1) xs)) ≡ length (filter p (take i xs)) + 1 =
    ap length more ∙ length-append (filter p (take i xs)) (cond (p (get_or xs i 0)) (get_or xs i 0 ∷ []) []) ∙ ap (λ b. length (filter p (take i xs)) + length (cond b (get_or xs i 0 ∷ []) [])) passes in
    let whole = ap length (sym (filter-append p (take (i + 1) xs) (drop (i + 1) xs)) ∙ ap (filter p) (take-append-drop (i + 1) xs)) in
    omega (arith, one, whole, length-append (filter p (take (i + 1) xs)) (filter p (drop (i + 1) xs)))

-- one more byte behind those that zeros fill up
pub pad-push : (k : ℕ) (xs : List ℕ) (n : ℕ) → length xs < k → pad k (xs ++ n ∷ []) ≡ set (pad k xs) (length xs) n
unfolding pad
pad-push zero xs n h = absurd (omega arith)
pad-push (suc k) [] n h = refl
pad-push (suc k) (x ∷ xs) n h = ap (λ zs. x ∷ zs) (pad-push k xs n (omega arith))

-- the places up to one that is set
pub taken_after_set : (xs : List ℕ) (i n : ℕ) → i < length xs → take (i + 1) (set xs i n) ≡ take i xs ++ n ∷ []
taken_after_set xs i n h = ap (λ k. take k (set xs i n)) (add-one i) ∙ take-suc-set xs i n h

-- the part of a list that passes is no longer than the list
pub filter_short : (p : ℕ → Bool) (xs : List ℕ) → length (filter p xs) ≤ length xs
filter_short p [] = omega arith
filter_short p (x ∷ xs) = elim (p x) as (λ b. length (cond b (x ∷ filter p xs) (filter p xs)) ≤ length (x ∷ xs)) [ true ↦ omega (arith, filter_short p xs) | false ↦ omega (arith, filter_short p xs) ]

-- a joined list is no longer than the two together
pub joined_short : (xs ys : List ℕ) → length (joined xs ys) ≤ length xs + length ys
unfolding joined
joined_short xs ys = omega (arith, length-append xs (filter (λ n. not (among n xs)) ys), filter_short (λ n. not (among n xs)) ys)

-- one more number behind those in a row
pub range_push : (a n : ℕ) → range_with_len a (suc n) ≡ range_with_len a n ++ (a + n) ∷ []
range_push a zero = ap (λ k. k ∷ []) (omega arith)
range_push a (suc n) = ap (λ ks. a ∷ ks) (range_push (a + 1) n ∙ ap (λ k. range_with_len (a + 1) n ++ k ∷ []) (omega arith))

-- those of the numbers in a row that pass a test, with one more number
pub filter_range_more : (p : ℕ → Bool) (n : ℕ) → filter p (range_with_len 0 (n + 1)) ≡ filter p (range_with_len 0 n) ++ filter p (n ∷ [])
filter_range_more p n =
    ap (λ k. filter p (range_with_len 0 k)) (add-one n)
    ∙ ap (filter p) (range_push 0 n ∙ ap (λ k. range_with_len 0 n ++ k ∷ []) (omega arith))
    ∙ filter-append p (range_with_len 0 n) (n ∷ [])
