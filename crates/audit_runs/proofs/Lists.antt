-- Tests that each element of a list passes.
use Rattle.std.proofs.Common.{◌≡◌, ℕ, ◌==◌, Bool, true, false, ◌&&◌, if◌then◌else◌, List, [], ◌∷◌, ◌++◌, refl, ap}
use Rattle.std.proofs.lemmas.Bool.{and_from, and_parts, eq-eqb, or_left, or_right}
use Rattle.std.specs.List.{AllByRecursion, filter, list_all}
use Rattle.topology_phase.specs.Owners.{among}

-- a test that is passed alone
pub alone : (b : Bool) → b ≡ true → (b && true) ≡ true
alone b h = ap (λ a. a && true) h

-- a test that each element passes is passed by each that is left
pub all_filter : {A : Type 0} (p test : A → Bool) (xs : List A) → list_all p xs ≡ true → list_all p (filter test xs) ≡ true
all_filter p test [] h = refl
all_filter p test (x ∷ xs) h = let q = and_parts (p x) (list_all p xs) h in by_test (test x) q.0 (all_filter p test xs q.1)
  where
    by_test : (b : Bool) → p x ≡ true → list_all p (filter test xs) ≡ true
        → list_all p (if b then x ∷ filter test xs else filter test xs) ≡ true
    by_test true one rest = and_from (p x) (list_all p (filter test xs)) one rest
    by_test false one rest = rest

-- what is true of each number that is in a list is true of all of them
pub all_among : (p : ℕ → Bool) (xs : List ℕ) → ((n : ℕ) → among n xs ≡ true → p n ≡ true) → list_all p xs ≡ true
all_among p [] h = refl
all_among p (x ∷ xs) h =
    and_from (p x) (list_all p xs) (h x (or_left (x == x) (among x xs) (eq-eqb x x refl)))
    (all_among p xs (λ n there. h n (or_right (x == n) (among n xs) there)))

-- what holds of each element of two lists holds of each of the second
pub each_second : {A : Type 0} (P : A → Type 0) (xs ys : List A) → AllByRecursion P (xs ++ ys) → AllByRecursion P ys
each_second P [] ys h = h
each_second P (x ∷ xs) ys h = each_second P xs ys h.1
