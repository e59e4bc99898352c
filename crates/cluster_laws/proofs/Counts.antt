-- How many elements of lists pass a test.
use Rattle.std.proofs.Common.{◌≡◌, ℕ, suc, zero, ◌+◌, ◌≤◌, ◌<◌, ◌==◌, Bool, true, false, ◌||◌, cond, if◌then◌else◌, ◌⊎◌, inl, inr, List, [], ◌∷◌, map, refl, ap, arith}
use Rattle.std.proofs.lemmas.Bool.{eqb-true, ne_eqb, or_parts}
use Rattle.std.specs.List.{AllByRecursion, filter, list_any, range_with_len}
use Rattle.cluster_model.specs.Evidence.{how_many}

-- a test that is passed counts one at most
pub one_at_most : (b : Bool) → cond {A = ℕ} b 1 0 ≤ 1
one_at_most true = omega arith
one_at_most false = omega arith

-- where each that passes after a change passed one of two tests before, no more pass it than passed the two
pub count_split : {A B : Type 0} (p : B → Bool) (q r : A → Bool) (change : A → B) (xs : List A) → AllByRecursion (λ x. p (change x) ≡ true → (q x ≡ true) ⊎ (r x ≡ true)) xs →
    how_many p (map change xs) ≤ how_many q xs + how_many r xs
count_split p q r change [] h = omega arith
count_split p q r change (x ∷ xs) h = let rest = count_split p q r change xs h.1 in let one = one_le (p (change x)) (q x) (r x) h.0 in omega arith
  where
    one_le : (a b c : Bool) → (a ≡ true → (b ≡ true) ⊎ (c ≡ true)) → cond {A = ℕ} a 1 0 ≤ cond {A = ℕ} b 1 0 + cond {A = ℕ} c 1 0
    one_le false b c f = omega arith
    one_le true b c f = elim (f refl) [ inl e ↦ (let g = ap (λ t. cond {A = ℕ} t 1 0) e in omega arith) | inr e ↦ (let g = ap (λ t. cond {A = ℕ} t 1 0) e in omega arith) ]

-- where each that passes after a change passed before, no more pass
pub count_changed : {A B : Type 0} (p : B → Bool) (q : A → Bool) (change : A → B) (xs : List A) → AllByRecursion (λ x. p (change x) ≡ true → q x ≡ true) xs → how_many p (map change xs) ≤ how_many q xs
count_changed p q change [] h = omega arith
count_changed p q change (x ∷ xs) h = let rest = count_changed p q change xs h.1 in let one = one_le (p (change x)) (q x) h.0 in omega arith
  where
    one_le : (a b : Bool) → (a ≡ true → b ≡ true) → cond {A = ℕ} a 1 0 ≤ cond {A = ℕ} b 1 0
    one_le false b f = omega arith
    one_le true b f = let g = ap (λ t. cond {A = ℕ} t 1 0) (f refl) in omega arith

-- where none passes, none is counted
pub count_none : {A : Type 0} (p : A → Bool) (xs : List A) → AllByRecursion (λ x. p x ≡ false) xs → how_many p xs ≡ 0
count_none p [] h = refl
count_none p (x ∷ xs) h = let rest = count_none p xs h.1 in let one = ap (λ t. cond {A = ℕ} t 1 0) h.0 in omega arith

-- where none is found that passes, none is counted
pub count_not_any : {A : Type 0} (p : A → Bool) (xs : List A) → list_any p xs ≡ false → how_many p xs ≡ 0
count_not_any p [] h = refl
count_not_any p (x ∷ xs) h =
    let parts : (p x ≡ false) × (list_any p xs ≡ false) = or_parts (p x) (list_any p xs) h in
    let rest = count_not_any p xs parts.1 in let one = ap (λ t. cond {A = ℕ} t 1 0) parts.0 in omega arith

-- where one passes, one is counted
pub count_any : {A : Type 0} (p : A → Bool) (xs : List A) → list_any p xs ≡ true → 1 ≤ how_many p xs
count_any p [] h = absurd (cc)
count_any p (x ∷ xs) h = by_head (p x) refl h (λ e. count_any p xs e)
  where
    by_head : (b : Bool) → p x ≡ b → (b || list_any p xs) ≡ true → (list_any p xs ≡ true → 1 ≤ how_many p xs) → 1 ≤ cond {A = ℕ} (p x) 1 0 + how_many p xs
    by_head true e t f = let one = ap (λ t. cond {A = ℕ} t 1 0) e in omega arith
    by_head false e t f = let rest = f t in omega arith

-- no more pass of what is left by a filter
pub count_filtered : {A : Type 0} (p q : A → Bool) (xs : List A) → how_many p (filter q xs) ≤ how_many p xs
count_filtered p q [] = omega arith
count_filtered p q (x ∷ xs) = by_test (q x) (count_filtered p q xs)
  where
    by_test : (b : Bool) → how_many p (filter q xs) ≤ how_many p xs → how_many p (if b then x ∷ filter q xs else filter q xs) ≤ cond {A = ℕ} (p x) 1 0 + how_many p xs
    by_test true h = omega arith
    by_test false h = omega arith

-- a number that a filter leaves out isn't left
pub count_left_out : (q : ℕ → Bool) (s : ℕ) → q s ≡ false → (xs : List ℕ) → how_many (λ x. x == s) (filter q xs) ≡ 0
count_left_out q s e [] = refl
count_left_out q s e (x ∷ xs) = by_test (q x) refl (x == s) refl (count_left_out q s e xs)
  where
    by_test : (b : Bool) → q x ≡ b → (t : Bool) → (x == s) ≡ t → how_many (λ x. x == s) (filter q xs) ≡ 0 → how_many (λ x. x == s) (if b then x ∷ filter q xs else filter q xs) ≡ 0
    by_test true k true t h = let same = ap q (eqb-true x s t) in absurd (cc)
    by_test true k false t h = let one = ap (λ t. cond {A = ℕ} t 1 0) t in omega arith
    by_test false k b t h = h

-- a number is at most once in a row, and not where the row begins behind it
pub row_past : (a n s : ℕ) → s < a → how_many (λ x. x == s) (range_with_len a n) ≡ 0
row_past a zero s h = refl
row_past a (suc n) s h =
    let one = ap (λ t. cond {A = ℕ} t 1 0) (ne_eqb a s (λ e. omega arith)) in let rest = row_past (a + 1) n s (omega arith) in omega arith

-- and it is in the row once at most
pub row_once : (a n s : ℕ) → how_many (λ x. x == s) (range_with_len a n) ≤ 1
row_once a zero s = omega arith
row_once a (suc n) s = by_test (a == s) refl (row_once (a + 1) n s)
  where
    by_test : (b : Bool) → (a == s) ≡ b → how_many (λ x. x == s) (range_with_len (a + 1) n) ≤ 1 → cond {A = ℕ} b 1 0 + how_many (λ x. x == s) (range_with_len (a + 1) n) ≤ 1
    by_test true t h = let rest = row_past (a + 1) n s (let e = eqb-true a s t in omega arith) in omega arith
    by_test false t h = omega arith

-- where no element passes two tests and each that passes one passes a third, no more pass the two than pass the third
pub count_apart : {A : Type 0} (p q r : A → Bool) → ((x : A) → cond {A = ℕ} (p x) 1 0 + cond {A = ℕ} (q x) 1 0 ≤ cond {A = ℕ} (r x) 1 0) → (xs : List A) → how_many p xs + how_many q xs ≤ how_many r xs
count_apart p q r f [] = omega arith
count_apart p q r f (x ∷ xs) = let rest = count_apart p q r f xs in let one = f x in omega arith
