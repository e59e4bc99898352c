-- Lists of which something holds of each element, and how many elements pass a test.
use Rattle.std.proofs.Common.{◌≡◌, ℕ, ◌+◌, ◌≤◌, Bool, true, false, cond, List, [], ◌∷◌, ◌++◌, map, refl, ap, arith}
use Rattle.std.specs.List.{AllByRecursion}
use Rattle.cluster_model.specs.Evidence.{how_many}

-- what holds of each of two lists holds of both together
pub each-append : {A : Type 0} (P : A → Type 0) (xs ys : List A) → AllByRecursion P xs → AllByRecursion P ys → AllByRecursion P (xs ++ ys)
each-append P [] ys a b = b
each-append P (x ∷ xs) ys a b = (a.0, each-append P xs ys a.1 b)

-- where one follows from the other of each element, so it does of the list
pub each_imply : {A : Type 0} (P Q : A → Type 0) → ((x : A) → P x → Q x) → (xs : List A) → AllByRecursion P xs → AllByRecursion Q xs
each_imply P Q f [] a = tt
each_imply P Q f (x ∷ xs) a = (f x a.0, each_imply P Q f xs a.1)

-- two facts of each element give a third of each that is changed
pub each_changed : {A B : Type 0} (P Q : A → Type 0) (R : B → Type 0) (change : A → B) →
    ((x : A) → P x → Q x → R (change x)) → (xs : List A) → AllByRecursion P xs → AllByRecursion Q xs → AllByRecursion R (map change xs)
each_changed P Q R change f [] a b = tt
each_changed P Q R change f (x ∷ xs) a b = (f x a.0 b.0, each_changed P Q R change f xs a.1 b.1)

-- two facts of each element give a third of each
pub each_both : {A : Type 0} (P Q R : A → Type 0) → ((x : A) → P x → Q x → R x) → (xs : List A) → AllByRecursion P xs → AllByRecursion Q xs → AllByRecursion R xs
each_both P Q R f [] a b = tt
each_both P Q R f (x ∷ xs) a b = (f x a.0 b.0, each_both P Q R f xs a.1 b.1)

-- what is true of anything is true of each
pub each_any : {A : Type 0} (P : A → Type 0) → ((x : A) → P x) → (xs : List A) → AllByRecursion P xs
each_any P f [] = tt
each_any P f (x ∷ xs) = (f x, each_any P f xs)

-- how many pass of two lists together
pub how_many-append : {A : Type 0} (test : A → Bool) (xs ys : List A) → how_many test (xs ++ ys) ≡ how_many test xs + how_many test ys
how_many-append test [] ys = omega arith
how_many-append test (x ∷ xs) ys = let h = how_many-append test xs ys in omega arith

-- where each that passes one test passes the other, no more pass the one
pub how_many_le : {A : Type 0} (p q : A → Bool) → ((x : A) → p x ≡ true → q x ≡ true) → (xs : List A) → how_many p xs ≤ how_many q xs
how_many_le p q f [] = omega arith
how_many_le p q f (x ∷ xs) =
    let h = how_many_le p q f xs in let one = one_le (p x) (q x) (f x) in omega arith
  where
    one_le : (a b : Bool) → (a ≡ true → b ≡ true) → cond {A = ℕ} a 1 0 ≤ cond {A = ℕ} b 1 0
    one_le false b g = omega arith
    one_le true b g = let e : cond {A = ℕ} b 1 0 ≡ 1 = ap (λ t. cond {A = ℕ} t 1 0) (g refl) in omega arith
