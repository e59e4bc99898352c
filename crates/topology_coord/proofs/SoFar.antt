-- A set of the numbers so far that pass a test, with one number more.
use Rattle.std.proofs.Common.{◌≡◌, ℕ, ◌+◌, Bool, true, false, ◌&&◌, ◌||◌, nat_lt, arith, sym, ap, ◌∙◌, inl, inr}
use Rattle.std.proofs.lemmas.Bool.{cases_eq}
use Rattle.std.proofs.lemmas.Bool.Decides.{nat_tests}
use Rattle.std.specs.Cmp.{nat_cmp_total}
use Rattle.std.specs.Ordering.{nat_cmp, eq_by_cmp}
use Rattle.std.specs.FinSet as set_of
use Rattle.std.specs.FinSet.{FinSet}
use Rattle.grid_base.specs.Nodes.{apart, alike}

-- no number is below 0
below_none : (q : ℕ) → nat_lt q 0 ≡ false
below_none q = grind (arith, nat_tests)

-- a number is below the next one
below_next : (n : ℕ) → nat_lt n (n + 1) ≡ true
below_next n = grind (arith, nat_tests)

-- another number is below the next one exactly where it is below this one
below_other : (q n : ℕ) → (q ≡ n → ⊥) → nat_lt q (n + 1) ≡ nat_lt q n
below_other q n differ = grind (arith, nat_tests)

-- no number is below itself
below_itself : (n : ℕ) → nat_lt n n ≡ false
below_itself n = grind (arith, nat_tests)

-- the numbers so far that pass the test are in the set
abbrev pub IsSoFar : (ℕ → Bool) → ℕ → FinSet nat_cmp → Type 0
IsSoFar p n s = (q : ℕ) → set_of.contains s q ≡ (nat_lt q n && p q)

-- at first there are none
pub none_so_far : (p : ℕ → Bool) (s : FinSet nat_cmp) → s ≡ set_of.empty → IsSoFar p 0 s
none_so_far p s e q = ap (λ t. set_of.contains t q) e ∙ set_of.contains-empty nat_cmp q ∙ sym (ap (λ b. b && p q) (below_none q))

-- a number that fails is left out
pub skip_so_far : (p : ℕ → Bool) (n : ℕ) (s : FinSet nat_cmp) → IsSoFar p n s → p n ≡ false → IsSoFar p (n + 1) s
skip_so_far p n s h fails q = h q ∙ elim (cases_eq q n) [
  | inl same ↦ ap (λ k. nat_lt k n && p k) same ∙ ap (λ b. b && p n) (below_itself n) ∙ sym (ap (λ k. nat_lt k (n + 1) && p k) same ∙ ap (λ b. nat_lt n (n + 1) && b) fails ∙ ap (λ b. b && false) (below_next n))
  | inr differ ↦ ap (λ b. b && p q) (sym (below_other q n differ))
]

-- a number that passes is put in
pub add_so_far : (p : ℕ → Bool) (n : ℕ) (s t : FinSet nat_cmp) → IsSoFar p n s → t ≡ set_of.insert s n → p n ≡ true → IsSoFar p (n + 1) t
add_so_far p n s t h e passes q =
    ap (λ u. set_of.contains u q) e ∙ set_of.contains-insert nat_cmp_total s n q ∙ elim (cases_eq q n) [
      | inl same ↦ ap (λ b. b || set_of.contains s q) (ap (λ k. eq_by_cmp nat_cmp k n) same ∙ alike n) ∙ sym (ap (λ k. nat_lt k (n + 1) && p k) same ∙ ap (λ b. b && p n) (below_next n) ∙ passes)
      | inr differ ↦ ap (λ b. b || set_of.contains s q) (apart q n differ) ∙ h q ∙ ap (λ b. b && p q) (sym (below_other q n differ))
    ]
