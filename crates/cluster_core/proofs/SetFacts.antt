-- What is told of a set by its members.
use Rattle.std.proofs.Common.{◌≡◌, ℕ, zero, suc, ◌+◌, ◌<◌, ◌==◌, Bool, true, false, cond, [], ◌∷◌, filter, Some, None, refl, sym, ap, ◌∙◌, arith, true≢false}
use Rattle.std.proofs.lemmas.Bool.Decides.{nat_tests}
use Rattle.std.specs.FinSet as set_of
use Rattle.std.specs.FinSet.{same_set, len-empty, empty_of_len, contains-empty}
use Rattle.std.specs.Cmp.{nat_cmp_total}
use Rattle.std.specs.Ordering.{nat_cmp}
use Rattle.std.specs.List.{range_with_len}
use Rattle.grid_base.specs.declared.limits.TheConstants.{MOST_SEGMENTS}
use Rattle.cluster_model.specs.Answers.{first_of, least_of}

-- a set without members
pub without_members : (s : set_of.FinSet nat_cmp) → ((k : ℕ) → set_of.contains s k ≡ false) → s ≡ set_of.empty
without_members s none = same_set nat_cmp_total set_of.nat_cmp-IsAntisymmetric s set_of.empty (λ k. none k ∙ sym (contains-empty nat_cmp k))

-- it has no element
pub no_elements : (s : set_of.FinSet nat_cmp) → ((k : ℕ) → set_of.contains s k ≡ false) → (set_of.len s == 0) ≡ true
no_elements s none = ap (λ n. n == 0) (ap set_of.len (without_members s none) ∙ len-empty nat_cmp)

-- a set with a member has an element
some_count : (s : set_of.FinSet nat_cmp) (k n : ℕ) → set_of.contains s k ≡ true → set_of.len s ≡ n → (n == 0) ≡ false
some_count s k zero member e = absurd (true≢false (sym member ∙ ap (λ t. set_of.contains t k) (empty_of_len s e) ∙ contains-empty nat_cmp k))
some_count s k (suc n) member e = grind (arith, nat_tests)

-- a set with a member isn't empty
pub some_elements : (s : set_of.FinSet nat_cmp) (k : ℕ) → set_of.contains s k ≡ true → (set_of.len s == 0) ≡ false
some_elements s k member = some_count s k (set_of.len s) member refl

-- none of the numbers passes
none_pass : (p : ℕ → Bool) (from n : ℕ) → ((k : ℕ) → p k ≡ false) → filter p (range_with_len from n) ≡ []
none_pass p from zero none = refl
none_pass p from (suc n) none = ap (λ b. cond b (from ∷ filter p (range_with_len (from + 1) n)) (filter p (range_with_len (from + 1) n))) (none from) ∙ none_pass p (from + 1) n none

-- the first number that passes
first_pass : (p : ℕ → Bool) (from n d : ℕ) → d < n → p (from + d) ≡ true → ((k : ℕ) → k < d → p (from + k) ≡ false) → first_of (filter p (range_with_len from n)) ≡ Some (from + d)
first_pass p from zero d within passes before = absurd (omega (arith, within))
first_pass p from (suc n) zero within passes before =
    let here : p from ≡ true = ap p (omega arith) ∙ passes in
    ap (λ b. first_of (cond b (from ∷ filter p (range_with_len (from + 1) n)) (filter p (range_with_len (from + 1) n)))) here ∙ ap (λ k. Some k) (omega arith)
first_pass p from (suc n) (suc d) within passes before =
    let here : p from ≡ false = ap p (omega arith) ∙ before 0 (omega arith) in
    ap (λ b. first_of (cond b (from ∷ filter p (range_with_len (from + 1) n)) (filter p (range_with_len (from + 1) n)))) here
    ∙ first_pass p (from + 1) n d (omega (arith, within)) (ap p (omega arith) ∙ passes) (λ k h. ap p (omega arith) ∙ before (suc k) (omega (arith, h)))
    ∙ ap (λ k. Some k) (omega arith)

-- an empty set has no least member
pub least_none : (s : set_of.FinSet nat_cmp) → ((k : ℕ) → set_of.contains s k ≡ false) → least_of s ≡ None
unfolding least_of
least_none s none = ap first_of (none_pass (set_of.contains s) 0 MOST_SEGMENTS none)

-- a member is the least where no smaller one is there
pub least_some : (s : set_of.FinSet nat_cmp) (x : ℕ) → x < MOST_SEGMENTS → set_of.contains s x ≡ true → ((k : ℕ) → k < x → set_of.contains s k ≡ false) → least_of s ≡ Some x
unfolding least_of
least_some s x within member before =
    first_pass (set_of.contains s) 0 MOST_SEGMENTS x within (ap (set_of.contains s) (omega arith) ∙ member) (λ k h. ap (set_of.contains s) (omega arith) ∙ before k h) ∙ ap (λ k. Some k) (omega arith)
