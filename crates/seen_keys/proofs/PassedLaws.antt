-- What passes, key by key.
use Rattle.std.proofs.Common.{◌≡◌, ℕ, Bool, true, false, not, ◌&&◌, ◌||◌, List, [], ◌∷◌, ◌++◌, map, refl, sym, ◌∙◌, ap, subst}
use Rattle.std.proofs.lemmas.Map.Lookups.{CmpEqualImpliesEq, exact_pairs, exact_unsigned, exact_bytes}
use Rattle.std.specs.Prelude.{◌==◌}
use Rattle.std.specs.List.{list_any, IsDistinct}
use Rattle.std.specs.Ordering.{nat_cmp, eq_by_cmp}
use Rattle.std.specs.Cmp.{IsTotalOrder, nat_cmp_total, on_total, then_total, unsigned_ties, both_tied}
use Rattle.std.specs.Cmp.Lexicographic.{slice_cmp, nat_list_cmp_total, texts_ties}
use Rattle.std.specs.FinSet as set
use Rattle.grid_base.specs.declared.entry.Entry.{Entry}
use Rattle.grid_base.specs.Datum.{same_bytes}
use Rattle.seen_keys.specs.Passed.{Passed, delivery_cmp, has_passed, with_key, all_passed, without_segment}

-- pairs of a segment and a key are totally ordered
pub delivery_total : IsTotalOrder delivery_cmp
delivery_total = then_total (on_total (λ (d : ℕ × List ℕ). d.0) nat_cmp_total) (on_total (λ (d : ℕ × List ℕ). d.1) nat_list_cmp_total)

-- pairs that compare as equal are equal
pub delivery_exact : CmpEqualImpliesEq delivery_cmp
delivery_exact = exact_pairs nat_cmp (slice_cmp nat_cmp) exact_unsigned exact_bytes

-- pairs tie exactly where their segments are equal and their keys are the same
pub same_delivery : (m n : ℕ) (k j : List ℕ) → eq_by_cmp delivery_cmp (m, k) (n, j) ≡ ((m == n) && same_bytes k j)
same_delivery m n k j = sym (both_tied (m == n) (same_bytes k j) (nat_cmp m n) (slice_cmp nat_cmp k j) (unsigned_ties m n) (texts_ties k j))

-- a key has passed then where it is the one that passes, or had passed before
pub has_passed-with_key : (passed : Passed) (n : ℕ) (j : List ℕ) (m : ℕ) (k : List ℕ) →
    has_passed (with_key passed n j) m k ≡ (((m == n) && same_bytes k j) || has_passed passed m k)
has_passed-with_key passed n j m k = set.contains-insert delivery_total passed (n, j) (m, k) ∙ ap (λ b. b || has_passed passed m k) (same_delivery m n k j)

-- nothing is added by a test that fails
none_added : (a b : Bool) → b ≡ ((a && false) || b)
none_added true b = refl
none_added false b = refl

-- one key after others is one of them all
gathered : (a b c d : Bool) → ((a && c) || ((a && b) || d)) ≡ ((a && (b || c)) || d)
gathered true true true d = refl
gathered true true false d = refl
gathered true false true d = refl
gathered true false false d = refl
gathered false b c d = refl

-- a key has passed then where it is one of those that pass, or had passed before
pub has_passed-all_passed : (passed : Passed) (n : ℕ) (entries : List Entry) (m : ℕ) (k : List ℕ) →
    has_passed (all_passed passed n entries) m k ≡ (((m == n) && list_any (λ entry. same_bytes k entry.key) entries) || has_passed passed m k)
has_passed-all_passed passed n [] m k = none_added (m == n) (has_passed passed m k)
has_passed-all_passed passed n (entry ∷ entries) m k =
    let more : Bool = list_any (λ entry. same_bytes k entry.key) entries in
    has_passed-all_passed (with_key passed n entry.key) n entries m k
    ∙ ap (λ b. ((m == n) && more) || b) (has_passed-with_key passed n entry.key m k)
    ∙ gathered (m == n) (same_bytes k entry.key) more (has_passed passed m k)

-- after a segment is complete, a key has passed where it had and its segment is another one
pub has_passed-without_segment : (passed : Passed) (n m : ℕ) (k : List ℕ) → has_passed (without_segment passed n) m k ≡ (has_passed passed m k && not (m == n))
has_passed-without_segment passed n m k =
    set.contains-retain passed (λ delivery. not (delivery.0 == n)) (m, k) (λ x e. ap (λ (d : ℕ × List ℕ). not (d.0 == n)) (sym (delivery_exact (m, k) x e)))

-- the keys of a list of one entry differ
pub distinct_one : (before after : List Entry) (entry : Entry) → before ≡ [] → after ≡ before ++ entry ∷ [] → IsDistinct same_bytes (map (λ e. e.key) after)
unfolding IsDistinct
distinct_one before after entry none one =
    let whole : after ≡ entry ∷ [] = one ∙ ap (λ es. es ++ entry ∷ []) none in
    subst (λ es. IsDistinct same_bytes (map (λ (e : Entry). e.key) es)) (sym whole) (tt, tt)
