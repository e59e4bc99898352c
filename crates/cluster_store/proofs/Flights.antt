-- Sets of segments, one a node, as one of them changes.
use Rattle.std.proofs.Common.{◌≡◌, ℕ, zero, suc, ◌<◌, ◌≤◌, ◌==◌, Bool, true, false, ◌&&◌, ◌||◌, not, List, [], ◌∷◌, length, get_or, set, slice_get, Option, None, Some, refl, sym, ap, subst, ◌∙◌, arith, inl, inr}
use Rattle.std.proofs.lemmas.Bool.{cases_eq, cases_lt, ne_eqb, eq-eqb}
use Rattle.std.proofs.lemmas.List.{get_or-set_same, get_or-set_other, length-set}
use Rattle.std.proofs.lemmas.Option.{slice_get-get_or, slice_get_past}
use Rattle.std.specs.Bool.{⊤}
use Rattle.std.specs.Cmp.{nat_cmp_total, unsigned_ties}
use Rattle.std.specs.FinSet as set_of
use Rattle.std.specs.Ordering.{nat_cmp, eq_by_cmp}
use Rattle.cluster_store.specs.Hints.{IsWith, IsWithout, in_set}
use Rattle.cluster_store.specs.declared.hints.flying.Flying.TheVariants.{To}

abbrev Set : Type 0
Set = set_of.FinSet nat_cmp

-- of two numbers the order and the test for equality say the same
tied : (x y : ℕ) → eq_by_cmp nat_cmp x y ≡ (x == y)
tied x y = sym (unsigned_ties x y)

module _ (sets : List Set) (i : ℕ) (next : Set) where
  -- at its place stands the changed set
  at_place : i < length sets → slice_get (set sets i next) i ≡ Some next
  at_place within =
      slice_get-get_or (set sets i next) i next (subst (λ n. i < n) (sym (length-set sets i next)) within) ∙ ap Some (get_or-set_same sets i next next within)

  -- at each other place that of before
  elsewhere : (r : ℕ) → (r ≡ i → ⊥) → slice_get (set sets i next) r ≡ slice_get sets r
  elsewhere r other = elim (cases_lt r (length sets)) [
    | inl within ↦
        slice_get-get_or (set sets i next) r next (subst (λ n. r < n) (sym (length-set sets i next)) within)
        ∙ ap Some (get_or-set_other sets i r next next other)
        ∙ sym (slice_get-get_or sets r next within)
    | inr past ↦ slice_get_past (set sets i next) r (subst (λ n. n ≤ r) (sym (length-set sets i next)) past) ∙ sym (slice_get_past sets r past)
  ]

-- neither of two tests that fail together
neither : (a b : Bool) → (a || b) ≡ false → (a ≡ false) × (b ≡ false)
neither true b e = absurd (cc)
neither false b e = (refl, e)

module _ (sets : List Set) (i segment : ℕ) (there : Set) (within : i < length sets) (is : there ≡ get_or sets i there) where
  found : slice_get sets i ≡ Some there
  found = slice_get-get_or sets i there within ∙ ap Some (sym is)

  -- a segment that is put into one of the sets is there as well
  put_in : IsWith (To sets) i segment (To (set sets i (set_of.insert there segment)))
  put_in r s none = elim (cases_eq r i) [
    | inl here ↦
        let without : set_of.contains (set_of.insert there segment) s ≡ false = sym (ap (λ o. in_set o s) (ap (slice_get (set sets i (set_of.insert there segment))) here ∙ at_place sets i (set_of.insert there segment) within)) ∙ none in
        let parts = neither (s == segment) (set_of.contains there s) (sym (set_of.contains-insert nat_cmp_total there segment s ∙ ap (λ b. b || set_of.contains there s) (tied s segment)) ∙ without) in
        (ap (λ b. (r == i) && b) parts.0 ∙ and_false (r == i), ap (λ o. in_set o s) (ap (slice_get sets) here ∙ found) ∙ parts.1)
    | inr other ↦
        (ap (λ b. b && (s == segment)) (ne_eqb r i other), sym (ap (λ o. in_set o s) (elsewhere sets i (set_of.insert there segment) r other)) ∙ none)
  ]
    where
      and_false : (b : Bool) → (b && false) ≡ false
      and_false true = refl
      and_false false = refl

  -- one that is taken out of one of them is there no longer, and nothing else changes
  taken_out : IsWithout (To sets) i segment (To (set sets i (set_of.remove there segment)))
  taken_out r s apart_from none = elim (cases_eq r i) [
    | inl here ↦
        let differ : (s == segment) ≡ false = sym (ap (λ b. b && (s == segment)) (eq-eqb r i here)) ∙ apart_from in
        let without : set_of.contains (set_of.remove there segment) s ≡ false = sym (ap (λ o. in_set o s) (ap (slice_get (set sets i (set_of.remove there segment))) here ∙ at_place sets i (set_of.remove there segment) within)) ∙ none in
        ap (λ o. in_set o s) (ap (slice_get sets) here ∙ found)
        ∙ sym (set_of.contains-remove nat_cmp_total there segment s ∙ ap (λ b. not b && set_of.contains there s) (tied s segment ∙ differ))
        ∙ without
    | inr other ↦ sym (ap (λ o. in_set o s) (elsewhere sets i (set_of.remove there segment) r other)) ∙ none
  ]

  -- the same at the place of a node, where the changed set is told
  pub sets_with : (node : ℕ) → i ≡ node → (next : Set) → next ≡ set_of.insert (get_or sets i there) segment → IsWith (To sets) node segment (To (set sets i next))
  sets_with node at next e =
      subst (λ n. IsWith (To sets) n segment (To (set sets i next))) at
      (subst (λ (n : Set). IsWith (To sets) i segment (To (set sets i n))) (ap (λ (x : Set). set_of.insert x segment) is ∙ sym e) put_in)

  pub sets_without : (node : ℕ) → i ≡ node → (next : Set) → next ≡ set_of.remove (get_or sets i there) segment → IsWithout (To sets) node segment (To (set sets i next))
  sets_without node at next e =
      subst (λ n. IsWithout (To sets) n segment (To (set sets i next))) at
      (subst (λ (n : Set). IsWithout (To sets) i segment (To (set sets i n))) (ap (λ (x : Set). set_of.remove x segment) is ∙ sym e) taken_out)

-- each set is empty
abbrev pub AreEmpty : List Set → Type 0
AreEmpty [] = ⊤
AreEmpty (one ∷ sets) = (one ≡ set_of.empty) × AreEmpty sets

-- where each set is empty, nothing flies
pub none_set : (sets : List Set) → AreEmpty sets → (r s : ℕ) → in_set (slice_get sets r) s ≡ false
none_set [] empty r s = refl
none_set (one ∷ sets) empty zero s = ap (λ (x : Set). set_of.contains x s) empty.0 ∙ set_of.contains-empty nat_cmp s
none_set (one ∷ sets) empty (suc r) s = none_set sets empty.1 r s
