-- Units are numbered from 1 on, in their order.
use Rattle.std.proofs.Common.{◌≡◌, ℕ, suc, ◌+◌, ◌<◌, ◌==◌, Bool, true, false, cond, List, [], ◌∷◌, ◌++◌, map, length, Option, None, Some, refl, ap, ◌∙◌, arith, subst}
use Rattle.std.proofs.lemmas.Bool.Decides.{nat_tests}
use Rattle.std.specs.List.{AllByRecursion, find}
use Rattle.std.specs.Bool.{⊤}
use Rattle.cluster_model.specs.State.{Unit}
use Rattle.cluster_laws.proofs.Lists.{each_imply}

-- the units are numbered from n on
abbrev pub NumberedFrom : ℕ → List Unit → Type 0
NumberedFrom n [] = ⊤
NumberedFrom n (unit ∷ units) = (unit.work.id ≡ n) × NumberedFrom (suc n) units

-- further units that are numbered on keep the numbering
pub numbered-append : (n : ℕ) (xs ys : List Unit) → NumberedFrom n xs → NumberedFrom (n + length xs) ys → NumberedFrom n (xs ++ ys)
numbered-append n [] ys a b = subst (λ m. NumberedFrom m ys) (omega arith) b
numbered-append n (x ∷ xs) ys a b =
    (a.0, numbered-append (suc n) xs ys a.1 (subst (λ m. NumberedFrom m ys) (omega arith) b))

-- a change that keeps numbers keeps the numbering
pub numbered-map : (change : Unit → Unit) → ((unit : Unit) → (change unit).work.id ≡ unit.work.id) → (n : ℕ) (units : List Unit) → NumberedFrom n units → NumberedFrom n (map change units)
numbered-map change keeps n [] a = tt
numbered-map change keeps n (unit ∷ units) a = (keeps unit ∙ a.0, numbered-map change keeps (suc n) units a.1)

-- a lower number is no unit's
pub none_below : (m n : ℕ) → m < n → (units : List Unit) → NumberedFrom n units → AllByRecursion (λ (unit : Unit). (unit.work.id == m) ≡ false) units
none_below m n h [] a = tt
none_below m n h (unit ∷ units) a =
    (let e : unit.work.id ≡ n = a.0 in grind (arith, nat_tests), none_below m (suc n) (omega arith) units a.1)

-- the unit that is found by a number is the only one that has it
pub found_alone : (m n : ℕ) (units : List Unit) (found : Unit) → NumberedFrom n units → find (λ (unit : Unit). unit.work.id == m) units ≡ Some found →
    AllByRecursion (λ (unit : Unit). (unit.work.id == m) ≡ true → unit ≡ found) units
found_alone m n [] found a e = tt
found_alone m n (unit ∷ units) found a e = by_head (unit.work.id == m) refl e (λ there. found_alone m (suc n) units found a.1 there)
  where
    by_head : (b : Bool) → (unit.work.id == m) ≡ b → cond b (Some unit) (find (λ (u : Unit). u.work.id == m) units) ≡ Some found →
        (find (λ (u : Unit). u.work.id == m) units ≡ Some found → AllByRecursion (λ (u : Unit). (u.work.id == m) ≡ true → u ≡ found) units) →
        AllByRecursion (λ (u : Unit). (u.work.id == m) ≡ true → u ≡ found) (unit ∷ units)
    by_head true t here further =
        let same : unit ≡ found = ap (λ o. either_unit o) here in (
          (λ here. same),
          each_imply (λ (u : Unit). (u.work.id == m) ≡ false) (λ (u : Unit). (u.work.id == m) ≡ true → u ≡ found) (λ u differs same. absurd (cc)) units
              (none_below m (suc n) (let e : unit.work.id ≡ n = a.0 in let f : unit.work.id ≡ m = grind (arith, nat_tests) in omega arith) units a.1),
        )
      where
        either_unit : Option Unit → Unit
        either_unit None = unit
        either_unit (Some other) = other
    by_head false t there further = ((λ here. absurd (cc)), further there)
