-- The units of lost segments, segment by segment.
use Rattle.std.proofs.Common.{◌≡◌, ℕ, ◌+◌, ◌≤◌, Bool, true, false, ◌&&◌, ◌||◌, refl, sym, ◌∙◌, ap, Some, None, Option, arith, inl, inr, nat_cmp}
use Rattle.std.proofs.lemmas.Bool.{cases_lt}
use Rattle.std.proofs.lemmas.Bool.Decides.{nat_tests}
use Rattle.std.specs.Borrow.{Bor}
use Rattle.std.specs.BTreeSet.{BTreeSet}
use Rattle.std.specs.FinMap as map
use Rattle.std.specs.FinSet as set
use Rattle.std.specs.Option.{option_map_or, option_copied}
use Rattle.std.specs.Prelude.{◌==◌, nat_lt}
use Rattle.loss_listener.specs.declared.place.Place.{Place}
use Rattle.loss_listener.specs.Index.{set_has, lent_has}
use Rattle.loss_listener.specs.Registered.{Registered, is_place, is_registered, is_lost}

-- whether the unit is registered at the node on one of the segments that are below n
abbrev pub is_lost_below : Registered → ℕ → set.FinSet nat_cmp → ℕ → ℕ → Bool
is_lost_below units node segments n unit = option_map_or (λ place. (node == place.node) && (set.contains segments place.segment && nat_lt place.segment n)) (map.get units unit) false

-- what was lent has what it points to
pub lent_copied : (units : Option (Bor (BTreeSet ℕ))) (u : ℕ) → lent_has units u ≡ set_has (option_copied units) u
lent_copied None u = refl
lent_copied (Some units) u = refl

-- numbers that pass the test are equal
equal : (a b : ℕ) → (a == b) ≡ true → a ≡ b
equal a b h = grind (arith, nat_tests)

-- one more number is below the next one
below_next : (s n : ℕ) → nat_lt s (n + 1) ≡ (nat_lt s n || (n == s))
below_next s n = grind (arith, nat_tests)

-- tests that part at one of two cases
parted : (a c d l e : Bool) → (e ≡ true → c ≡ d) → (a && (c && (l || e))) ≡ ((a && (c && l)) || (d && (a && e)))
parted false c true l e h = refl
parted false c false l e h = refl
parted true c d l false h = unchanged c d l
  where
    unchanged : (c d l : Bool) → (c && (l || false)) ≡ ((c && l) || (d && false))
    unchanged true true true = refl
    unchanged true true false = refl
    unchanged true false true = refl
    unchanged true false false = refl
    unchanged false true l = refl
    unchanged false false l = refl
parted true c d l true h = ap (λ b. b && (l || true)) (h refl) ∙ (λ i. whole d l i) ∙ ap (λ b. (b && l) || (d && true)) (sym (h refl))
  where
    whole : (d l : Bool) → (d && (l || true)) ≡ ((d && l) || (d && true))
    whole true true = refl
    whole true false = refl
    whole false l = refl

-- with one more segment, the units that are lost are those that were, and those on that segment if it is lost
pub is_lost_below-next : (units : Registered) (node : ℕ) (segments : set.FinSet nat_cmp) (n u : ℕ) →
    (is_lost_below units node segments n u || (set.contains segments n && is_registered units node n u)) ≡ is_lost_below units node segments (n + 1) u
is_lost_below-next units node segments n u = by (map.get units u)
  where
    by : (o : Option Place) →
        (option_map_or (λ place. (node == place.node) && (set.contains segments place.segment && nat_lt place.segment n)) o false || (set.contains segments n && option_map_or (is_place node n) o false))
        ≡ option_map_or (λ place. (node == place.node) && (set.contains segments place.segment && nat_lt place.segment (n + 1))) o false
    by None = none (set.contains segments n)
      where
        none : (b : Bool) → (false || (b && false)) ≡ false
        none true = refl
        none false = refl
    by (Some place) =
        sym
        (ap (λ b. (node == place.node) && (set.contains segments place.segment && b)) (below_next place.segment n)
        ∙ parted (node == place.node) (set.contains segments place.segment) (set.contains segments n) (nat_lt place.segment n) (n == place.segment) (λ e. ap (set.contains segments) (sym (equal n place.segment e))))

-- no segment is below zero
pub is_lost_below-zero : (units : Registered) (node : ℕ) (segments : set.FinSet nat_cmp) (u : ℕ) → false ≡ is_lost_below units node segments 0 u
is_lost_below-zero units node segments u = by (map.get units u)
  where
    none : (a c l : Bool) → l ≡ false → false ≡ (a && (c && l))
    none true true l e = sym e
    none true false l e = refl
    none false c l e = refl

    by : (o : Option Place) → false ≡ option_map_or (λ place. (node == place.node) && (set.contains segments place.segment && nat_lt place.segment 0)) o false
    by None = refl
    by (Some place) = none (node == place.node) (set.contains segments place.segment) (nat_lt place.segment 0) (grind (arith, nat_tests))

-- all lost segments are below the first number from which on none is lost
pub is_lost-below : (units : Registered) (node : ℕ) (segments : set.FinSet nat_cmp) (n u : ℕ) → ((k : ℕ) → n ≤ k → set.contains segments k ≡ false) →
    is_lost_below units node segments n u ≡ is_lost units node segments u
is_lost-below units node segments n u bounded = by (map.get units u)
  where
    within : (s : ℕ) → (set.contains segments s && nat_lt s n) ≡ set.contains segments s
    within s =
        elim (cases_lt s n) [
          | inl h ↦ let test : nat_lt s n ≡ true = grind (arith, nat_tests) in ap (λ b. set.contains segments s && b) test ∙ kept (set.contains segments s)
          | inr h ↦ ap (λ b. b && nat_lt s n) (bounded s h) ∙ sym (bounded s h)
        ]
      where
        kept : (b : Bool) → (b && true) ≡ b
        kept true = refl
        kept false = refl

    by : (o : Option Place) → option_map_or (λ place. (node == place.node) && (set.contains segments place.segment && nat_lt place.segment n)) o false
        ≡ option_map_or (λ place. (node == place.node) && set.contains segments place.segment) o false
    by None = refl
    by (Some place) = ap (λ b. (node == place.node) && b) (within place.segment)

-- where no segment is lost, no unit is
pub is_lost-none : (units : Registered) (node : ℕ) (segments : set.FinSet nat_cmp) (u : ℕ) → ((k : ℕ) → set.contains segments k ≡ false) → false ≡ is_lost units node segments u
is_lost-none units node segments u none = by (map.get units u)
  where
    neither : (a c : Bool) → c ≡ false → false ≡ (a && c)
    neither true c e = sym e
    neither false c e = refl

    by : (o : Option Place) → false ≡ option_map_or (λ place. (node == place.node) && set.contains segments place.segment) o false
    by None = refl
    by (Some place) = neither (node == place.node) (set.contains segments place.segment) (none place.segment)
