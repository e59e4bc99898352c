-- Which pieces fit: of three pieces, if two that are joined fit the third, so it is in the other
-- groups.
use Rattle.std.proofs.Common.{◌≡◌, ℕ, ◌+◌, Bool, true, false, cond, ◌⊎◌, inl, inr, Option, Some, None, refl, sym, ◌∙◌, ap, true≢false, arith}
use Rattle.std.specs.Prelude.{nat_lt, ◌^◌}
use Rattle.std.specs.Ordering.{is_lt, ord_min, ord_max}
use Rattle.std.proofs.lemmas.Bool.Decides.{nat_tests}
use Rattle.grid_base.specs.declared.datum.Datum.{Datum}
use Rattle.grid_base.specs.declared.datum.Datum.TheVariants as datum
use Rattle.pipeline_eval.specs.Values.{datum_cmp}
use Rattle.pipeline_eval.specs.Lists.{either_by}
use Rattle.pipeline_split.specs.Pieces.{fitting, joined, comparable}
use Rattle.pipeline_split.specs.declared.piece.Piece.{Piece}
use Rattle.pipeline_split.specs.declared.piece.Piece.TheVariants.{Nothing, Count, Sum, Min, Max, «List» as Items}

-- values that compare to one another compare to the same others
alike : (a b : Datum) (c : Option Datum) → comparable (Some a) (Some b) ≡ true → comparable (Some b) c ≡ comparable (Some a) c
alike (datum.Int m) (datum.Int n) None p = refl
alike (datum.Int m) (datum.Int n) (Some (datum.Int k)) p = refl
alike (datum.Int m) (datum.Int n) (Some (datum.Text t)) p = refl
alike (datum.Int m) (datum.Int n) (Some (datum.Flag b)) p = refl
alike (datum.Text s) (datum.Text t) None p = refl
alike (datum.Text s) (datum.Text t) (Some (datum.Int k)) p = refl
alike (datum.Text s) (datum.Text t) (Some (datum.Text u)) p = refl
alike (datum.Text s) (datum.Text t) (Some (datum.Flag b)) p = refl
alike _ _ c p = absurd (true≢false (sym p))

back : (a b : Datum) → comparable (Some a) (Some b) ≡ true → comparable (Some b) (Some a) ≡ true
back (datum.Int m) (datum.Int n) p = refl
back (datum.Text s) (datum.Text t) p = refl
back _ _ p = absurd (true≢false (sym p))

turned : (a b : Option Datum) → comparable a b ≡ comparable b a
turned None None = refl
turned None (Some b) = refl
turned (Some a) None = refl
turned (Some (datum.Int m)) (Some (datum.Int n)) = refl
turned (Some (datum.Int m)) (Some (datum.Text t)) = refl
turned (Some (datum.Int m)) (Some (datum.Flag b)) = refl
turned (Some (datum.Text s)) (Some (datum.Int n)) = refl
turned (Some (datum.Text s)) (Some (datum.Text t)) = refl
turned (Some (datum.Text s)) (Some (datum.Flag b)) = refl
turned (Some (datum.Flag b)) (Some (datum.Int n)) = refl
turned (Some (datum.Flag b)) (Some (datum.Text t)) = refl
turned (Some (datum.Flag b)) (Some (datum.Flag c)) = refl

-- a rule gives one of the two values
abbrev pub Chooses : (Datum → Datum → Datum) → Type 0
Chooses rule = (a b : Datum) → (rule a b ≡ a) ⊎ (rule a b ≡ b)

pub least_chooses : Chooses (ord_min datum_cmp)
least_chooses a b = by (is_lt (datum_cmp b a))
  where
    by : (x : Bool) → (cond x b a ≡ a) ⊎ (cond x b a ≡ b)
    by true = inr refl
    by false = inl refl

pub greatest_chooses : Chooses (ord_max datum_cmp)
greatest_chooses a b = by (is_lt (datum_cmp b a))
  where
    by : (x : Bool) → (cond x a b ≡ a) ⊎ (cond x a b ≡ b)
    by true = inl refl
    by false = inr refl

module _ (rule : Datum → Datum → Datum) (chooses : Chooses rule) where
  -- what is chosen of two values compares as the first does
  chosen : (a b : Datum) (c : Option Datum) → comparable (Some a) (Some b) ≡ true → comparable (Some (rule a b)) c ≡ comparable (Some a) c
  chosen a b c p = elim (chooses a b) [ inl e ↦ ap (λ d. comparable (Some d) c) e | inr e ↦ ap (λ d. comparable (Some d) c) e ∙ alike a b c p ]

  -- from the front: a fits b, and what is chosen of them fits c
  from_front : (a b c : Option Datum) → comparable a b ≡ true → comparable (either_by rule a b) c ≡ true → (comparable b c ≡ true) × (comparable a (either_by rule b c) ≡ true)
  from_front None b c p q = (q, refl)
  from_front (Some a) None c p q = (refl, q)
  from_front (Some a) (Some b) None p q = (refl, p)
  from_front (Some a) (Some b) (Some c) p q =
      let first : comparable (Some a) (Some c) ≡ true = sym (chosen a b (Some c) p) ∙ q in
      let second : comparable (Some b) (Some c) ≡ true = alike a b (Some c) p ∙ first in
      (second, turned (Some a) (Some (rule b c)) ∙ chosen b c (Some a) second ∙ back a b p)

  -- from behind: b fits c, and a fits what is chosen of them
  from_behind : (a b c : Option Datum) → comparable b c ≡ true → comparable a (either_by rule b c) ≡ true → (comparable a b ≡ true) × (comparable (either_by rule a b) c ≡ true)
  from_behind None b c p q = (refl, p)
  from_behind (Some a) None c p q = (refl, q)
  from_behind (Some a) (Some b) None p q = (q, refl)
  from_behind (Some a) (Some b) (Some c) p q =
      let second : comparable (Some b) (Some a) ≡ true = sym (chosen b c (Some a) p) ∙ turned (Some (rule b c)) (Some a) ∙ q in
      let first : comparable (Some a) (Some b) ≡ true = back b a second in
      (first, chosen a b (Some c) first ∙ sym (alike a b (Some c) first) ∙ p)

counts_front : (a b c : ℕ) → nat_lt (a + b) (2 ^ 64) ≡ true → nat_lt ((a + b) + c) (2 ^ 64) ≡ true → (nat_lt (b + c) (2 ^ 64) ≡ true) × (nat_lt (a + (b + c)) (2 ^ 64) ≡ true)
counts_front a b c p q = (grind (arith, nat_tests), grind (arith, nat_tests))

counts_behind : (a b c : ℕ) → nat_lt (b + c) (2 ^ 64) ≡ true → nat_lt (a + (b + c)) (2 ^ 64) ≡ true → (nat_lt (a + b) (2 ^ 64) ≡ true) × (nat_lt ((a + b) + c) (2 ^ 64) ≡ true)
counts_behind a b c p q = (grind (arith, nat_tests), grind (arith, nat_tests))

-- where a piece fits a second and their join fits a third, the second fits the third, and the first
-- fits the join of these
pub fits_front : (a b c : Piece) → fitting a b ≡ true → fitting (joined a b) c ≡ true → (fitting b c ≡ true) × (fitting a (joined b c) ≡ true)
fits_front Nothing b c p q = (q, refl)
fits_front (Count x) Nothing c p q = (refl, q)
fits_front (Count x) (Count y) Nothing p q = (refl, p)
fits_front (Count x) (Count y) (Count z) p q = counts_front x y z p q
fits_front (Count x) (Count y) _ p q = absurd (true≢false (sym q))
fits_front (Count x) _ c p q = absurd (true≢false (sym p))
fits_front (Sum x) Nothing c p q = (refl, q)
fits_front (Sum x) (Sum y) Nothing p q = (refl, p)
fits_front (Sum x) (Sum y) (Sum z) p q = (refl, refl)
fits_front (Sum x) (Sum y) _ p q = absurd (true≢false (sym q))
fits_front (Sum x) _ c p q = absurd (true≢false (sym p))
fits_front (Min x) Nothing c p q = (refl, q)
fits_front (Min x) (Min y) Nothing p q = (refl, p)
fits_front (Min x) (Min y) (Min z) p q = from_front (ord_min datum_cmp) least_chooses x y z p q
fits_front (Min x) (Min y) _ p q = absurd (true≢false (sym q))
fits_front (Min x) _ c p q = absurd (true≢false (sym p))
fits_front (Max x) Nothing c p q = (refl, q)
fits_front (Max x) (Max y) Nothing p q = (refl, p)
fits_front (Max x) (Max y) (Max z) p q = from_front (ord_max datum_cmp) greatest_chooses x y z p q
fits_front (Max x) (Max y) _ p q = absurd (true≢false (sym q))
fits_front (Max x) _ c p q = absurd (true≢false (sym p))
fits_front (Items x) Nothing c p q = (refl, q)
fits_front (Items x) (Items y) Nothing p q = (refl, p)
fits_front (Items x) (Items y) (Items z) p q = (refl, refl)
fits_front (Items x) (Items y) _ p q = absurd (true≢false (sym q))
fits_front (Items x) _ c p q = absurd (true≢false (sym p))

-- where a second piece fits a third and a first one fits their join, the first fits the second, and
-- their join fits the third
pub fits_behind : (a b c : Piece) → fitting b c ≡ true → fitting a (joined b c) ≡ true → (fitting a b ≡ true) × (fitting (joined a b) c ≡ true)
fits_behind Nothing b c p q = (refl, p)
fits_behind (Count x) Nothing c p q = (refl, q)
fits_behind (Count x) (Count y) Nothing p q = (q, refl)
fits_behind (Count x) (Count y) (Count z) p q = counts_behind x y z p q
fits_behind (Count x) (Count y) _ p q = absurd (true≢false (sym p))
fits_behind (Sum x) Nothing c p q = (refl, q)
fits_behind (Sum x) (Sum y) Nothing p q = (q, refl)
fits_behind (Sum x) (Sum y) (Sum z) p q = (refl, refl)
fits_behind (Sum x) (Sum y) _ p q = absurd (true≢false (sym p))
fits_behind (Min x) Nothing c p q = (refl, q)
fits_behind (Min x) (Min y) Nothing p q = (q, refl)
fits_behind (Min x) (Min y) (Min z) p q = from_behind (ord_min datum_cmp) least_chooses x y z p q
fits_behind (Min x) (Min y) _ p q = absurd (true≢false (sym p))
fits_behind (Max x) Nothing c p q = (refl, q)
fits_behind (Max x) (Max y) Nothing p q = (q, refl)
fits_behind (Max x) (Max y) (Max z) p q = from_behind (ord_max datum_cmp) greatest_chooses x y z p q
fits_behind (Max x) (Max y) _ p q = absurd (true≢false (sym p))
fits_behind (Items x) Nothing c p q = (refl, q)
fits_behind (Items x) (Items y) Nothing p q = (q, refl)
fits_behind (Items x) (Items y) (Items z) p q = (refl, refl)
fits_behind (Items x) (Items y) _ p q = absurd (true≢false (sym p))
fits_behind (Count x) (Sum y) Nothing p q = absurd (true≢false (sym q))
fits_behind (Count x) (Sum y) (Sum z) p q = absurd (true≢false (sym q))
fits_behind (Count x) (Sum y) _ p q = absurd (true≢false (sym p))
fits_behind (Count x) (Min y) Nothing p q = absurd (true≢false (sym q))
fits_behind (Count x) (Min y) (Min z) p q = absurd (true≢false (sym q))
fits_behind (Count x) (Min y) _ p q = absurd (true≢false (sym p))
fits_behind (Count x) (Max y) Nothing p q = absurd (true≢false (sym q))
fits_behind (Count x) (Max y) (Max z) p q = absurd (true≢false (sym q))
fits_behind (Count x) (Max y) _ p q = absurd (true≢false (sym p))
fits_behind (Count x) (Items y) Nothing p q = absurd (true≢false (sym q))
fits_behind (Count x) (Items y) (Items z) p q = absurd (true≢false (sym q))
fits_behind (Count x) (Items y) _ p q = absurd (true≢false (sym p))
fits_behind (Sum x) (Count y) Nothing p q = absurd (true≢false (sym q))
fits_behind (Sum x) (Count y) (Count z) p q = absurd (true≢false (sym q))
fits_behind (Sum x) (Count y) _ p q = absurd (true≢false (sym p))
fits_behind (Sum x) (Min y) Nothing p q = absurd (true≢false (sym q))
fits_behind (Sum x) (Min y) (Min z) p q = absurd (true≢false (sym q))
fits_behind (Sum x) (Min y) _ p q = absurd (true≢false (sym p))
fits_behind (Sum x) (Max y) Nothing p q = absurd (true≢false (sym q))
fits_behind (Sum x) (Max y) (Max z) p q = absurd (true≢false (sym q))
fits_behind (Sum x) (Max y) _ p q = absurd (true≢false (sym p))
fits_behind (Sum x) (Items y) Nothing p q = absurd (true≢false (sym q))
fits_behind (Sum x) (Items y) (Items z) p q = absurd (true≢false (sym q))
fits_behind (Sum x) (Items y) _ p q = absurd (true≢false (sym p))
fits_behind (Min x) (Count y) Nothing p q = absurd (true≢false (sym q))
fits_behind (Min x) (Count y) (Count z) p q = absurd (true≢false (sym q))
fits_behind (Min x) (Count y) _ p q = absurd (true≢false (sym p))
fits_behind (Min x) (Sum y) Nothing p q = absurd (true≢false (sym q))
fits_behind (Min x) (Sum y) (Sum z) p q = absurd (true≢false (sym q))
fits_behind (Min x) (Sum y) _ p q = absurd (true≢false (sym p))
fits_behind (Min x) (Max y) Nothing p q = absurd (true≢false (sym q))
fits_behind (Min x) (Max y) (Max z) p q = absurd (true≢false (sym q))
fits_behind (Min x) (Max y) _ p q = absurd (true≢false (sym p))
fits_behind (Min x) (Items y) Nothing p q = absurd (true≢false (sym q))
fits_behind (Min x) (Items y) (Items z) p q = absurd (true≢false (sym q))
fits_behind (Min x) (Items y) _ p q = absurd (true≢false (sym p))
fits_behind (Max x) (Count y) Nothing p q = absurd (true≢false (sym q))
fits_behind (Max x) (Count y) (Count z) p q = absurd (true≢false (sym q))
fits_behind (Max x) (Count y) _ p q = absurd (true≢false (sym p))
fits_behind (Max x) (Sum y) Nothing p q = absurd (true≢false (sym q))
fits_behind (Max x) (Sum y) (Sum z) p q = absurd (true≢false (sym q))
fits_behind (Max x) (Sum y) _ p q = absurd (true≢false (sym p))
fits_behind (Max x) (Min y) Nothing p q = absurd (true≢false (sym q))
fits_behind (Max x) (Min y) (Min z) p q = absurd (true≢false (sym q))
fits_behind (Max x) (Min y) _ p q = absurd (true≢false (sym p))
fits_behind (Max x) (Items y) Nothing p q = absurd (true≢false (sym q))
fits_behind (Max x) (Items y) (Items z) p q = absurd (true≢false (sym q))
fits_behind (Max x) (Items y) _ p q = absurd (true≢false (sym p))
fits_behind (Items x) (Count y) Nothing p q = absurd (true≢false (sym q))
fits_behind (Items x) (Count y) (Count z) p q = absurd (true≢false (sym q))
fits_behind (Items x) (Count y) _ p q = absurd (true≢false (sym p))
fits_behind (Items x) (Sum y) Nothing p q = absurd (true≢false (sym q))
fits_behind (Items x) (Sum y) (Sum z) p q = absurd (true≢false (sym q))
fits_behind (Items x) (Sum y) _ p q = absurd (true≢false (sym p))
fits_behind (Items x) (Min y) Nothing p q = absurd (true≢false (sym q))
fits_behind (Items x) (Min y) (Min z) p q = absurd (true≢false (sym q))
fits_behind (Items x) (Min y) _ p q = absurd (true≢false (sym p))
fits_behind (Items x) (Max y) Nothing p q = absurd (true≢false (sym q))
fits_behind (Items x) (Max y) (Max z) p q = absurd (true≢false (sym q))
fits_behind (Items x) (Max y) _ p q = absurd (true≢false (sym p))
