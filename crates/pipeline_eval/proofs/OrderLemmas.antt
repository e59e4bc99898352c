-- The order of values is total, and the lesser and the greater of values in any groups are one.
use Rattle.std.proofs.Common.{◌≡◌, Bool, true, false, Option, Some, None, refl, sym, ◌∙◌, ap, subst, true≢false}
use Rattle.std.specs.declared.cmp.Ordering.{Ordering}
use Rattle.std.specs.declared.cmp.Ordering.TheVariants.{Less, Equal, Greater}
use Rattle.std.specs.Cmp.{IsTotalOrder, bool_cmp_total}
use Rattle.std.specs.Cmp.Lexicographic.{slice_cmp}
use Rattle.std.specs.Ordering.{is_lt, is_gt, ordering_then, ordering_reverse, on, then_cmp, int_cmp, nat_cmp, bool_cmp, ord_min, ord_max}
use Rattle.std.proofs.lemmas.Cmp.{upto, nat_cmp_total, int_cmp_total, on_total, then_total, nat_list_cmp_total}
use Rattle.grid_base.specs.declared.datum.Datum.{Datum}
use Rattle.grid_base.specs.declared.datum.Datum.TheVariants.{Int, Text, Flag}
use Rattle.pipeline_eval.specs.Values.{datum_cmp, rank, number_of, bytes_of, is_on}
use Rattle.pipeline_eval.specs.Lists.{either_by, lesser, greater}

-- an order, and then equality, is that order
then_same : (o : Ordering) → ordering_then o Equal ≡ o
then_same Less = refl
then_same Equal = refl
then_same Greater = refl

-- values compare by their kind, then by what they hold
abbrev by_parts : Datum → Datum → Ordering
by_parts = then_cmp (on rank nat_cmp) (then_cmp (on number_of int_cmp) (then_cmp (on bytes_of (slice_cmp nat_cmp)) (on is_on bool_cmp)))

-- this is the order of values
by_parts_is : (a b : Datum) → by_parts a b ≡ datum_cmp a b
by_parts_is (Int m) (Int n) = then_same (int_cmp m n)
by_parts_is (Int m) (Text t) = refl
by_parts_is (Int m) (Flag c) = refl
by_parts_is (Text s) (Int n) = refl
by_parts_is (Text s) (Text t) = then_same (slice_cmp nat_cmp s t)
by_parts_is (Text s) (Flag c) = refl
by_parts_is (Flag b) (Int n) = refl
by_parts_is (Flag b) (Text t) = refl
by_parts_is (Flag b) (Flag c) = refl

-- it is total
by_parts_total : IsTotalOrder by_parts
by_parts_total = then_total (on_total rank nat_cmp_total) (then_total (on_total number_of int_cmp_total) (then_total (on_total bytes_of nat_list_cmp_total) (on_total is_on bool_cmp_total)))

-- the order of values is total
pub datum_cmp_total : IsTotalOrder datum_cmp
datum_cmp_total = subst (λ R. IsTotalOrder R) (λ i a b. by_parts_is a b i) by_parts_total

-- greater, turned round, is less
gt_reversed : (o : Ordering) → is_gt (ordering_reverse o) ≡ is_lt o
gt_reversed Less = refl
gt_reversed Equal = refl
gt_reversed Greater = refl

-- what passes as less is Less
less_only : (o : Ordering) → is_lt o ≡ true → o ≡ Less
less_only Less h = refl
less_only Equal h = absurd (true≢false (sym h))
less_only Greater h = absurd (true≢false (sym h))

module _ {K : Type 0} (R : K → K → Ordering) (total : IsTotalOrder R) where
  -- less, and less again, is less
  less_chain : (a b c : K) → is_lt (R a b) ≡ true → is_lt (R b c) ≡ true → is_lt (R a c) ≡ true
  less_chain a b c p q = ap is_lt (total.trans a b c (less_only (R a b) p) (less_only (R b c) q))

  -- less one way is greater the other way
  not_less : (a b : K) → is_lt (R a b) ≡ is_gt (R b a)
  not_less a b = sym (gt_reversed (R a b)) ∙ ap is_gt (sym (total.antisymm b a))

  -- not less, and again not less, is not less
  none_less : (a b c : K) → is_lt (R a b) ≡ false → is_lt (R b c) ≡ false → is_lt (R a c) ≡ false
  none_less a b c p q = not_less a c ∙ upto total c b a (sym (not_less b c) ∙ q) (sym (not_less a b) ∙ p)

  -- the lesser of three in two groups
  pub ord_min-assoc : (a b c : K) → ord_min R (ord_min R a b) c ≡ ord_min R a (ord_min R b c)
  ord_min-assoc a b c = by (is_lt (R b a)) (is_lt (R c b)) (is_lt (R c a)) refl refl refl
    where
      by : (x y z : Bool) → is_lt (R b a) ≡ x → is_lt (R c b) ≡ y → is_lt (R c a) ≡ z → ord_min R (ord_min R a b) c ≡ ord_min R a (ord_min R b c)
      by true true true p q r = simp (p, q, r) refl
      by true true false p q r = absurd (true≢false (sym (less_chain c b a q p) ∙ r))
      by true false z p q r = simp (p, q) refl
      by false true z p q r = simp (p, q, r) refl
      by false false true p q r = absurd (true≢false (sym r ∙ none_less c b a q p))
      by false false false p q r = simp (p, q, r) refl

  -- the greater of three in two groups
  pub ord_max-assoc : (a b c : K) → ord_max R (ord_max R a b) c ≡ ord_max R a (ord_max R b c)
  ord_max-assoc a b c = by (is_lt (R b a)) (is_lt (R c b)) (is_lt (R c a)) refl refl refl
    where
      by : (x y z : Bool) → is_lt (R b a) ≡ x → is_lt (R c b) ≡ y → is_lt (R c a) ≡ z → ord_max R (ord_max R a b) c ≡ ord_max R a (ord_max R b c)
      by true true true p q r = simp (p, q, r) refl
      by true true false p q r = absurd (true≢false (sym (less_chain c b a q p) ∙ r))
      by true false z p q r = simp (p, q, r) refl
      by false true z p q r = simp (p, q) refl
      by false false true p q r = absurd (true≢false (sym r ∙ none_less c b a q p))
      by false false false p q r = simp (p, q, r) refl

-- a choice of two by a rule that goes in any groups goes in any groups where values may be missing
either_by-assoc : (rule : Datum → Datum → Datum) → ((a b c : Datum) → rule (rule a b) c ≡ rule a (rule b c)) → (a b c : Option Datum) → either_by rule (either_by rule a b) c ≡ either_by rule a (either_by rule b c)
either_by-assoc rule h None b c = refl
either_by-assoc rule h (Some a) None None = refl
either_by-assoc rule h (Some a) None (Some c) = refl
either_by-assoc rule h (Some a) (Some b) None = refl
either_by-assoc rule h (Some a) (Some b) (Some c) = ap (λ x. Some x) (h a b c)

-- the lesser of three values that may be missing, in two groups
pub lesser-assoc : (a b c : Option Datum) → lesser (lesser a b) c ≡ lesser a (lesser b c)
lesser-assoc = either_by-assoc (ord_min datum_cmp) (ord_min-assoc datum_cmp datum_cmp_total)

-- the greater of three values that may be missing, in two groups
pub greater-assoc : (a b c : Option Datum) → greater (greater a b) c ≡ greater a (greater b c)
greater-assoc = either_by-assoc (ord_max datum_cmp) (ord_max-assoc datum_cmp datum_cmp_total)

-- a missing value changes none
pub lesser_none : (a : Option Datum) → lesser a None ≡ a
lesser_none None = refl
lesser_none (Some a) = refl

-- the greater of a value and none is the value
pub greater_none : (a : Option Datum) → greater a None ≡ a
greater_none None = refl
greater_none (Some a) = refl
