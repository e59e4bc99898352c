-- Pieces that fit one another join in any groups, and Nothing changes none.
use Rattle.std.proofs.Common.{◌≡◌, true, refl, sym, ◌∙◌, ap, true≢false, add_assoc, arith, append_assoc}
use Rattle.std.specs.Prelude.{ℤ, ◌+ℤ◌}
use Rattle.std.specs.Int.{w64}
use Rattle.std.proofs.lemmas.Int.{ints, int_wrap-add_left, int_wrap-add_right}
use Rattle.pipeline_eval.specs.Values.{wrapped}
use Rattle.pipeline_eval.proofs.OrderLemmas.{lesser-assoc, greater-assoc}
use Rattle.pipeline_split.specs.Pieces.{fitting, joined}
use Rattle.pipeline_split.specs.declared.piece.Piece.{Piece}
use Rattle.pipeline_split.specs.declared.piece.Piece.TheVariants.{Nothing, Count, Sum, Min, Max, «List» as Items}

-- Nothing fits every piece behind it
pub fitting_nothing : (a : Piece) → fitting a Nothing ≡ true
fitting_nothing Nothing = refl
fitting_nothing (Count n) = refl
fitting_nothing (Sum n) = refl
fitting_nothing (Min a) = refl
fitting_nothing (Max a) = refl
fitting_nothing (Items xs) = refl

-- Nothing behind a piece changes nothing
pub joined_nothing : (a : Piece) → joined a Nothing ≡ a
joined_nothing Nothing = refl
joined_nothing (Count n) = refl
joined_nothing (Sum n) = refl
joined_nothing (Min a) = refl
joined_nothing (Max a) = refl
joined_nothing (Items xs) = refl

wrapped-assoc : (a b c : ℤ) → wrapped (wrapped (a +ℤ b) +ℤ c) ≡ wrapped (a +ℤ wrapped (b +ℤ c))
wrapped-assoc a b c =
    let moved : (a +ℤ b) +ℤ c ≡ a +ℤ (b +ℤ c) = omega (arith, ints) in
    int_wrap-add_left w64 (a +ℤ b) c ∙ ap wrapped moved ∙ sym (int_wrap-add_right w64 a (b +ℤ c))

-- of three pieces, each of which fits those behind it, it doesn't matter which two are joined first
pub joined-assoc : (a b c : Piece) → fitting a b ≡ true → fitting b c ≡ true → joined (joined a b) c ≡ joined a (joined b c)
joined-assoc Nothing b c p q = refl
joined-assoc (Count l) Nothing c p q = refl
joined-assoc (Count l) (Count m) Nothing p q = refl
joined-assoc (Count l) (Count m) (Count n) p q = ap (λ k. Count k) (add_assoc l m n)
joined-assoc (Count l) (Count m) _ p q = absurd (true≢false (sym q))
joined-assoc (Count l) _ c p q = absurd (true≢false (sym p))
joined-assoc (Sum l) Nothing c p q = refl
joined-assoc (Sum l) (Sum m) Nothing p q = refl
joined-assoc (Sum l) (Sum m) (Sum n) p q = ap (λ k. Sum k) (wrapped-assoc l m n)
joined-assoc (Sum l) (Sum m) _ p q = absurd (true≢false (sym q))
joined-assoc (Sum l) _ c p q = absurd (true≢false (sym p))
joined-assoc (Min x) Nothing c p q = refl
joined-assoc (Min x) (Min y) Nothing p q = refl
joined-assoc (Min x) (Min y) (Min z) p q = ap (λ best. Min best) (lesser-assoc x y z)
joined-assoc (Min x) (Min y) _ p q = absurd (true≢false (sym q))
joined-assoc (Min x) _ c p q = absurd (true≢false (sym p))
joined-assoc (Max x) Nothing c p q = refl
joined-assoc (Max x) (Max y) Nothing p q = refl
joined-assoc (Max x) (Max y) (Max z) p q = ap (λ best. Max best) (greater-assoc x y z)
joined-assoc (Max x) (Max y) _ p q = absurd (true≢false (sym q))
joined-assoc (Max x) _ c p q = absurd (true≢false (sym p))
joined-assoc (Items xs) Nothing c p q = refl
joined-assoc (Items xs) (Items ys) Nothing p q = refl
joined-assoc (Items xs) (Items ys) (Items zs) p q = ap (λ all. Items all) (append_assoc xs ys zs)
joined-assoc (Items xs) (Items ys) _ p q = absurd (true≢false (sym q))
joined-assoc (Items xs) _ c p q = absurd (true≢false (sym p))
