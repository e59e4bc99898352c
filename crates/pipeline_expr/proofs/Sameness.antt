-- The test of equal expressions is exact.
use Rattle.std.proofs.Common.{◌≡◌, ℕ, Bool, true, false, ◌&&◌, List, [], ◌∷◌, refl, sym, ap, ap₂, ◌∙◌, subst, true≢false, nat_eq, eqb-true, eq-eqb}
use Rattle.std.specs.Cmp.{signed_Decides}
use Rattle.std.specs.Cmp.Lexicographic.{pointwise}
use Rattle.grid_base.specs.declared.datum.Datum.{Datum}
use Rattle.grid_base.specs.declared.datum.Datum.TheVariants as datum
use Rattle.pipeline_expr.specs.Same.{same_datum, same_flag, same_layer, same_step, same_expr}
use Rattle.pipeline_expr.specs.declared.expr.Expr.{Expr}
use Rattle.pipeline_expr.specs.declared.expr.Expr.TheOpen.{Expr-F}
use Rattle.pipeline_expr.specs.declared.expr.Expr.TheViews.{out-Expr, roll-Expr, out-roll-Expr, roll-out-Expr}
use Rattle.pipeline_expr.specs.declared.expr.Expr.TheFolds.{ind-Expr, fold-roll-Expr, map-Expr}

-- where two tests together are true, each is
both_true : (a b : Bool) → (a && b) ≡ true → (a ≡ true) × (b ≡ true)
both_true true b e = (refl, e)
both_true false b e = absurd (true≢false (sym e))

-- bytes that pass the test of sameness are equal
pub same_bytes : (xs ys : List ℕ) → pointwise nat_eq xs ys ≡ true → xs ≡ ys
same_bytes [] [] e = refl
same_bytes [] (y ∷ ys) e = absurd (true≢false (sym e))
same_bytes (x ∷ xs) [] e = absurd (true≢false (sym e))
same_bytes (x ∷ xs) (y ∷ ys) e =
    let parts = both_true (nat_eq x y) (pointwise nat_eq xs ys) e in
    ap₂ (λ z zs. z ∷ zs) (eqb-true x y parts.0) (same_bytes xs ys parts.1)

-- bytes are the same as themselves
pub bytes_self : (xs : List ℕ) → pointwise nat_eq xs xs ≡ true
bytes_self [] = refl
bytes_self (x ∷ xs) = ap₂ (λ a b. a && b) (eq-eqb x x refl) (bytes_self xs)

-- flags that pass the test are equal
same_flags : (a b : Bool) → same_flag a b ≡ true → a ≡ b
same_flags true true e = refl
same_flags false false e = refl
same_flags true false e = absurd (true≢false (sym e))
same_flags false true e = absurd (true≢false (sym e))

-- a flag is the same as itself
flag_self : (a : Bool) → same_flag a a ≡ true
flag_self true = refl
flag_self false = refl

-- values that pass the test are equal
pub same_datums : (a b : Datum) → same_datum a b ≡ true → a ≡ b
same_datums (datum.Int x) (datum.Int y) e = ap (λ z. datum.Int z) ((signed_Decides x y).0 e)
same_datums (datum.Text x) (datum.Text y) e = ap (λ z. datum.Text z) (same_bytes x y e)
same_datums (datum.Flag x) (datum.Flag y) e = ap (λ z. datum.Flag z) (same_flags x y e)
same_datums _ _ e = absurd (true≢false (sym e))

-- a value is the same as itself
pub datum_self : (a : Datum) → same_datum a a ≡ true
datum_self (datum.Int x) = (signed_Decides x x).1 refl
datum_self (datum.Text x) = bytes_self x
datum_self (datum.Flag x) = flag_self x

-- an expression that is equal to another by the test is that other
abbrev Tells : Expr → Type 0
Tells a = (b : Expr) → same_expr a b ≡ true → a ≡ b

-- one layer of an expression, with what is known of its parts
abbrev Parts : Type 0
Parts = Expr-F ((e : Expr) × Tells e)

-- the layer without what is known
abbrev forms : Parts → Expr-F Expr
forms = map-Expr ((e : Expr) × Tells e) Expr (λ e. e.0)

-- the layer with the tests of its parts
abbrev tests : Expr-F Expr → Expr-F (Expr → Bool)
tests = map-Expr Expr (Expr → Bool) same_expr

-- one form whose parts are equal by the test
layer_exact : (y : Parts) (o : Expr-F Expr) → same_layer (tests (forms y)) o ≡ true → forms y ≡ o
layer_exact Expr-F.Key Expr-F.Key e = refl
layer_exact Expr-F.Value Expr-F.Value e = refl
layer_exact Expr-F.It Expr-F.It e = refl
layer_exact (Expr-F.Lit d) (Expr-F.Lit f) e = ap (λ z. Expr-F.Lit z) (same_datums d f e)
layer_exact (Expr-F.Add a b) (Expr-F.Add c d) e =
    let parts = both_true (same_expr a.0 c) (same_expr b.0 d) e in
    ap₂ (λ p q. Expr-F.Add p q) (a.1 c parts.0) (b.1 d parts.1)
layer_exact (Expr-F.Sub a b) (Expr-F.Sub c d) e =
    let parts = both_true (same_expr a.0 c) (same_expr b.0 d) e in
    ap₂ (λ p q. Expr-F.Sub p q) (a.1 c parts.0) (b.1 d parts.1)
layer_exact (Expr-F.Mul a b) (Expr-F.Mul c d) e =
    let parts = both_true (same_expr a.0 c) (same_expr b.0 d) e in
    ap₂ (λ p q. Expr-F.Mul p q) (a.1 c parts.0) (b.1 d parts.1)
layer_exact (Expr-F.Same a b) (Expr-F.Same c d) e =
    let parts = both_true (same_expr a.0 c) (same_expr b.0 d) e in
    ap₂ (λ p q. Expr-F.Same p q) (a.1 c parts.0) (b.1 d parts.1)
layer_exact (Expr-F.Less a b) (Expr-F.Less c d) e =
    let parts = both_true (same_expr a.0 c) (same_expr b.0 d) e in
    ap₂ (λ p q. Expr-F.Less p q) (a.1 c parts.0) (b.1 d parts.1)
layer_exact (Expr-F.And a b) (Expr-F.And c d) e =
    let parts = both_true (same_expr a.0 c) (same_expr b.0 d) e in
    ap₂ (λ p q. Expr-F.And p q) (a.1 c parts.0) (b.1 d parts.1)
layer_exact (Expr-F.Or a b) (Expr-F.Or c d) e =
    let parts = both_true (same_expr a.0 c) (same_expr b.0 d) e in
    ap₂ (λ p q. Expr-F.Or p q) (a.1 c parts.0) (b.1 d parts.1)
layer_exact (Expr-F.Not a) (Expr-F.Not c) e = ap (λ p. Expr-F.Not p) (a.1 c e)
layer_exact (Expr-F.Length a) (Expr-F.Length c) e = ap (λ p. Expr-F.Length p) (a.1 c e)
layer_exact (Expr-F.Starts a b) (Expr-F.Starts c d) e =
    let parts = both_true (same_expr a.0 c) (same_expr b.0 d) e in
    ap₂ (λ p q. Expr-F.Starts p q) (a.1 c parts.0) (b.1 d parts.1)
layer_exact _ _ e = absurd (true≢false (sym e))

-- so expressions that pass the test are equal
pub same_is_one : (a : Expr) → Tells a
same_is_one = ind-Expr Tells (λ x y is b e.
    let tested : same_layer (tests (forms y)) (out-Expr b) ≡ true = ap (λ z. same_layer (tests z) (out-Expr b)) is ∙ sym (ap (λ f. f b) (fold-roll-Expr (Expr → Bool) same_step x)) ∙ e in
    ap roll-Expr (sym is ∙ layer_exact y (out-Expr b) tested) ∙ roll-out-Expr b)

-- an expression is the same as itself
abbrev IsSelf : Expr → Type 0
IsSelf a = same_expr a a ≡ true

-- a layer of parts that are the same as themselves, without what is known
abbrev selves : Expr-F ((e : Expr) × IsSelf e) → Expr-F Expr
selves = map-Expr ((e : Expr) × IsSelf e) Expr (λ e. e.0)

-- one form is equal to itself by the test
layer_self : (y : Expr-F ((e : Expr) × IsSelf e)) → same_layer (tests (selves y)) (selves y) ≡ true
layer_self Expr-F.Key = refl
layer_self Expr-F.Value = refl
layer_self Expr-F.It = refl
layer_self (Expr-F.Lit d) = datum_self d
layer_self (Expr-F.Add a b) = ap₂ (λ p q. p && q) a.1 b.1
layer_self (Expr-F.Sub a b) = ap₂ (λ p q. p && q) a.1 b.1
layer_self (Expr-F.Mul a b) = ap₂ (λ p q. p && q) a.1 b.1
layer_self (Expr-F.Same a b) = ap₂ (λ p q. p && q) a.1 b.1
layer_self (Expr-F.Less a b) = ap₂ (λ p q. p && q) a.1 b.1
layer_self (Expr-F.And a b) = ap₂ (λ p q. p && q) a.1 b.1
layer_self (Expr-F.Or a b) = ap₂ (λ p q. p && q) a.1 b.1
layer_self (Expr-F.Not a) = a.1
layer_self (Expr-F.Length a) = a.1
layer_self (Expr-F.Starts a b) = ap₂ (λ p q. p && q) a.1 b.1

-- so each expression is the same as itself
pub same_self : (a : Expr) → IsSelf a
same_self = ind-Expr IsSelf (λ x y is.
    ap (λ f. f (roll-Expr x)) (fold-roll-Expr (Expr → Bool) same_step x)
    ∙ ap (same_layer (tests x)) (out-roll-Expr x)
    ∙ subst (λ z. same_layer (tests z) z ≡ true) is (layer_self y))
