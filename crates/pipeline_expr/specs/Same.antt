-- When two expressions are equal, as a test.
use Rattle.std.specs.Prelude.{Bool, true, false, ◌&&◌}
use Rattle.std.specs.Prelude.{nat_eq}
use Rattle.std.specs.Ordering.{int_eq}
use Rattle.std.specs.Cmp.Lexicographic.{pointwise}
use Rattle.grid_base.specs.declared.datum.Datum.{Datum}
use Rattle.grid_base.specs.declared.datum.Datum.TheVariants as datum
use Rattle.pipeline_expr.specs.declared.expr.Expr.{Expr, out-Expr}
use Rattle.pipeline_expr.specs.declared.expr.Expr.TheOpen.{Expr-F}
use Rattle.pipeline_expr.specs.declared.expr.Expr.TheFolds.{fold-Expr}

-- two flags are equal where both are true or both false
abbrev pub same_flag : Bool → Bool → Bool
same_flag true true = true
same_flag false false = true
same_flag _ _ = false

-- two values are equal where they have one kind and equal contents
abbrev pub same_datum : Datum → Datum → Bool
same_datum (datum.Int x) (datum.Int y) = int_eq x y
same_datum (datum.Text x) (datum.Text y) = pointwise nat_eq x y
same_datum (datum.Flag x) (datum.Flag y) = same_flag x y
same_datum _ _ = false

-- two expressions are equal where they have one form and equal parts
abbrev pub same_layer : Expr-F (Expr → Bool) → Expr-F Expr → Bool
same_layer Expr-F.Key Expr-F.Key = true
same_layer Expr-F.Value Expr-F.Value = true
same_layer Expr-F.It Expr-F.It = true
same_layer (Expr-F.Lit d) (Expr-F.Lit e) = same_datum d e
same_layer (Expr-F.Add a b) (Expr-F.Add c d) = a c && b d
same_layer (Expr-F.Sub a b) (Expr-F.Sub c d) = a c && b d
same_layer (Expr-F.Mul a b) (Expr-F.Mul c d) = a c && b d
same_layer (Expr-F.Same a b) (Expr-F.Same c d) = a c && b d
same_layer (Expr-F.Less a b) (Expr-F.Less c d) = a c && b d
same_layer (Expr-F.And a b) (Expr-F.And c d) = a c && b d
same_layer (Expr-F.Or a b) (Expr-F.Or c d) = a c && b d
same_layer (Expr-F.Not a) (Expr-F.Not c) = a c
same_layer (Expr-F.Length a) (Expr-F.Length c) = a c
same_layer (Expr-F.Starts a b) (Expr-F.Starts c d) = a c && b d
same_layer _ _ = false

abbrev pub same_step : Expr-F (Expr → Bool) → Expr → Bool
same_step layer other = same_layer layer (out-Expr other)

-- whether two expressions are equal
abbrev pub same_expr : Expr → Expr → Bool
same_expr = fold-Expr (Expr → Bool) same_step
