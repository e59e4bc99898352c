-- The grammar of pipelines: the one text of each pipeline, and the limits of the values in it.
use Rattle.std.specs.Prelude.{◌≡◌, ℕ, ◌^◌, ◌≤◌, Bool, true, ◌&&◌, nat_lt, List, [], ◌∷◌, ◌++◌, length, take, codes, ℤ, pos, negsuc}
use Rattle.std.specs.List.{list_all}
use Rattle.std.specs.Prelude.{if◌then◌else◌}
use Rattle.std.specs.Fmt.{signed_decimal}
use Rattle.grid_base.specs.Text.{is_text}
use Rattle.grid_base.specs.declared.datum.Datum.{Datum}
use Rattle.grid_base.specs.declared.datum.Datum.TheVariants.{Int, Text, Flag}
use Rattle.pipeline_expr.specs.declared.expr.Expr.{Expr}
use Rattle.pipeline_expr.specs.declared.expr.Expr.TheOpen.{Expr-F}
use Rattle.pipeline_expr.specs.declared.expr.Expr.TheFolds.{fold-Expr}
use Rattle.pipeline_expr.specs.declared.spread.Spread.{Spread}
use Rattle.pipeline_expr.specs.declared.spread.Spread.TheVariants.{Each, Words}
use Rattle.pipeline_expr.specs.declared.op.Op.{Op}
use Rattle.pipeline_expr.specs.declared.op.Op.TheVariants.{Filter, Map, FlatMap, Distinct}
use Rattle.pipeline_expr.specs.declared.end.End.{End}
use Rattle.pipeline_expr.specs.declared.end.End.TheVariants as end
use Rattle.pipeline_expr.specs.declared.pipeline.Pipeline.{Pipeline}

-- the text of a flag
abbrev pub flag_text : Bool → List ℕ
flag_text b = (if b then codes "true" else codes "false")

-- the text of a value: an int in decimal, a text between double quotes, a flag by its word
abbrev pub datum_text : Datum → List ℕ
datum_text (Int z) = signed_decimal z
datum_text (Text t) = 34 ∷ (t ++ 34 ∷ [])
datum_text (Flag b) = flag_text b

-- an operation between two expressions, in parentheses
abbrev pub between : List ℕ → List ℕ → List ℕ → List ℕ
between a word b = codes "(" ++ (a ++ (word ++ (b ++ codes ")")))

-- an operation before one expression, and before two
abbrev pub before_one : List ℕ → List ℕ → List ℕ
before_one word a = word ++ (a ++ codes ")")

abbrev pub before_two : List ℕ → List ℕ → List ℕ → List ℕ
before_two word a b = word ++ (a ++ (codes ", " ++ (b ++ codes ")")))

-- the text of an expression, by the texts of its parts
abbrev pub text_step : Expr-F (List ℕ) → List ℕ
text_step Expr-F.Key = codes "key"
text_step Expr-F.Value = codes "value"
text_step Expr-F.It = codes "it"
text_step (Expr-F.Lit d) = datum_text d
text_step (Expr-F.Add a b) = between a (codes " + ") b
text_step (Expr-F.Sub a b) = between a (codes " - ") b
text_step (Expr-F.Mul a b) = between a (codes " * ") b
text_step (Expr-F.Same a b) = between a (codes " = ") b
text_step (Expr-F.Less a b) = between a (codes " < ") b
text_step (Expr-F.And a b) = between a (codes " and ") b
text_step (Expr-F.Or a b) = between a (codes " or ") b
text_step (Expr-F.Not a) = before_one (codes "not(") a
text_step (Expr-F.Length a) = before_one (codes "length(") a
text_step (Expr-F.Starts a b) = before_two (codes "starts(") a b

-- the text of an expression
abbrev pub expr_text : Expr → List ℕ
expr_text = fold-Expr (List ℕ) text_step

-- the further expressions of a list, and its end
abbrev pub further_text : List Expr → List ℕ
further_text [] = codes "]"
further_text (e ∷ es) = codes ", " ++ (expr_text e ++ further_text es)

-- the text of what a flatmap gives
abbrev pub spread_text : Spread → List ℕ
spread_text (Each list) = codes "[" ++ (expr_text list.first ++ further_text list.rest)
spread_text (Words e) = before_one (codes "words(") (expr_text e)

-- the text of an operation
abbrev pub op_text : Op → List ℕ
op_text (Filter e) = codes "filter " ++ expr_text e
op_text (Map e) = codes "map " ++ expr_text e
op_text (FlatMap spread) = codes "flatmap " ++ spread_text spread
op_text Distinct = codes "distinct"

-- the text of an end
abbrev pub end_text : End → List ℕ
end_text end.Count = codes "count"
end_text end.Sum = codes "sum"
end_text end.Min = codes "min"
end_text end.Max = codes "max"
end_text end.Collect = codes "collect"
end_text end.Each = codes "each"

-- the texts of operations, each with a bar behind it
abbrev pub ops_text : List Op → List ℕ
ops_text [] = []
ops_text (o ∷ ops) = (op_text o ++ codes " | ") ++ ops_text ops

-- the text of a pipeline
abbrev pub text_of : Pipeline → List ℕ
text_of p = ops_text p.ops ++ end_text p.end

-- whether a number has 64 bits with its sign
abbrev pub int_fits : ℤ → Bool
int_fits (pos n) = nat_lt n (2 ^ 63)
int_fits (negsuc n) = nat_lt n (2 ^ 63)

-- whether a value keeps the limits of its kind
abbrev pub datum_fits : Datum → Bool
datum_fits (Int z) = int_fits z
datum_fits (Text t) = is_text t
datum_fits (Flag b) = true

abbrev pub fits_step : Expr-F Bool → Bool
fits_step Expr-F.Key = true
fits_step Expr-F.Value = true
fits_step Expr-F.It = true
fits_step (Expr-F.Lit d) = datum_fits d
fits_step (Expr-F.Add a b) = a && b
fits_step (Expr-F.Sub a b) = a && b
fits_step (Expr-F.Mul a b) = a && b
fits_step (Expr-F.Same a b) = a && b
fits_step (Expr-F.Less a b) = a && b
fits_step (Expr-F.And a b) = a && b
fits_step (Expr-F.Or a b) = a && b
fits_step (Expr-F.Not a) = a
fits_step (Expr-F.Length a) = a
fits_step (Expr-F.Starts a b) = a && b

-- whether all values in an expression keep their limits
abbrev pub expr_fits : Expr → Bool
expr_fits = fold-Expr Bool fits_step

abbrev pub spread_fits : Spread → Bool
spread_fits (Each list) = expr_fits list.first && list_all expr_fits list.rest
spread_fits (Words e) = expr_fits e

abbrev pub op_fits : Op → Bool
op_fits (Filter e) = expr_fits e
op_fits (Map e) = expr_fits e
op_fits (FlatMap spread) = spread_fits spread
op_fits Distinct = true

-- whether all values in a pipeline keep their limits
abbrev pub fits : Pipeline → Bool
fits p = list_all op_fits p.ops

-- some pipeline's text begins so
pub record BeginsText (front : List ℕ) : Type 0 where
  pub pipeline : Pipeline
  pub more : List ℕ
  pub keeps : fits pipeline ≡ true
  pub text : text_of pipeline ≡ front ++ more

-- the text is no pipeline's, and the longest of its fronts with which some pipeline's text begins has the length `at`
pub record StopsAt (text : List ℕ) (at : ℕ) : Type 0 where
  pub other : (p : Pipeline) → fits p ≡ true → text_of p ≡ text → ⊥
  pub within : at ≤ length text
  pub begins : BeginsText (take at text)
  pub longest : (n : ℕ) → n ≤ length text → BeginsText (take n text) → n ≤ at
