-- The readers of expressions and pipelines. They serve the proofs alone: what the calls promise is said by `Grammar`.
use Rattle.std.specs.Prelude.{ℕ, zero, suc, List, [], ◌∷◌, ◌++◌, length, Result, Ok, Err, if◌then◌else◌, codes}
use Rattle.grid_base.specs.declared.datum.Datum.TheVariants as datum
use Rattle.pipeline_expr.specs.declared.expr.Expr.{Expr}
use Rattle.pipeline_expr.specs.declared.expr.Expr.TheVariants as e
use Rattle.pipeline_expr.specs.declared.spread.Spread.{Spread}
use Rattle.pipeline_expr.specs.declared.spread.Spread.TheVariants as spread
use Rattle.pipeline_expr.specs.declared.op.Op.{Op}
use Rattle.pipeline_expr.specs.declared.op.Op.TheVariants as op
use Rattle.pipeline_expr.specs.declared.pipeline.Pipeline.{Pipeline}
use Rattle.pipeline_parse.specs.Reading.{Read, ◌>>=◌, begins_plain, literal_at, plain_at, word_at}
use Rattle.pipeline_parse.specs.Words.{behind_word, behinds, between_word, form_word, forms, opening_word, openings, signs, step_word, steps}
use Rattle.pipeline_parse.specs.declared.forms.Form.{Form}
use Rattle.pipeline_parse.specs.declared.forms.Form.TheVariants as form
use Rattle.pipeline_parse.specs.declared.forms.Between.{Between}
use Rattle.pipeline_parse.specs.declared.forms.Between.TheVariants as sign
use Rattle.pipeline_parse.specs.declared.forms.Opening.{Opening}
use Rattle.pipeline_parse.specs.declared.forms.Opening.TheVariants as opening
use Rattle.pipeline_parse.specs.declared.forms.Behind.{Behind}
use Rattle.pipeline_parse.specs.declared.forms.Behind.TheVariants as behind
use Rattle.pipeline_parse.specs.declared.forms.Start.{Start}
use Rattle.pipeline_parse.specs.declared.forms.Start.TheVariants as start
use Rattle.pipeline_parse.specs.declared.forms.Step.{Step}
use Rattle.pipeline_parse.specs.declared.forms.Step.TheVariants as step

-- two expressions with an operation between them
abbrev pub joined : Between → Expr → Expr → Expr
joined sign.Add a b = e.Add a b
joined sign.Sub a b = e.Sub a b
joined sign.Mul a b = e.Mul a b
joined sign.Same a b = e.Same a b
joined sign.Less a b = e.Less a b
joined sign.And a b = e.And a b
joined sign.Or a b = e.Or a b

module _ (inner : List ℕ → Read Expr) where
  unfoldable pub binary_at : List ℕ → Read Expr
  binary_at s = inner s >>= (λ a. word_at between_word signs a.1 >>= (λ sign. inner sign.1 >>= (λ b. literal_at (codes ")") b.1 >>= (λ rest. Ok (joined sign.0 a.0 b.0, rest)))))

  unfoldable pub not_at : List ℕ → Read Expr
  not_at s = inner s >>= (λ a. literal_at (codes ")") a.1 >>= (λ rest. Ok (e.Not a.0, rest)))

  unfoldable pub length_at : List ℕ → Read Expr
  length_at s = inner s >>= (λ a. literal_at (codes ")") a.1 >>= (λ rest. Ok (e.Length a.0, rest)))

  unfoldable pub starts_at : List ℕ → Read Expr
  starts_at s = inner s >>= (λ a. literal_at (codes ", ") a.1 >>= (λ t. inner t >>= (λ b. literal_at (codes ")") b.1 >>= (λ rest. Ok (e.Starts a.0 b.0, rest)))))

  unfoldable pub form_at : Form → List ℕ → Read Expr
  form_at form.Key s = Ok (e.Key, s)
  form_at form.Value s = Ok (e.Value, s)
  form_at form.It s = Ok (e.It, s)
  form_at (form.Flag b) s = Ok (e.Lit (datum.Flag b), s)
  form_at form.Open s = binary_at s
  form_at form.Not s = not_at s
  form_at form.Length s = length_at s
  form_at form.Starts s = starts_at s

  unfoldable pub layer_at : List ℕ → Read Expr
  layer_at s = if begins_plain s then (plain_at s >>= (λ d. Ok (e.Lit d.0, d.1))) else (word_at form_word forms s >>= (λ f. form_at f.0 f.1))

-- an expression with at most so many levels
unfoldable pub expr_at : ℕ → List ℕ → Read Expr
expr_at zero s = Err (length s)
expr_at (suc depth) s = layer_at (expr_at depth) s

-- behind an expression of a list stands another one, or the end of the list
abbrev pub behind_at : (inner : List ℕ → Read Expr) (on : List Expr → List ℕ → Read (List Expr)) → List Expr → Behind → List ℕ → Read (List Expr)
behind_at inner on list behind.Close s = Ok (list, s)
behind_at inner on list behind.Another s = inner s >>= (λ a. on (list ++ a.0 ∷ []) a.1)

-- the further expressions of a list, behind those that it has
unfoldable pub further_at : (List ℕ → Read Expr) → ℕ → List Expr → List ℕ → Read (List Expr)
further_at inner zero list s = Err (length s)
further_at inner (suc turns) list s = word_at behind_word behinds s >>= (λ w. behind_at inner (further_at inner turns) list w.0 w.1)

module _ (inner : List ℕ → Read Expr) (turns : ℕ) where
  unfoldable pub each_at : List ℕ → Read Spread
  each_at s = inner s >>= (λ a. further_at inner turns [] a.1 >>= (λ more. Ok (spread.Each (record { first = a.0; rest = more.0 }), more.1)))

  unfoldable pub words_at : List ℕ → Read Spread
  words_at s = inner s >>= (λ a. literal_at (codes ")") a.1 >>= (λ rest. Ok (spread.Words a.0, rest)))

  abbrev pub opening_at : Opening → List ℕ → Read Spread
  opening_at opening.List s = each_at s
  opening_at opening.Words s = words_at s

  unfoldable pub spread_at : List ℕ → Read Spread
  spread_at s = word_at opening_word openings s >>= (λ w. opening_at w.0 w.1)

  unfoldable pub op_at : Start → List ℕ → Read Op
  op_at start.Filter s = inner s >>= (λ a. Ok (op.Filter a.0, a.1))
  op_at start.Map s = inner s >>= (λ a. Ok (op.Map a.0, a.1))
  op_at start.FlatMap s = spread_at s >>= (λ a. Ok (op.FlatMap a.0, a.1))
  op_at start.Distinct s = Ok (op.Distinct, s)

-- behind the first word of an operation stand its argument, a bar and the next operation; behind an end stands nothing
abbrev pub step_at : (Start → List ℕ → Read Op) → (List Op → List ℕ → Read Pipeline) → List Op → Step → List ℕ → Read Pipeline
step_at one on ops (step.Last last) s = Ok (record { ops = ops; end = last }, s)
step_at one on ops (step.Op start) s = one start s >>= (λ o. literal_at (codes " | ") o.1 >>= (λ rest. on (ops ++ o.0 ∷ []) rest))

-- the further operations and the end of a pipeline, behind the operations that it has
unfoldable pub steps_at : (Start → List ℕ → Read Op) → ℕ → List Op → List ℕ → Read Pipeline
steps_at one zero ops s = Err (length s)
steps_at one (suc turns) ops s = word_at step_word steps s >>= (λ w. step_at one (steps_at one turns) ops w.0 w.1)

-- what was read, where nothing is left
abbrev pub whole_of : {A : Type 0} → Read A → Result A ℕ
whole_of (Ok (x, [])) = Ok x
whole_of (Ok (x, b ∷ s)) = Err (suc (length s))
whole_of (Err left) = Err left

-- a whole text as a pipeline, with so many levels and turns at most
unfoldable pub pipeline_at : ℕ → List ℕ → Result Pipeline ℕ
pipeline_at most s = whole_of (steps_at (op_at (expr_at most) most) most [] s)
