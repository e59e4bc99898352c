-- The equations of the grammar at each form of expression.
use Rattle.std.proofs.Common.{◌≡◌, ℕ, Bool, true, ◌&&◌, List, codes, sym, ap, ◌∙◌}
use Rattle.grid_base.specs.declared.datum.Datum.{Datum}
use Rattle.pipeline_expr.specs.declared.expr.Expr.{Expr}
use Rattle.pipeline_expr.specs.declared.expr.Expr.TheOpen.{Expr-F}
use Rattle.pipeline_expr.specs.declared.expr.Expr.TheFolds.{fold-roll-Expr}
use Rattle.pipeline_expr.specs.declared.expr.Expr.TheVariants as e
use Rattle.pipeline_parse.specs.Grammar.{before_one, before_two, between, datum_fits, datum_text, expr_fits, expr_text, fits_step, text_step}
use Rattle.pipeline_parse.specs.Parsing.{joined}
use Rattle.pipeline_parse.specs.Words.{between_word}
use Rattle.pipeline_parse.specs.declared.forms.Between.{Between}
use Rattle.pipeline_parse.specs.declared.forms.Between.TheVariants as sign

-- the text of the key
pub text_Key : expr_text e.Key ≡ codes "key"
text_Key = ap expr_text (sym (e.rolls-Key)) ∙ fold-roll-Expr (List ℕ) text_step Expr-F.Key

-- it fits
pub fits_Key : expr_fits e.Key ≡ true
fits_Key = ap expr_fits (sym (e.rolls-Key)) ∙ fold-roll-Expr Bool fits_step Expr-F.Key

-- the text of the value
pub text_Value : expr_text e.Value ≡ codes "value"
text_Value = ap expr_text (sym (e.rolls-Value)) ∙ fold-roll-Expr (List ℕ) text_step Expr-F.Value

-- it fits
pub fits_Value : expr_fits e.Value ≡ true
fits_Value = ap expr_fits (sym (e.rolls-Value)) ∙ fold-roll-Expr Bool fits_step Expr-F.Value

-- the text of the element itself
pub text_It : expr_text e.It ≡ codes "it"
text_It = ap expr_text (sym (e.rolls-It)) ∙ fold-roll-Expr (List ℕ) text_step Expr-F.It

-- it fits
pub fits_It : expr_fits e.It ≡ true
fits_It = ap expr_fits (sym (e.rolls-It)) ∙ fold-roll-Expr Bool fits_step Expr-F.It

-- the text of a literal
pub text_Lit : (d : Datum) → expr_text (e.Lit d) ≡ datum_text d
text_Lit d = ap expr_text (sym (e.rolls-Lit d)) ∙ fold-roll-Expr (List ℕ) text_step (Expr-F.Lit d)

-- it fits where its value does
pub fits_Lit : (d : Datum) → expr_fits (e.Lit d) ≡ datum_fits d
fits_Lit d = ap expr_fits (sym (e.rolls-Lit d)) ∙ fold-roll-Expr Bool fits_step (Expr-F.Lit d)

-- the text of a sum
pub text_Add : (a b : Expr) → expr_text (e.Add a b) ≡ between (expr_text a) (codes " + ") (expr_text b)
text_Add a b = ap expr_text (sym (e.rolls-Add a b)) ∙ fold-roll-Expr (List ℕ) text_step (Expr-F.Add a b)

-- it fits where its parts do
pub fits_Add : (a b : Expr) → expr_fits (e.Add a b) ≡ (expr_fits a && expr_fits b)
fits_Add a b = ap expr_fits (sym (e.rolls-Add a b)) ∙ fold-roll-Expr Bool fits_step (Expr-F.Add a b)

-- the text of a difference
pub text_Sub : (a b : Expr) → expr_text (e.Sub a b) ≡ between (expr_text a) (codes " - ") (expr_text b)
text_Sub a b = ap expr_text (sym (e.rolls-Sub a b)) ∙ fold-roll-Expr (List ℕ) text_step (Expr-F.Sub a b)

-- it fits where its parts do
pub fits_Sub : (a b : Expr) → expr_fits (e.Sub a b) ≡ (expr_fits a && expr_fits b)
fits_Sub a b = ap expr_fits (sym (e.rolls-Sub a b)) ∙ fold-roll-Expr Bool fits_step (Expr-F.Sub a b)

-- the text of a product
pub text_Mul : (a b : Expr) → expr_text (e.Mul a b) ≡ between (expr_text a) (codes " * ") (expr_text b)
text_Mul a b = ap expr_text (sym (e.rolls-Mul a b)) ∙ fold-roll-Expr (List ℕ) text_step (Expr-F.Mul a b)

-- it fits where its parts do
pub fits_Mul : (a b : Expr) → expr_fits (e.Mul a b) ≡ (expr_fits a && expr_fits b)
fits_Mul a b = ap expr_fits (sym (e.rolls-Mul a b)) ∙ fold-roll-Expr Bool fits_step (Expr-F.Mul a b)

-- the text of an equation
pub text_Same : (a b : Expr) → expr_text (e.Same a b) ≡ between (expr_text a) (codes " = ") (expr_text b)
text_Same a b = ap expr_text (sym (e.rolls-Same a b)) ∙ fold-roll-Expr (List ℕ) text_step (Expr-F.Same a b)

-- it fits where its parts do
pub fits_Same : (a b : Expr) → expr_fits (e.Same a b) ≡ (expr_fits a && expr_fits b)
fits_Same a b = ap expr_fits (sym (e.rolls-Same a b)) ∙ fold-roll-Expr Bool fits_step (Expr-F.Same a b)

-- the text of a comparison
pub text_Less : (a b : Expr) → expr_text (e.Less a b) ≡ between (expr_text a) (codes " < ") (expr_text b)
text_Less a b = ap expr_text (sym (e.rolls-Less a b)) ∙ fold-roll-Expr (List ℕ) text_step (Expr-F.Less a b)

-- it fits where its parts do
pub fits_Less : (a b : Expr) → expr_fits (e.Less a b) ≡ (expr_fits a && expr_fits b)
fits_Less a b = ap expr_fits (sym (e.rolls-Less a b)) ∙ fold-roll-Expr Bool fits_step (Expr-F.Less a b)

-- the text of a conjunction
pub text_And : (a b : Expr) → expr_text (e.And a b) ≡ between (expr_text a) (codes " and ") (expr_text b)
text_And a b = ap expr_text (sym (e.rolls-And a b)) ∙ fold-roll-Expr (List ℕ) text_step (Expr-F.And a b)

-- it fits where its parts do
pub fits_And : (a b : Expr) → expr_fits (e.And a b) ≡ (expr_fits a && expr_fits b)
fits_And a b = ap expr_fits (sym (e.rolls-And a b)) ∙ fold-roll-Expr Bool fits_step (Expr-F.And a b)

-- the text of a disjunction
pub text_Or : (a b : Expr) → expr_text (e.Or a b) ≡ between (expr_text a) (codes " or ") (expr_text b)
text_Or a b = ap expr_text (sym (e.rolls-Or a b)) ∙ fold-roll-Expr (List ℕ) text_step (Expr-F.Or a b)

-- it fits where its parts do
pub fits_Or : (a b : Expr) → expr_fits (e.Or a b) ≡ (expr_fits a && expr_fits b)
fits_Or a b = ap expr_fits (sym (e.rolls-Or a b)) ∙ fold-roll-Expr Bool fits_step (Expr-F.Or a b)

-- the text of a negation
pub text_Not : (a : Expr) → expr_text (e.Not a) ≡ before_one (codes "not(") (expr_text a)
text_Not a = ap expr_text (sym (e.rolls-Not a)) ∙ fold-roll-Expr (List ℕ) text_step (Expr-F.Not a)

-- it fits where its parts do
pub fits_Not : (a : Expr) → expr_fits (e.Not a) ≡ expr_fits a
fits_Not a = ap expr_fits (sym (e.rolls-Not a)) ∙ fold-roll-Expr Bool fits_step (Expr-F.Not a)

-- the text of a length
pub text_Length : (a : Expr) → expr_text (e.Length a) ≡ before_one (codes "length(") (expr_text a)
text_Length a = ap expr_text (sym (e.rolls-Length a)) ∙ fold-roll-Expr (List ℕ) text_step (Expr-F.Length a)

-- it fits where its parts do
pub fits_Length : (a : Expr) → expr_fits (e.Length a) ≡ expr_fits a
fits_Length a = ap expr_fits (sym (e.rolls-Length a)) ∙ fold-roll-Expr Bool fits_step (Expr-F.Length a)

-- the text of a test of a beginning
pub text_Starts : (a b : Expr) → expr_text (e.Starts a b) ≡ before_two (codes "starts(") (expr_text a) (expr_text b)
text_Starts a b = ap expr_text (sym (e.rolls-Starts a b)) ∙ fold-roll-Expr (List ℕ) text_step (Expr-F.Starts a b)

-- it fits where its parts do
pub fits_Starts : (a b : Expr) → expr_fits (e.Starts a b) ≡ (expr_fits a && expr_fits b)
fits_Starts a b = ap expr_fits (sym (e.rolls-Starts a b)) ∙ fold-roll-Expr Bool fits_step (Expr-F.Starts a b)

-- two expressions with an operation between them
pub joined_text : (s : Between) (a b : Expr) → expr_text (joined s a b) ≡ between (expr_text a) (between_word s) (expr_text b)
joined_text sign.Add a b = text_Add a b
joined_text sign.Sub a b = text_Sub a b
joined_text sign.Mul a b = text_Mul a b
joined_text sign.Same a b = text_Same a b
joined_text sign.Less a b = text_Less a b
joined_text sign.And a b = text_And a b
joined_text sign.Or a b = text_Or a b

-- two joined expressions fit where both do
pub joined_fits : (s : Between) (a b : Expr) → expr_fits (joined s a b) ≡ (expr_fits a && expr_fits b)
joined_fits sign.Add a b = fits_Add a b
joined_fits sign.Sub a b = fits_Sub a b
joined_fits sign.Mul a b = fits_Mul a b
joined_fits sign.Same a b = fits_Same a b
joined_fits sign.Less a b = fits_Less a b
joined_fits sign.And a b = fits_And a b
joined_fits sign.Or a b = fits_Or a b
