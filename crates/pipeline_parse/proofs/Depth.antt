-- One level of an expression, and one turn of a list.
use Rattle.std.proofs.Common.{◌≡◌, ℕ, zero, suc, ◌-◌, ◌<◌, List, length, Err, refl, ap, arith}
use Rattle.pipeline_expr.specs.declared.expr.Expr.{Expr}
use Rattle.pipeline_expr.specs.declared.op.Op.{Op}
use Rattle.pipeline_parse.specs.declared.forms.Start.{Start}
use Rattle.pipeline_parse.specs.Reading.{Read, ◌>>=◌, word_at}
use Rattle.pipeline_parse.specs.Words.{behind_word, behinds, step_word, steps}
use Rattle.pipeline_parse.specs.Parsing.{behind_at, expr_at, further_at, layer_at, step_at, steps_at}

-- with a level left an expression is read as one layer over those below
pub expr_level : (depth : ℕ) (s : List ℕ) → 0 < depth → expr_at depth s ≡ layer_at (expr_at (depth - 1)) s
unfolding expr_at
expr_level zero s h = absurd (omega arith)
expr_level (suc depth) s h = let e : depth ≡ suc depth - 1 = omega arith in ap (λ d. layer_at (expr_at d) s) e

-- with no level left none is read
pub expr_none : (depth : ℕ) (s : List ℕ) → depth ≡ 0 → expr_at depth s ≡ Err (length s)
unfolding expr_at
expr_none zero s h = refl
expr_none (suc depth) s h = absurd (omega arith)

-- with a turn left one further expression of a list is read, or the end of the list
pub further_turn : (inner : List ℕ → Read Expr) (turns : ℕ) (list : List Expr) (s : List ℕ) → 0 < turns
    → further_at inner turns list s ≡ word_at behind_word behinds s >>= (λ w. behind_at inner (further_at inner (turns - 1)) list w.0 w.1)
unfolding further_at
further_turn inner zero list s h = absurd (omega arith)
further_turn inner (suc turns) list s h =
    let e : turns ≡ suc turns - 1 = omega arith in
    ap (λ t. word_at behind_word behinds s >>= (λ w. behind_at inner (further_at inner t) list w.0 w.1)) e

-- with no turn left none is read
pub further_none : (inner : List ℕ → Read Expr) (turns : ℕ) (list : List Expr) (s : List ℕ) → turns ≡ 0 → further_at inner turns list s ≡ Err (length s)
unfolding further_at
further_none inner zero list s h = refl
further_none inner (suc turns) list s h = absurd (omega arith)

-- with a turn left one operation is read, or the end
pub steps_turn : (one : Start → List ℕ → Read Op) (turns : ℕ) (ops : List Op) (s : List ℕ) → 0 < turns
    → steps_at one turns ops s ≡ word_at step_word steps s >>= (λ w. step_at one (steps_at one (turns - 1)) ops w.0 w.1)
unfolding steps_at
steps_turn one zero ops s h = absurd (omega arith)
steps_turn one (suc turns) ops s h =
    let e : turns ≡ suc turns - 1 = omega arith in
    ap (λ t. word_at step_word steps s >>= (λ w. step_at one (steps_at one t) ops w.0 w.1)) e

-- with no turn left none is read
pub steps_none : (one : Start → List ℕ → Read Op) (turns : ℕ) (ops : List Op) (s : List ℕ) → turns ≡ 0 → steps_at one turns ops s ≡ Err (length s)
unfolding steps_at
steps_none one zero ops s h = refl
steps_none one (suc turns) ops s h = absurd (omega arith)
