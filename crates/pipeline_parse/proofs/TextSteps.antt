-- The steps of the printers' loops.
use Rattle.std.proofs.Common.{◌≡◌, ℕ, ◌+◌, ◌<◌, ◌≤◌, Bool, true, List, [], ◌∷◌, ◌++◌, length, get_or, take, drop, codes, sym, ap, ◌∙◌, append_assoc}
use Rattle.std.specs.List.{list_all}
use Rattle.std.proofs.lemmas.List.{drop_all, drop_more, take_all, take_more}
use Rattle.pipeline_expr.specs.declared.expr.Expr.{Expr}
use Rattle.pipeline_expr.specs.declared.op.Op.{Op}
use Rattle.pipeline_parse.specs.Grammar.{expr_text, further_text, op_text, ops_text}
use Rattle.pipeline_parse.proofs.ParseLaws.{all_push, ops_push}

-- one more expression is written
pub further_step : (out mid done : List ℕ) (list : List Expr) (i : ℕ) (x : Expr) → i < length list → x ≡ get_or list i x → mid ≡ out ++ codes ", " → done ≡ mid ++ expr_text x
    → done ++ further_text (drop (i + 1) list) ≡ out ++ further_text (drop i list)
further_step out mid done list i x lt is e f =
    ap (λ t. t ++ further_text (drop (i + 1) list)) (f ∙ ap (λ t. t ++ expr_text x) e)
    ∙ append_assoc (out ++ codes ", ") (expr_text x) (further_text (drop (i + 1) list))
    ∙ append_assoc out (codes ", ") (expr_text x ++ further_text (drop (i + 1) list))
    ∙ ap (λ l. out ++ further_text l) (sym (drop_more list i x lt ∙ ap (λ y. y ∷ drop (i + 1) list) (sym is)))

-- no expression is left
pub further_end : (out : List ℕ) (list : List Expr) (i : ℕ) → length list ≤ i → out ++ codes "]" ≡ out ++ further_text (drop i list)
further_end out list i over = ap (λ l. out ++ further_text l) (sym (drop_all i list over))

-- one more of a list passes a test
pub all_more : {A : Type 0} (p : A → Bool) (xs : List A) (i : ℕ) (x : A) → i < length xs → x ≡ get_or xs i x → list_all p (take i xs) ≡ true → p x ≡ true → list_all p (take (i + 1) xs) ≡ true
all_more p xs i x lt is e f = ap (list_all p) (take_more xs i x lt ∙ ap (λ y. take i xs ++ y ∷ []) (sym is)) ∙ all_push p (take i xs) x e f

-- what passes of as many as there are passes of all
pub all_all : {A : Type 0} (p : A → Bool) (xs : List A) (i : ℕ) → length xs ≤ i → list_all p (take i xs) ≡ true → list_all p xs ≡ true
all_all p xs i over e = ap (list_all p) (sym (take_all i xs over)) ∙ e

-- one more operation is written, and the bar behind it
pub ops_step : (out mid done : List ℕ) (ops : List Op) (i : ℕ) (o : Op) → i < length ops → o ≡ get_or ops i o → out ≡ ops_text (take i ops) → mid ≡ out ++ op_text o → done ≡ mid ++ codes " | "
    → done ≡ ops_text (take (i + 1) ops)
ops_step out mid done ops i o lt is e f g =
    g ∙ ap (λ t. t ++ codes " | ") (f ∙ ap (λ t. t ++ op_text o) e) ∙ sym (ops_push (take i ops) o)
    ∙ ap ops_text (sym (take_more ops i o lt ∙ ap (λ y. take i ops ++ y ∷ []) (sym is)))

-- the text of as many operations as there are is the text of all
pub ops_end : (ops : List Op) (i : ℕ) → length ops ≤ i → ops_text (take i ops) ≡ ops_text ops
ops_end ops i over = ap ops_text (take_all i ops over)
