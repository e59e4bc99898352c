-- Each text of a pipeline is read, unless a reader runs out of levels or turns.
use Rattle.std.proofs.Common.{◌≡◌, ℕ, zero, suc, ◌+◌, ◌-◌, ◌≤◌, true, List, [], ◌∷◌, ◌++◌, length, Ok, Err, codes, refl, sym, ap, ◌∙◌, arith, append_assoc, ◌⊎◌, inl, inr}
use Rattle.std.specs.List.{list_all}
use Rattle.std.proofs.lemmas.List.{append-nil}
use Rattle.pipeline_expr.specs.declared.expr.Expr.{Expr}
use Rattle.pipeline_expr.specs.declared.spread.Spread.{Spread}
use Rattle.pipeline_expr.specs.declared.spread.Spread.TheVariants as spread
use Rattle.pipeline_expr.specs.declared.op.Op.{Op}
use Rattle.pipeline_expr.specs.declared.op.Op.TheVariants as op
use Rattle.pipeline_expr.specs.declared.end.End.{End}
use Rattle.pipeline_expr.specs.declared.end.End.TheVariants as end
use Rattle.pipeline_expr.specs.declared.pipeline.Pipeline.{Pipeline}
use Rattle.pipeline_parse.specs.Grammar.{end_text, expr_fits, expr_text, fits, further_text, op_fits, op_text, ops_text, spread_fits, spread_text, text_of}
use Rattle.pipeline_parse.specs.Reading.{Read, ◌>>=◌, literal_at, word_at}
use Rattle.pipeline_parse.specs.Words.{step_word, steps}
use Rattle.pipeline_parse.specs.Parsing.{each_at, expr_at, further_at, op_at, pipeline_at, spread_at, step_at, steps_at, whole_of, words_at}
use Rattle.pipeline_parse.proofs.Depth.{further_turn, further_none, steps_turn, steps_none}
use Rattle.pipeline_parse.proofs.Full.{calm}
use Rattle.pipeline_parse.proofs.FullExpr.{Ends, behind_le, ends_along, ends_then, ends_within, expr_full}
use Rattle.pipeline_parse.proofs.WordLaws.{both_true}

module _ (most : ℕ) where
  -- the reader of expressions, with so many levels
  abbrev inner : List ℕ → Read Expr
  inner = expr_at most

  -- an expression before other bytes, in a longer text and with fewer turns
  expr_ends : (a : Expr) (y : List ℕ) (turns size : ℕ) → expr_fits a ≡ true → calm y ≡ true → turns ≤ most → length (expr_text a ++ y) ≤ size → Ends (inner (expr_text a ++ y)) a y turns size
  expr_ends a y turns size fit quiet few le = ends_within _ a y most (length (expr_text a ++ y)) turns size (omega arith) (expr_full a most y fit quiet)

  -- the further expressions of a list don't begin with a digit
  further_calm : (list : List Expr) (y : List ℕ) → calm (further_text list ++ y) ≡ true
  further_calm [] y = refl
  further_calm (a ∷ list) y = refl

  -- the further expressions of a list
  further_full : (list : List Expr) (before : List Expr) (turns : ℕ) (y : List ℕ) → turns ≤ most → list_all expr_fits list ≡ true
      → Ends (further_at inner turns before (further_text list ++ y)) (before ++ list) y turns (length (further_text list ++ y))
  further_full list before zero y few fit = inr (length (further_text list ++ y), further_none inner zero before (further_text list ++ y) refl, omega arith)
  further_full [] before (suc turns) y few fit =
      inl (further_turn inner (suc turns) before (codes "]" ++ y) (omega arith) ∙ ap (λ l. Ok (l, y)) (sym (append-nil before)))
  further_full (a ∷ list) before (suc turns) y few fit =
      let parts = both_true (expr_fits a) (list_all expr_fits list) fit in
      let apart = append_assoc (expr_text a) (further_text list) y in
      let size = ap length apart in
      let short = behind_le (expr_text a) (further_text list ++ y) in
      let whole : (before ++ a ∷ []) ++ list ≡ before ++ a ∷ list = append_assoc before (a ∷ []) list in
      ends_along _ (inner (expr_text a ++ (further_text list ++ y)) >>= (λ p. further_at inner turns (before ++ p.0 ∷ []) p.1)) (before ++ a ∷ list) y (suc turns) _
      (further_turn inner (suc turns) before (further_text (a ∷ list) ++ y) (omega arith)
      ∙ ap (λ n. inner ((expr_text a ++ further_text list) ++ y) >>= (λ p. further_at inner n (before ++ p.0 ∷ []) p.1)) (let one : suc turns - 1 ≡ turns = omega arith in one)
      ∙ ap (λ t. inner t >>= (λ p. further_at inner turns (before ++ p.0 ∷ []) p.1)) apart)
      (ends_then (inner (expr_text a ++ (further_text list ++ y))) (λ p. further_at inner turns (before ++ p.0 ∷ []) p.1) a (further_text list ++ y) (before ++ a ∷ list) y (suc turns) _
      (expr_ends a (further_text list ++ y) (suc turns) _ parts.0 (further_calm list y) few (omega arith))
      (ends_within _ (before ++ a ∷ list) y turns (length (further_text list ++ y)) (suc turns) _ (omega arith)
      (ends_to _ _ _ y turns _ whole (further_full list (before ++ a ∷ []) turns y (omega arith) parts.1))))
    where
      ends_to : (l m : List Expr) (r : Read (List Expr)) (z : List ℕ) (n k : ℕ) → l ≡ m → Ends r l z n k → Ends r m z n k
      ends_to l m r z n k e (inl f) = inl (f ∙ ap (λ x. Ok (x, z)) e)
      ends_to l m r z n k e (inr f) = inr f

  -- what a flatmap gives
  spread_full : (s : Spread) (y : List ℕ) (turns : ℕ) → turns ≤ most → spread_fits s ≡ true → calm y ≡ true → Ends (spread_at inner most (spread_text s ++ y)) s y turns (length (spread_text s ++ y))
  unfolding spread_at each_at words_at
  spread_full (spread.Each list) y turns few fit quiet =
      let parts = both_true (expr_fits list.first) (list_all expr_fits list.rest) fit in
      let apart = append_assoc (expr_text list.first) (further_text list.rest) y in
      let size = ap length apart in
      let short = behind_le (expr_text list.first) (further_text list.rest ++ y) in
      ends_along _ (each_at inner most (expr_text list.first ++ (further_text list.rest ++ y))) (spread.Each list) y turns _ (ap (each_at inner most) apart)
      (ends_then (inner (expr_text list.first ++ (further_text list.rest ++ y))) (λ a. further_at inner most [] a.1 >>= (λ more. Ok (spread.Each (record { first = a.0; rest = more.0 }), more.1))) list.first
      (further_text list.rest ++ y) (spread.Each list) y turns _
      (expr_ends list.first (further_text list.rest ++ y) turns _ parts.0 (further_calm list.rest y) few (omega arith))
      (ends_then (further_at inner most [] (further_text list.rest ++ y)) (λ more. Ok (spread.Each (record { first = list.first; rest = more.0 }), more.1)) list.rest y (spread.Each list) y turns _
      (ends_within _ list.rest y most (length (further_text list.rest ++ y)) turns _ (omega arith) (further_full list.rest [] most y (omega arith) parts.1))
      (inl refl)))
  spread_full (spread.Words a) y turns few fit quiet =
      let apart = append_assoc (expr_text a) (codes ")") y in
      let size = ap length apart in
      let short = behind_le (codes "words(") ((expr_text a ++ codes ")") ++ y) in
      ends_along _ (words_at inner most (expr_text a ++ (codes ")" ++ y))) (spread.Words a) y turns _ (ap (words_at inner most) apart)
      (ends_then (inner (expr_text a ++ (codes ")" ++ y))) (λ a. literal_at (codes ")") a.1 >>= (λ rest. Ok (spread.Words a.0, rest))) a (codes ")" ++ y) (spread.Words a) y turns _
      (expr_ends a (codes ")" ++ y) turns _ fit refl few (omega arith))
      (inl refl))

  -- an operation and the bar behind it, and what is read then
  op_full : (o : Op) (t : List ℕ) (before : List Op) (on : List Op → List ℕ → Read Pipeline) (p : Pipeline) (z : List ℕ) (turns : ℕ) → turns ≤ most → op_fits o ≡ true
      → Ends (on (before ++ o ∷ []) t) p z turns (length (op_text o ++ (codes " | " ++ t)))
      → Ends (word_at step_word steps (op_text o ++ (codes " | " ++ t)) >>= (λ w. step_at (op_at inner most) on before w.0 w.1)) p z turns (length (op_text o ++ (codes " | " ++ t)))
  unfolding op_at
  op_full (op.Filter a) t before on p z turns few fit next =
      let short = behind_le (codes "filter ") (expr_text a ++ (codes " | " ++ t)) in
      ends_then (inner (expr_text a ++ (codes " | " ++ t)) >>= (λ a. Ok (op.Filter a.0, a.1))) (λ o. literal_at (codes " | ") o.1 >>= (λ rest. on (before ++ o.0 ∷ []) rest)) (op.Filter a) (codes " | " ++ t) p z turns _
      (ends_then (inner (expr_text a ++ (codes " | " ++ t))) (λ a. Ok (op.Filter a.0, a.1)) a (codes " | " ++ t) (op.Filter a) (codes " | " ++ t) turns _
      (expr_ends a (codes " | " ++ t) turns _ fit refl few (omega arith)) (inl refl))
      next
  op_full (op.Map a) t before on p z turns few fit next =
      let short = behind_le (codes "map ") (expr_text a ++ (codes " | " ++ t)) in
      ends_then (inner (expr_text a ++ (codes " | " ++ t)) >>= (λ a. Ok (op.Map a.0, a.1))) (λ o. literal_at (codes " | ") o.1 >>= (λ rest. on (before ++ o.0 ∷ []) rest)) (op.Map a) (codes " | " ++ t) p z turns _
      (ends_then (inner (expr_text a ++ (codes " | " ++ t))) (λ a. Ok (op.Map a.0, a.1)) a (codes " | " ++ t) (op.Map a) (codes " | " ++ t) turns _
      (expr_ends a (codes " | " ++ t) turns _ fit refl few (omega arith)) (inl refl))
      next
  op_full (op.FlatMap s) t before on p z turns few fit next =
      let short = behind_le (codes "flatmap ") (spread_text s ++ (codes " | " ++ t)) in
      ends_then (spread_at inner most (spread_text s ++ (codes " | " ++ t)) >>= (λ a. Ok (op.FlatMap a.0, a.1))) (λ o. literal_at (codes " | ") o.1 >>= (λ rest. on (before ++ o.0 ∷ []) rest)) (op.FlatMap s) (codes " | " ++ t) p z turns _
      (ends_then (spread_at inner most (spread_text s ++ (codes " | " ++ t))) (λ a. Ok (op.FlatMap a.0, a.1)) s (codes " | " ++ t) (op.FlatMap s) (codes " | " ++ t) turns _
      (ends_within _ s (codes " | " ++ t) turns (length (spread_text s ++ (codes " | " ++ t))) turns _ (omega arith) (spread_full s (codes " | " ++ t) turns few fit refl)) (inl refl))
      next
  op_full op.Distinct t before on p z turns few fit next = next

  -- the end of a pipeline
  end_full : (last : End) (before : List Op) (on : List Op → List ℕ → Read Pipeline)
      → word_at step_word steps (end_text last) >>= (λ w. step_at (op_at inner most) on before w.0 w.1) ≡ Ok (record { ops = before; end = last }, [])
  end_full end.Count before on = refl
  end_full end.Sum before on = refl
  end_full end.Min before on = refl
  end_full end.Max before on = refl
  end_full end.Collect before on = refl
  end_full end.Each before on = refl

  -- the further operations and the end
  steps_full : (ops before : List Op) (last : End) (turns : ℕ) → turns ≤ most → list_all op_fits ops ≡ true
      → Ends (steps_at (op_at inner most) turns before (ops_text ops ++ end_text last)) (record { ops = before ++ ops; end = last }) [] turns (length (ops_text ops ++ end_text last))
  steps_full ops before last zero few fit = inr (length (ops_text ops ++ end_text last), steps_none (op_at inner most) zero before (ops_text ops ++ end_text last) refl, omega arith)
  steps_full [] before last (suc turns) few fit =
      inl (steps_turn (op_at inner most) (suc turns) before (end_text last) (omega arith) ∙ end_full last before (steps_at (op_at inner most) (suc turns - 1))
      ∙ ap (λ l. Ok (record { ops = l; end = last }, [])) (sym (append-nil before)))
  steps_full (o ∷ ops) before last (suc turns) few fit =
      let parts = both_true (op_fits o) (list_all op_fits ops) fit in
      let size = ap length apart in
      let short = behind_le (op_text o) (codes " | " ++ (ops_text ops ++ end_text last)) in
      ends_along _ (word_at step_word steps (op_text o ++ (codes " | " ++ (ops_text ops ++ end_text last))) >>= (λ w. step_at (op_at inner most) (steps_at (op_at inner most) turns) before w.0 w.1)) _ [] (suc turns) _
      (steps_turn (op_at inner most) (suc turns) before (ops_text (o ∷ ops) ++ end_text last) (omega arith)
      ∙ ap (λ n. word_at step_word steps (ops_text (o ∷ ops) ++ end_text last) >>= (λ w. step_at (op_at inner most) (steps_at (op_at inner most) n) before w.0 w.1)) (let one : suc turns - 1 ≡ turns = omega arith in one)
      ∙ ap (λ t. word_at step_word steps t >>= (λ w. step_at (op_at inner most) (steps_at (op_at inner most) turns) before w.0 w.1)) apart)
      (ends_within _ _ [] (suc turns) (length (op_text o ++ (codes " | " ++ (ops_text ops ++ end_text last)))) (suc turns) _ (omega arith)
      (op_full o (ops_text ops ++ end_text last) before (steps_at (op_at inner most) turns) (record { ops = before ++ o ∷ ops; end = last }) [] (suc turns) few parts.0
      (ends_within _ _ [] turns (length (ops_text ops ++ end_text last)) (suc turns) _ (omega arith)
      (ends_to _ _ _ turns _ (append_assoc before (o ∷ []) ops) (steps_full ops (before ++ o ∷ []) last turns (omega arith) parts.1)))))
    where
      apart : ops_text (o ∷ ops) ++ end_text last ≡ op_text o ++ (codes " | " ++ (ops_text ops ++ end_text last))
      apart = simp append_assoc

      ends_to : (l m : List Op) (r : Read Pipeline) (n k : ℕ) → l ≡ m → Ends r (record { ops = l; end = last }) [] n k → Ends r (record { ops = m; end = last }) [] n k
      ends_to l m r n k e (inl f) = inl (f ∙ ap (λ x. Ok (record { ops = x; end = last }, [])) e)
      ends_to l m r n k e (inr f) = inr f

-- each pipeline's text is read as that pipeline, unless the reader runs out of levels or turns
pub pipeline_full : (p : Pipeline) (most : ℕ) → fits p ≡ true → (pipeline_at most (text_of p) ≡ Ok p) ⊎ ((left : ℕ) × (pipeline_at most (text_of p) ≡ Err left) × (left + most ≤ length (text_of p)))
unfolding pipeline_at
pipeline_full p most fit = go (steps_full most p.ops [] p.end most (omega arith) fit)
  where
    go : Ends (steps_at (op_at (expr_at most) most) most [] (text_of p)) p [] most (length (text_of p))
        → (whole_of (steps_at (op_at (expr_at most) most) most [] (text_of p)) ≡ Ok p) ⊎ ((left : ℕ) × (whole_of (steps_at (op_at (expr_at most) most) most [] (text_of p)) ≡ Err left) × (left + most ≤ length (text_of p)))
    go (inl f) = inl (ap whole_of f)
    go (inr f) = inr (f.0, ap whole_of f.1, f.2)
