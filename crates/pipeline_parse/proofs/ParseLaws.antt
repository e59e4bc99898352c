-- The readers of expressions and pipelines are exact.
use Rattle.std.proofs.Common.{◌≡◌, ℕ, zero, suc, Bool, true, false, ◌&&◌, ◌||◌, ◌==◌, cond, List, [], ◌∷◌, ◌++◌, Option, Some, None, Ok, codes, refl, sym, ap, ◌∙◌, subst, append_assoc}
use Rattle.std.specs.List.{list_all}
use Rattle.std.proofs.lemmas.List.{append-nil}
use Rattle.grid_base.specs.declared.datum.Datum.TheVariants as datum
use Rattle.pipeline_expr.specs.declared.expr.Expr.{Expr}
use Rattle.pipeline_expr.specs.declared.expr.Expr.TheVariants as e
use Rattle.pipeline_expr.specs.declared.spread.Spread.TheVariants as spread
use Rattle.pipeline_expr.specs.declared.op.Op.{Op}
use Rattle.pipeline_expr.specs.declared.op.Op.TheVariants as op
use Rattle.pipeline_expr.specs.declared.end.End.TheVariants as end
use Rattle.pipeline_parse.specs.Grammar.{datum_fits, datum_text, end_text, expr_fits, expr_text, fits, further_text, op_fits, op_text, ops_text, spread_fits, spread_text, text_of}
use Rattle.pipeline_parse.specs.Reading.{Read, ◌>>=◌, first, is_digit, literal_at, plain_at, word_at}
use Rattle.pipeline_parse.specs.Words.{behind_word, behinds, between_word, form_word, forms, opening_word, openings, signs, start_word, step_word, steps}
use Rattle.pipeline_parse.specs.Parsing.{behind_at, binary_at, each_at, expr_at, form_at, further_at, joined, layer_at, length_at, not_at, op_at, opening_at, spread_at, starts_at, step_at, steps_at, words_at}
use Rattle.pipeline_parse.specs.declared.forms.Form.{Form}
use Rattle.pipeline_parse.specs.declared.forms.Form.TheVariants as form
use Rattle.pipeline_parse.specs.declared.forms.Between.TheVariants as sign
use Rattle.pipeline_parse.specs.declared.forms.Opening.{Opening}
use Rattle.pipeline_parse.specs.declared.forms.Opening.TheVariants as opening
use Rattle.pipeline_parse.specs.declared.forms.Behind.{Behind}
use Rattle.pipeline_parse.specs.declared.forms.Behind.TheVariants as behind
use Rattle.pipeline_parse.specs.declared.forms.Start.{Start}
use Rattle.pipeline_parse.specs.declared.forms.Start.TheVariants as start
use Rattle.pipeline_parse.specs.declared.forms.Step.{Step}
use Rattle.pipeline_parse.specs.declared.forms.Step.TheVariants as step
use Rattle.pipeline_parse.proofs.Equations.{fits_Key, fits_Length, fits_Lit, fits_Not, fits_It, fits_Starts, fits_Value, joined_fits, joined_text, text_It, text_Key, text_Length, text_Lit, text_Not, text_Starts, text_Value}
use Rattle.pipeline_parse.proofs.Laws.{Exact, behind_reads, choice_reads, done_reads, then_reads}
use Rattle.pipeline_parse.proofs.WordLaws.{literal_then, both_true, word_reads}
use Rattle.pipeline_parse.proofs.ValueLaws.{plain_reads}

-- a test that always passes
pub any : {A : Type 0} → A → Bool
any x = true

-- where both fit, both together fit
pub both_fit : (a b : Bool) → a ≡ true → b ≡ true → (a && b) ≡ true
both_fit a b e f = ap (λ x. x && b) e ∙ f

-- four texts one behind the other, in other groups
three : (a b c d : List ℕ) → ((a ++ b) ++ c) ++ d ≡ a ++ (b ++ (c ++ d))
three a b c d = simp append_assoc

module _ (inner : List ℕ → Read Expr) (law : Exact [] expr_text expr_fits inner) where
  -- the reader of two joined expressions is exact
  binary_reads : Exact (codes "(") expr_text expr_fits (binary_at inner)
  unfolding binary_at any
  binary_reads =
      then_reads (codes "(") expr_text expr_fits inner expr_text expr_fits
      (λ a s. word_at between_word signs s >>= (λ sign. inner sign.1 >>= (λ b. literal_at (codes ")") b.1 >>= (λ rest. Ok (joined sign.0 a b.0, rest))))) law
      (λ a fa. then_reads (codes "(" ++ expr_text a) between_word any (word_at between_word signs) expr_text expr_fits
      (λ s t. inner t >>= (λ b. literal_at (codes ")") b.1 >>= (λ rest. Ok (joined s a b.0, rest)))) (word_reads between_word any sign.Add signs refl refl refl)
      (λ s _. then_reads ((codes "(" ++ expr_text a) ++ between_word s) expr_text expr_fits inner expr_text expr_fits
      (λ b t. literal_at (codes ")") t >>= (λ rest. Ok (joined s a b, rest))) law
      (λ b fb. literal_then (((codes "(" ++ expr_text a) ++ between_word s) ++ expr_text b) (codes ")") expr_text expr_fits (λ rest. Ok (joined s a b, rest))
      (done_reads expr_text expr_fits ((((codes "(" ++ expr_text a) ++ between_word s) ++ expr_text b) ++ codes ")") (joined s a b)
      (joined_text s a b ∙ ap (λ x. 40 ∷ x) (sym (three (expr_text a) (between_word s) (expr_text b) (codes ")"))))
      (joined_fits s a b ∙ both_fit (expr_fits a) (expr_fits b) fa fb)))))

  -- the reader of a negation is exact
  not_reads : Exact (codes "not(") expr_text expr_fits (not_at inner)
  unfolding not_at
  not_reads =
      then_reads (codes "not(") expr_text expr_fits inner expr_text expr_fits (λ a s. literal_at (codes ")") s >>= (λ rest. Ok (e.Not a, rest))) law
      (λ a fa. literal_then (codes "not(" ++ expr_text a) (codes ")") expr_text expr_fits (λ rest. Ok (e.Not a, rest))
      (done_reads expr_text expr_fits ((codes "not(" ++ expr_text a) ++ codes ")") (e.Not a) (text_Not a) (fits_Not a ∙ fa)))

  -- the reader of a length is exact
  length_reads : Exact (codes "length(") expr_text expr_fits (length_at inner)
  unfolding length_at
  length_reads =
      then_reads (codes "length(") expr_text expr_fits inner expr_text expr_fits (λ a s. literal_at (codes ")") s >>= (λ rest. Ok (e.Length a, rest))) law
      (λ a fa. literal_then (codes "length(" ++ expr_text a) (codes ")") expr_text expr_fits (λ rest. Ok (e.Length a, rest))
      (done_reads expr_text expr_fits ((codes "length(" ++ expr_text a) ++ codes ")") (e.Length a) (text_Length a) (fits_Length a ∙ fa)))

  -- the reader of a test of a beginning is exact
  starts_reads : Exact (codes "starts(") expr_text expr_fits (starts_at inner)
  unfolding starts_at
  starts_reads =
      then_reads (codes "starts(") expr_text expr_fits inner expr_text expr_fits
      (λ a s. literal_at (codes ", ") s >>= (λ t. inner t >>= (λ b. literal_at (codes ")") b.1 >>= (λ rest. Ok (e.Starts a b.0, rest))))) law
      (λ a fa. literal_then (codes "starts(" ++ expr_text a) (codes ", ") expr_text expr_fits (λ t. inner t >>= (λ b. literal_at (codes ")") b.1 >>= (λ rest. Ok (e.Starts a b.0, rest))))
      (then_reads ((codes "starts(" ++ expr_text a) ++ codes ", ") expr_text expr_fits inner expr_text expr_fits (λ b t. literal_at (codes ")") t >>= (λ rest. Ok (e.Starts a b, rest))) law
      (λ b fb. literal_then (((codes "starts(" ++ expr_text a) ++ codes ", ") ++ expr_text b) (codes ")") expr_text expr_fits (λ rest. Ok (e.Starts a b, rest))
      (done_reads expr_text expr_fits ((((codes "starts(" ++ expr_text a) ++ codes ", ") ++ expr_text b) ++ codes ")") (e.Starts a b)
      (text_Starts a b ∙ ap (λ x. codes "starts(" ++ x) (sym (three (expr_text a) (codes ", ") (expr_text b) (codes ")"))))
      (fits_Starts a b ∙ both_fit (expr_fits a) (expr_fits b) fa fb)))))

  -- the reader of each form is exact
  form_reads : (f : Form) → Exact (form_word f) expr_text expr_fits (form_at inner f)
  unfolding form_at
  form_reads form.Key = done_reads expr_text expr_fits (codes "key") e.Key text_Key fits_Key
  form_reads form.Value = done_reads expr_text expr_fits (codes "value") e.Value text_Value fits_Value
  form_reads form.It = done_reads expr_text expr_fits (codes "it") e.It text_It fits_It
  form_reads (form.Flag b) = done_reads expr_text expr_fits (form_word (form.Flag b)) (e.Lit (datum.Flag b)) (text_Lit (datum.Flag b)) (fits_Lit (datum.Flag b))
  form_reads form.Open = binary_reads
  form_reads form.Not = not_reads
  form_reads form.Length = length_reads
  form_reads form.Starts = starts_reads

  -- the first byte of an int or a text
  plain_first : Option ℕ → Bool
  plain_first None = false
  plain_first (Some b) = b == 34 || (b == 45 || is_digit b)

  -- the reader of one layer is exact
  layer_reads : Exact [] expr_text expr_fits (layer_at inner)
  unfolding layer_at plain_first any
  layer_reads =
      choice_reads [] expr_text expr_fits plain_first (layer_at inner) (λ s. plain_at s >>= (λ d. Ok (e.Lit d.0, d.1))) (λ s. word_at form_word forms s >>= (λ f. form_at inner f.0 f.1))
      (λ s. is s)
      (then_reads [] datum_text datum_fits plain_at expr_text expr_fits (λ d y. Ok (e.Lit d, y)) plain_reads
      (λ d fd. done_reads expr_text expr_fits (datum_text d) (e.Lit d) (text_Lit d) (fits_Lit d ∙ fd)))
      (then_reads [] form_word any (word_at form_word forms) expr_text expr_fits (form_at inner) (word_reads form_word any form.Key forms refl refl refl) (λ f _. form_reads f))
    where
      is : (s : List ℕ) → layer_at inner s ≡ cond (plain_first (first s)) (plain_at s >>= (λ d. Ok (e.Lit d.0, d.1))) (word_at form_word forms s >>= (λ f. form_at inner f.0 f.1))
      is [] = refl
      is (b ∷ s) = refl

-- expressions with so many levels
pub expr_reads : (depth : ℕ) → Exact [] expr_text expr_fits (expr_at depth)
unfolding expr_at
expr_reads zero = record {
  tells = λ s. record { taken = []; rest = s; whole = refl; count = refl; again = λ z _. refl; some = e.Key; more = expr_text e.Key; keeps = fits_Key; begins = refl };
}
expr_reads (suc depth) = layer_reads (expr_at depth) (expr_reads depth)

-- the texts of further expressions, without the end of the list
abbrev pub front_text : List Expr → List ℕ
front_text [] = []
front_text (a ∷ list) = codes ", " ++ (expr_text a ++ front_text list)

-- the text of the further expressions is their front and the closing bracket
pub further_front : (list : List Expr) → further_text list ≡ front_text list ++ codes "]"
further_front [] = refl
further_front (a ∷ list) =
    ap (λ x. codes ", " ++ (expr_text a ++ x)) (further_front list) ∙ ap (λ x. codes ", " ++ x) (sym (append_assoc (expr_text a) (front_text list) (codes "]")))

-- the front with one expression more
front_push : (list : List Expr) (a : Expr) → front_text (list ++ a ∷ []) ≡ (front_text list ++ codes ", ") ++ expr_text a
front_push [] a = ap (λ x. codes ", " ++ x) (append-nil (expr_text a))
front_push (b ∷ list) a =
    ap (λ x. codes ", " ++ (expr_text b ++ x)) (front_push list a)
    ∙ ap (λ x. codes ", " ++ x) (sym (append_assoc (expr_text b) (front_text list ++ codes ", ") (expr_text a)) ∙ ap (λ x. x ++ expr_text a) (sym (append_assoc (expr_text b) (front_text list) (codes ", "))))

-- what passes of a list and of one more passes of both
pub all_push : {A : Type 0} (p : A → Bool) (xs : List A) (x : A) → list_all p xs ≡ true → p x ≡ true → list_all p (xs ++ x ∷ []) ≡ true
all_push p [] x e f = ap (λ b. b && true) f
all_push p (y ∷ xs) x e f =
    let parts = both_true (p y) (list_all p xs) e in
    both_fit (p y) (list_all p (xs ++ x ∷ [])) parts.0 (all_push p xs x parts.1 f)

module _ (inner : List ℕ → Read Expr) (law : Exact [] expr_text expr_fits inner) where
  -- all expressions of a list fit
  abbrev further_fits : List Expr → Bool
  further_fits = list_all expr_fits

  -- the further expressions behind those that a list has
  further_reads : (turns : ℕ) (list : List Expr) → further_fits list ≡ true → Exact (front_text list) further_text further_fits (further_at inner turns list)
  unfolding further_at any
  further_reads zero list fit = record {
    tells = λ s. record {
      taken = [];
      rest = s;
      whole = refl;
      count = refl;
      again = λ z _. refl;
      some = list;
      more = codes "]";
      keeps = fit;
      begins = further_front list ∙ ap (λ x. x ++ codes "]") (sym (append-nil (front_text list)));
    };
  }
  further_reads (suc turns) list fit =
      then_reads (front_text list) behind_word any (word_at behind_word behinds) further_text further_fits (behind_at inner (further_at inner turns) list)
      (word_reads behind_word any behind.Close behinds refl refl refl) (λ w _. go (further_reads turns) w)
    where
      go : ((list : List Expr) → further_fits list ≡ true → Exact (front_text list) further_text further_fits (further_at inner turns list)) → (w : Behind)
          → Exact (front_text list ++ behind_word w) further_text further_fits (behind_at inner (further_at inner turns) list w)
      go on behind.Close = done_reads further_text further_fits (front_text list ++ codes "]") list (further_front list) fit
      go on behind.Another =
          then_reads (front_text list ++ codes ", ") expr_text expr_fits inner further_text further_fits (λ a t. further_at inner turns (list ++ a ∷ []) t) law
          (λ a fa. subst (λ x. Exact x further_text further_fits (further_at inner turns (list ++ a ∷ []))) (front_push list a) (on (list ++ a ∷ []) (all_push expr_fits list a fit fa)))

  module _ (turns : ℕ) where
    each_reads : Exact (codes "[") spread_text spread_fits (each_at inner turns)
    unfolding each_at
    each_reads =
        then_reads (codes "[") expr_text expr_fits inner spread_text spread_fits
        (λ a s. further_at inner turns [] s >>= (λ more. Ok (spread.Each (record { first = a; rest = more.0 }), more.1))) law
        (λ a fa. then_reads (codes "[" ++ expr_text a) further_text further_fits (further_at inner turns []) spread_text spread_fits
        (λ list t. Ok (spread.Each (record { first = a; rest = list }), t)) (further_reads turns [] refl)
        (λ list fit. done_reads spread_text spread_fits ((codes "[" ++ expr_text a) ++ further_text list) (spread.Each (record { first = a; rest = list })) refl (both_fit (expr_fits a) (further_fits list) fa fit)))

    words_reads : Exact (codes "words(") spread_text spread_fits (words_at inner turns)
    unfolding words_at
    words_reads =
        then_reads (codes "words(") expr_text expr_fits inner spread_text spread_fits (λ a s. literal_at (codes ")") s >>= (λ rest. Ok (spread.Words a, rest))) law
        (λ a fa. literal_then (codes "words(" ++ expr_text a) (codes ")") spread_text spread_fits (λ rest. Ok (spread.Words a, rest))
        (done_reads spread_text spread_fits ((codes "words(" ++ expr_text a) ++ codes ")") (spread.Words a) refl fa))

    opening_reads : (o : Opening) → Exact (opening_word o) spread_text spread_fits (opening_at inner turns o)
    opening_reads opening.List = each_reads
    opening_reads opening.Words = words_reads

    spread_reads : Exact [] spread_text spread_fits (spread_at inner turns)
    unfolding spread_at any
    spread_reads =
        then_reads [] opening_word any (word_at opening_word openings) spread_text spread_fits (opening_at inner turns) (word_reads opening_word any opening.List openings refl refl refl) (λ o _. opening_reads o)

    -- an operation behind its word
    pub op_reads : (s : Start) → Exact (start_word s) op_text op_fits (op_at inner turns s)
    unfolding op_at
    op_reads start.Filter =
        then_reads (codes "filter ") expr_text expr_fits inner op_text op_fits (λ a s. Ok (op.Filter a, s)) law (λ a fa. done_reads op_text op_fits (codes "filter " ++ expr_text a) (op.Filter a) refl fa)
    op_reads start.Map =
        then_reads (codes "map ") expr_text expr_fits inner op_text op_fits (λ a s. Ok (op.Map a, s)) law (λ a fa. done_reads op_text op_fits (codes "map " ++ expr_text a) (op.Map a) refl fa)
    op_reads start.FlatMap =
        then_reads (codes "flatmap ") spread_text spread_fits (spread_at inner turns) op_text op_fits (λ a s. Ok (op.FlatMap a, s)) spread_reads
        (λ a fa. done_reads op_text op_fits (codes "flatmap " ++ spread_text a) (op.FlatMap a) refl fa)
    op_reads start.Distinct = done_reads op_text op_fits (codes "distinct") op.Distinct refl refl

-- the text of operations with one more
pub ops_push : (ops : List Op) (o : Op) → ops_text (ops ++ o ∷ []) ≡ (ops_text ops ++ op_text o) ++ codes " | "
ops_push [] o = append-nil (op_text o ++ codes " | ")
ops_push (p ∷ ops) o =
    ap (λ x. (op_text p ++ codes " | ") ++ x) (ops_push ops o)
    ∙ sym (append_assoc (op_text p ++ codes " | ") (ops_text ops ++ op_text o) (codes " | "))
    ∙ ap (λ x. x ++ codes " | ") (sym (append_assoc (op_text p ++ codes " | ") (ops_text ops) (op_text o)))

module _ (one : Start → List ℕ → Read Op) (law : (s : Start) → Exact (start_word s) op_text op_fits (one s)) where
  -- the further operations and the end, behind the operations that a pipeline has
  pub steps_reads : (turns : ℕ) (ops : List Op) → list_all op_fits ops ≡ true → Exact (ops_text ops) text_of fits (steps_at one turns ops)
  unfolding steps_at any
  steps_reads zero ops fit = record {
    tells = λ s. record {
      taken = [];
      rest = s;
      whole = refl;
      count = refl;
      again = λ z _. refl;
      some = record { ops = ops; end = end.Count };
      more = codes "count";
      keeps = fit;
      begins = ap (λ x. x ++ codes "count") (sym (append-nil (ops_text ops)));
    };
  }
  steps_reads (suc turns) ops fit =
      then_reads (ops_text ops) step_word any (word_at step_word steps) text_of fits (step_at one (steps_at one turns) ops) (word_reads step_word any (step.Last end.Count) steps refl refl refl)
      (λ w _. go (steps_reads turns) w)
    where
      go : ((ops : List Op) → list_all op_fits ops ≡ true → Exact (ops_text ops) text_of fits (steps_at one turns ops)) → (w : Step)
          → Exact (ops_text ops ++ step_word w) text_of fits (step_at one (steps_at one turns) ops w)
      go on (step.Last last) = done_reads text_of fits (ops_text ops ++ end_text last) (record { ops = ops; end = last }) refl fit
      go on (step.Op s) =
          behind_reads (ops_text ops) (start_word s) (ops_text ops ++ start_word s) refl op_text op_fits (one s) text_of fits
          (λ o t. literal_at (codes " | ") t >>= (λ rest. steps_at one turns (ops ++ o ∷ []) rest)) (law s)
          (λ o fo. literal_then (ops_text ops ++ op_text o) (codes " | ") text_of fits (λ rest. steps_at one turns (ops ++ o ∷ []) rest)
          (subst (λ x. Exact x text_of fits (steps_at one turns (ops ++ o ∷ []))) (ops_push ops o) (on (ops ++ o ∷ []) (all_push op_fits ops o fit fo))))
