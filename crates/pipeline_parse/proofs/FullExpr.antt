-- Each text of an expression or a pipeline is read, unless a reader runs out of levels or turns.
use Rattle.std.proofs.Common.{◌≡◌, ℕ, zero, suc, ◌+◌, ◌-◌, ◌≤◌, Bool, true, false, cond, List, [], ◌∷◌, ◌++◌, length, Ok, Err, codes, refl, sym, ap, ◌∙◌, subst, arith, append_assoc, true≢false, ◌⊎◌, inl, inr}
use Rattle.std.proofs.lemmas.List.{length-append}
use Rattle.grid_base.specs.declared.datum.Datum.{Datum}
use Rattle.grid_base.specs.declared.datum.Datum.TheVariants as datum
use Rattle.pipeline_expr.specs.declared.expr.Expr.{Expr}
use Rattle.pipeline_expr.specs.declared.expr.Expr.TheOpen.{Expr-F}
use Rattle.pipeline_expr.specs.declared.expr.Expr.TheViews.{roll-Expr}
use Rattle.pipeline_expr.specs.declared.expr.Expr.TheFolds.{ind-Expr, map-Expr}
use Rattle.pipeline_expr.specs.declared.expr.Expr.TheVariants as e
use Rattle.pipeline_parse.specs.Grammar.{datum_text, expr_fits, expr_text}
use Rattle.pipeline_parse.specs.Reading.{Read, ◌>>=◌, begins_plain, literal_at, plain_at, word_at}
use Rattle.pipeline_parse.specs.Words.{between_word, form_word, forms, signs}
use Rattle.pipeline_parse.specs.Parsing.{binary_at, expr_at, form_at, joined, layer_at, length_at, not_at, starts_at}
use Rattle.pipeline_parse.specs.declared.forms.Form.{Form}
use Rattle.pipeline_parse.specs.declared.forms.Form.TheVariants as form
use Rattle.pipeline_parse.specs.declared.forms.Between.{Between}
use Rattle.pipeline_parse.specs.declared.forms.Between.TheVariants as sign
use Rattle.pipeline_parse.proofs.Depth.{expr_level, expr_none}
use Rattle.pipeline_parse.proofs.Equations.{fits_Length, fits_Lit, fits_Not, fits_Starts, joined_fits, joined_text, text_It, text_Key, text_Length, text_Lit, text_Not, text_Starts, text_Value}
use Rattle.pipeline_parse.proofs.Full.{IsPlain, calm, plain_full}
use Rattle.pipeline_parse.proofs.WordLaws.{both_true}

-- x is read and y is left; or the reader ran out of levels, having taken at least a byte a level
abbrev pub Ends : {A : Type 0} → Read A → A → List ℕ → ℕ → ℕ → Type 0
Ends r x y depth size = (r ≡ Ok (x, y)) ⊎ ((left : ℕ) × (r ≡ Err left) × (left + depth ≤ size))

-- what is the same reading ends the same way
pub ends_along : {A : Type 0} (r q : Read A) (x : A) (y : List ℕ) (depth size : ℕ) → r ≡ q → Ends q x y depth size → Ends r x y depth size
ends_along r q x y depth size e (inl f) = inl (e ∙ f)
ends_along r q x y depth size e (inr f) = inr (f.0, e ∙ f.1, f.2)

-- the same with fewer levels, in a longer text
pub ends_within : {A : Type 0} (r : Read A) (x : A) (y : List ℕ) (depth size level whole : ℕ) → size + level ≤ whole + depth → Ends r x y depth size → Ends r x y level whole
ends_within r x y depth size level whole le (inl f) = inl f
ends_within r x y depth size level whole le (inr f) = let h = f.2 in inr (f.0, f.1, omega arith)

-- one reading behind another
pub ends_then : {A C : Type 0} (r : Read A) (k : A × List ℕ → Read C) (x : A) (y : List ℕ) (c : C) (z : List ℕ) (depth size : ℕ)
    → Ends r x y depth size → Ends (k (x, y)) c z depth size → Ends (r >>= k) c z depth size
ends_then r k x y c z depth size (inl f) next = ends_along (r >>= k) (k (x, y)) c z depth size (ap (λ o. o >>= k) f) next
ends_then r k x y c z depth size (inr f) next = inr (f.0, ap (λ o. o >>= k) f.1, f.2)

-- an expression's text is read
abbrev pub Full : Expr → Type 0
Full a = (depth : ℕ) (y : List ℕ) → expr_fits a ≡ true → calm y ≡ true → Ends (expr_at depth (expr_text a ++ y)) a y depth (length (expr_text a ++ y))

-- one level taken: the text without its first byte is read with one level less
level : (a : Expr) (depth : ℕ) (y : List ℕ) (b : ℕ) (s : List ℕ) → expr_text a ++ y ≡ b ∷ s
    → ((inner : ℕ) → suc inner ≡ depth → Ends (layer_at (expr_at inner) (b ∷ s)) a y inner (length s)) → Ends (expr_at depth (expr_text a ++ y)) a y depth (length (expr_text a ++ y))
level a zero y b s e on = inr (length (expr_text a ++ y), expr_none zero (expr_text a ++ y) refl, omega arith)
level a (suc inner) y b s e on =
    let size : length (expr_text a ++ y) ≡ suc (length s) = ap length e in
    ends_along (expr_at (suc inner) (expr_text a ++ y)) (layer_at (expr_at inner) (b ∷ s)) a y (suc inner) (length (expr_text a ++ y))
    (ap (expr_at (suc inner)) e ∙ expr_level (suc inner) (b ∷ s) (omega arith) ∙ ap (λ d. layer_at (expr_at d) (b ∷ s)) (let one : suc inner - 1 ≡ inner = omega arith in one))
    (ends_within (layer_at (expr_at inner) (b ∷ s)) a y inner (length s) (suc inner) (length (expr_text a ++ y)) (omega arith) (on inner refl))

-- three texts and a rest, one behind the other
three_on : (a b c d y : List ℕ) → (a ++ (b ++ (c ++ d))) ++ y ≡ a ++ (b ++ (c ++ (d ++ y)))
three_on a b c d y = simp append_assoc

-- behind the word of a form that form is read
form_enters : (inner : List ℕ → Read Expr) (f : Form) (s : List ℕ) → layer_at inner (form_word f ++ s) ≡ form_at inner f s
unfolding layer_at
form_enters inner form.Key s = refl
form_enters inner form.Value s = refl
form_enters inner form.It s = refl
form_enters inner (form.Flag true) s = refl
form_enters inner (form.Flag false) s = refl
form_enters inner form.Open s = refl
form_enters inner form.Not s = refl
form_enters inner form.Length s = refl
form_enters inner form.Starts s = refl

-- the sign between two expressions is read of itself
between_own : (w : Between) (s : List ℕ) → word_at between_word signs (between_word w ++ s) ≡ Ok (w, s)
between_own sign.Add s = refl
between_own sign.Sub s = refl
between_own sign.Mul s = refl
between_own sign.Same s = refl
between_own sign.Less s = refl
between_own sign.And s = refl
between_own sign.Or s = refl

-- a sign isn't a digit
between_calm : (w : Between) (s : List ℕ) → calm (between_word w ++ s) ≡ true
between_calm sign.Add s = refl
between_calm sign.Sub s = refl
between_calm sign.Mul s = refl
between_calm sign.Same s = refl
between_calm sign.Less s = refl
between_calm sign.And s = refl
between_calm sign.Or s = refl

-- a word that is an expression
word_full : (f : Form) (a : Expr) (b : ℕ) (w : List ℕ) → form_word f ≡ b ∷ w → expr_text a ≡ form_word f → ((inner : List ℕ → Read Expr) (s : List ℕ) → form_at inner f s ≡ Ok (a, s)) → Full a
word_full f a b w first text is depth y fit quiet =
    level a depth y b (w ++ y) (ap (λ t. t ++ y) (text ∙ first))
    (λ inner _. inl (ap (λ t. layer_at (expr_at inner) (t ++ y)) (sym first) ∙ form_enters (expr_at inner) f y ∙ is (expr_at inner) y))

-- the text of the key is read
key_full : Full e.Key
unfolding form_at
key_full = word_full form.Key e.Key 107 (codes "ey") refl text_Key (λ inner s. refl)

-- the text of the value is read
value_full : Full e.Value
unfolding form_at
value_full = word_full form.Value e.Value 118 (codes "alue") refl text_Value (λ inner s. refl)

-- the text of the element itself is read
it_full : Full e.It
unfolding form_at
it_full = word_full form.It e.It 105 (codes "t") refl text_It (λ inner s. refl)

-- the text of a flag is read
flag_full : (b : Bool) → Full (e.Lit (datum.Flag b))
unfolding form_at
flag_full true = word_full (form.Flag true) (e.Lit (datum.Flag true)) 116 (codes "rue") refl (text_Lit (datum.Flag true)) (λ inner s. refl)
flag_full false = word_full (form.Flag false) (e.Lit (datum.Flag false)) 102 (codes "alse") refl (text_Lit (datum.Flag false)) (λ inner s. refl)

-- the text of an int or a text is read
plain_level : (d : Datum) → IsPlain d → Full (e.Lit d)
unfolding layer_at
plain_level d is depth y fit quiet = go (datum_text d ++ y) refl
  where
    read : (begins_plain (datum_text d ++ y) ≡ true) × (plain_at (datum_text d ++ y) ≡ Ok (d, y))
    read = plain_full d y is (sym (fits_Lit d) ∙ fit) quiet

    text : expr_text (e.Lit d) ++ y ≡ datum_text d ++ y
    text = ap (λ t. t ++ y) (text_Lit d)

    go : (s : List ℕ) → datum_text d ++ y ≡ s → Ends (expr_at depth (expr_text (e.Lit d) ++ y)) (e.Lit d) y depth (length (expr_text (e.Lit d) ++ y))
    go [] f = absurd (true≢false (sym (ap begins_plain (sym f) ∙ read.0)))
    go (b ∷ s) f =
        level (e.Lit d) depth y b s (text ∙ f)
        (λ inner _. inl (
        ap (layer_at (expr_at inner)) (sym f)
        ∙ ap (λ t. cond t (plain_at (datum_text d ++ y) >>= (λ p. Ok (e.Lit p.0, p.1))) (word_at form_word forms (datum_text d ++ y) >>= (λ p. form_at (expr_at inner) p.0 p.1))) read.0
        ∙ ap (λ r. r >>= (λ p. Ok (e.Lit p.0, p.1))) read.1
        ))

-- the text of any literal is read
lit_full : (d : Datum) → Full (e.Lit d)
lit_full (datum.Int z) = plain_level (datum.Int z) tt
lit_full (datum.Text t) = plain_level (datum.Text t) tt
lit_full (datum.Flag b) = flag_full b

-- what is behind a front is no longer than the whole
pub behind_le : (a b : List ℕ) → length b ≤ length (a ++ b)
behind_le a b = omega (arith, length-append a b)

-- the text of two joined expressions is read where theirs are
binary_full : (w : Between) (a b : Expr) → Full a → Full b → Full (joined w a b)
unfolding form_at binary_at
binary_full w a b full_a full_b depth y fit quiet =
    level (joined w a b) depth y 40 ((expr_text a ++ (between_word w ++ (expr_text b ++ codes ")"))) ++ y) (ap (λ t. t ++ y) (joined_text w a b)) (λ inner _. go inner)
  where
    fit_both : (expr_fits a ≡ true) × (expr_fits b ≡ true)
    fit_both = both_true (expr_fits a) (expr_fits b) (sym (joined_fits w a b) ∙ fit)

    tail_b : List ℕ
    tail_b = expr_text b ++ (codes ")" ++ y)

    go : (inner : ℕ) → Ends (layer_at (expr_at inner) (40 ∷ ((expr_text a ++ (between_word w ++ (expr_text b ++ codes ")"))) ++ y))) (joined w a b) y inner (length ((expr_text a ++ (between_word w ++ (expr_text b ++ codes ")"))) ++ y))
    go inner =
        let apart = three_on (expr_text a) (between_word w) (expr_text b) (codes ")") y in
        let size = ap length apart in
        let short_b = behind_le (expr_text a ++ between_word w) (expr_text b ++ (codes ")" ++ y)) in
        let joined_size = ap length (append_assoc (expr_text a) (between_word w) (expr_text b ++ (codes ")" ++ y))) in
        ends_along _ (binary_at (expr_at inner) (expr_text a ++ (between_word w ++ (expr_text b ++ (codes ")" ++ y))))) (joined w a b) y inner _
        (form_enters (expr_at inner) form.Open ((expr_text a ++ (between_word w ++ (expr_text b ++ codes ")"))) ++ y) ∙ ap (binary_at (expr_at inner)) apart)
        (ends_within _ (joined w a b) y inner (length (expr_text a ++ (between_word w ++ (expr_text b ++ (codes ")" ++ y))))) inner _ (omega arith)
        (ends_then (expr_at inner (expr_text a ++ (between_word w ++ (expr_text b ++ (codes ")" ++ y))))) _ a (between_word w ++ (expr_text b ++ (codes ")" ++ y))) (joined w a b) y inner _
        (full_a inner (between_word w ++ (expr_text b ++ (codes ")" ++ y))) fit_both.0 (between_calm w (expr_text b ++ (codes ")" ++ y))))
        (ends_along _ (expr_at inner (expr_text b ++ (codes ")" ++ y)) >>= (λ b. literal_at (codes ")") b.1 >>= (λ rest. Ok (joined w a b.0, rest)))) (joined w a b) y inner _
        (ap (λ r. r >>= (λ sign. expr_at inner sign.1 >>= (λ b. literal_at (codes ")") b.1 >>= (λ rest. Ok (joined sign.0 a b.0, rest))))) (between_own w (expr_text b ++ (codes ")" ++ y))))
        (ends_then (expr_at inner (expr_text b ++ (codes ")" ++ y))) (λ b. literal_at (codes ")") b.1 >>= (λ rest. Ok (joined w a b.0, rest))) b (codes ")" ++ y) (joined w a b) y inner _
        (ends_within _ b (codes ")" ++ y) inner (length (expr_text b ++ (codes ")" ++ y))) inner _ (omega arith) (full_b inner (codes ")" ++ y) fit_both.1 refl))
        (inl refl)))))

-- what stands in parentheses behind a word
wrap : Form → Expr → Expr
wrap form.Not a = e.Not a
wrap form.Length a = e.Length a
wrap _ a = a

-- an expression behind a word, in parentheses
closed_full : (f : Form) (a : Expr) (made : Expr) (b : ℕ) (w : List ℕ) → form_word f ≡ b ∷ w → expr_text made ≡ form_word f ++ (expr_text a ++ codes ")") → expr_fits made ≡ expr_fits a
    → ((inner : List ℕ → Read Expr) (s : List ℕ) → form_at inner f s ≡ inner s >>= (λ p. literal_at (codes ")") p.1 >>= (λ rest. Ok (wrap f p.0, rest)))) → wrap f a ≡ made → Full a → Full made
closed_full f a made b w first text fit_is is same full depth y fit quiet =
    level made depth y b (w ++ ((expr_text a ++ codes ")") ++ y)) whole (λ inner _. go inner)
  where
    whole : expr_text made ++ y ≡ b ∷ (w ++ ((expr_text a ++ codes ")") ++ y))
    whole = ap (λ t. t ++ y) text ∙ append_assoc (form_word f) (expr_text a ++ codes ")") y ∙ ap (λ t. t ++ ((expr_text a ++ codes ")") ++ y)) first

    tail : (expr_text a ++ codes ")") ++ y ≡ expr_text a ++ (codes ")" ++ y)
    tail = append_assoc (expr_text a) (codes ")") y

    go : (inner : ℕ) → Ends (layer_at (expr_at inner) (b ∷ (w ++ ((expr_text a ++ codes ")") ++ y)))) made y inner (length (w ++ ((expr_text a ++ codes ")") ++ y)))
    go inner =
        let short = behind_le w ((expr_text a ++ codes ")") ++ y) in
        let size = ap length tail in
        ends_along _ (expr_at inner (expr_text a ++ (codes ")" ++ y)) >>= (λ p. literal_at (codes ")") p.1 >>= (λ rest. Ok (wrap f p.0, rest)))) made y inner _
        (ap (λ t. layer_at (expr_at inner) (t ++ ((expr_text a ++ codes ")") ++ y))) (sym first)
        ∙ form_enters (expr_at inner) f ((expr_text a ++ codes ")") ++ y)
        ∙ is (expr_at inner) ((expr_text a ++ codes ")") ++ y)
        ∙ ap (λ t. expr_at inner t >>= (λ p. literal_at (codes ")") p.1 >>= (λ rest. Ok (wrap f p.0, rest)))) tail)
        (ends_then (expr_at inner (expr_text a ++ (codes ")" ++ y))) (λ p. literal_at (codes ")") p.1 >>= (λ rest. Ok (wrap f p.0, rest))) a (codes ")" ++ y) made y inner _
        (ends_within _ a (codes ")" ++ y) inner (length (expr_text a ++ (codes ")" ++ y))) inner _ (omega arith) (full inner (codes ")" ++ y) (sym fit_is ∙ fit) refl))
        (inl (ap (λ m. Ok (m, y)) same)))

-- the text of a negation is read
not_full : (a : Expr) → Full a → Full (e.Not a)
unfolding form_at not_at wrap
not_full a = closed_full form.Not a (e.Not a) 110 (codes "ot(") refl (text_Not a) (fits_Not a) (λ inner s. refl) refl

-- the text of a length is read
length_full : (a : Expr) → Full a → Full (e.Length a)
unfolding form_at length_at wrap
length_full a = closed_full form.Length a (e.Length a) 108 (codes "ength(") refl (text_Length a) (fits_Length a) (λ inner s. refl) refl

-- the text of a test of a beginning is read
starts_full : (a b : Expr) → Full a → Full b → Full (e.Starts a b)
unfolding form_at starts_at
starts_full a b full_a full_b depth y fit quiet =
    level (e.Starts a b) depth y 115 (codes "tarts(" ++ ((expr_text a ++ (codes ", " ++ (expr_text b ++ codes ")"))) ++ y)) (ap (λ t. t ++ y) (text_Starts a b)) (λ inner _. go inner)
  where
    fit_both : (expr_fits a ≡ true) × (expr_fits b ≡ true)
    fit_both = both_true (expr_fits a) (expr_fits b) (sym (fits_Starts a b) ∙ fit)

    go : (inner : ℕ) → Ends (layer_at (expr_at inner) (codes "starts(" ++ ((expr_text a ++ (codes ", " ++ (expr_text b ++ codes ")"))) ++ y))) (e.Starts a b) y inner
        (length (codes "tarts(" ++ ((expr_text a ++ (codes ", " ++ (expr_text b ++ codes ")"))) ++ y)))
    go inner =
        let apart = three_on (expr_text a) (codes ", ") (expr_text b) (codes ")") y in
        let size = ap length apart in
        let short = behind_le (codes "tarts(") ((expr_text a ++ (codes ", " ++ (expr_text b ++ codes ")"))) ++ y) in
        let short_b = behind_le (expr_text a ++ codes ", ") (expr_text b ++ (codes ")" ++ y)) in
        let joined_size = ap length (append_assoc (expr_text a) (codes ", ") (expr_text b ++ (codes ")" ++ y))) in
        ends_along _ (starts_at (expr_at inner) (expr_text a ++ (codes ", " ++ (expr_text b ++ (codes ")" ++ y))))) (e.Starts a b) y inner _
        (form_enters (expr_at inner) form.Starts ((expr_text a ++ (codes ", " ++ (expr_text b ++ codes ")"))) ++ y) ∙ ap (starts_at (expr_at inner)) apart)
        (ends_within _ (e.Starts a b) y inner (length (expr_text a ++ (codes ", " ++ (expr_text b ++ (codes ")" ++ y))))) inner _ (omega arith)
        (ends_then (expr_at inner (expr_text a ++ (codes ", " ++ (expr_text b ++ (codes ")" ++ y))))) _ a (codes ", " ++ (expr_text b ++ (codes ")" ++ y))) (e.Starts a b) y inner _
        (full_a inner (codes ", " ++ (expr_text b ++ (codes ")" ++ y))) fit_both.0 refl)
        (ends_then (expr_at inner (expr_text b ++ (codes ")" ++ y))) (λ b. literal_at (codes ")") b.1 >>= (λ rest. Ok (e.Starts a b.0, rest))) b (codes ")" ++ y) (e.Starts a b) y inner _
        (ends_within _ b (codes ")" ++ y) inner (length (expr_text b ++ (codes ")" ++ y))) inner _ (omega arith) (full_b inner (codes ")" ++ y) fit_both.1 refl))
        (inl refl))))

-- one form whose parts are read
full_form : (y : Expr-F ((a : Expr) × Full a)) → Full (roll-Expr (map-Expr ((a : Expr) × Full a) Expr (λ p. p.0) y))
full_form Expr-F.Key = subst Full (sym e.rolls-Key) key_full
full_form Expr-F.Value = subst Full (sym e.rolls-Value) value_full
full_form Expr-F.It = subst Full (sym e.rolls-It) it_full
full_form (Expr-F.Lit d) = subst Full (sym (e.rolls-Lit d)) (lit_full d)
full_form (Expr-F.Add a b) = subst Full (sym (e.rolls-Add a.0 b.0)) (binary_full sign.Add a.0 b.0 a.1 b.1)
full_form (Expr-F.Sub a b) = subst Full (sym (e.rolls-Sub a.0 b.0)) (binary_full sign.Sub a.0 b.0 a.1 b.1)
full_form (Expr-F.Mul a b) = subst Full (sym (e.rolls-Mul a.0 b.0)) (binary_full sign.Mul a.0 b.0 a.1 b.1)
full_form (Expr-F.Same a b) = subst Full (sym (e.rolls-Same a.0 b.0)) (binary_full sign.Same a.0 b.0 a.1 b.1)
full_form (Expr-F.Less a b) = subst Full (sym (e.rolls-Less a.0 b.0)) (binary_full sign.Less a.0 b.0 a.1 b.1)
full_form (Expr-F.And a b) = subst Full (sym (e.rolls-And a.0 b.0)) (binary_full sign.And a.0 b.0 a.1 b.1)
full_form (Expr-F.Or a b) = subst Full (sym (e.rolls-Or a.0 b.0)) (binary_full sign.Or a.0 b.0 a.1 b.1)
full_form (Expr-F.Not a) = subst Full (sym (e.rolls-Not a.0)) (not_full a.0 a.1)
full_form (Expr-F.Length a) = subst Full (sym (e.rolls-Length a.0)) (length_full a.0 a.1)
full_form (Expr-F.Starts a b) = subst Full (sym (e.rolls-Starts a.0 b.0)) (starts_full a.0 b.0 a.1 b.1)

-- each expression's text is read
pub expr_full : (a : Expr) → Full a
expr_full = ind-Expr Full (λ x y is. subst (λ z. Full (roll-Expr z)) is (full_form y))
