-- The answer of a parse is exact: the pipeline of the text, or the place where no pipeline's text goes on.
use Rattle.std.proofs.Common.{◌≡◌, ℕ, zero, suc, ◌+◌, ◌-◌, ◌<◌, ◌≤◌, true, List, [], ◌∷◌, ◌++◌, length, take, Some, Result, Ok, Err, refl, sym, ap, ◌∙◌, subst, arith, append_assoc, ◌⊎◌, inl, inr}
use Rattle.std.proofs.lemmas.List.{append-nil, length-append, take_at}
use Rattle.std.proofs.lemmas.Bool.{cases_lt}
use Rattle.pipeline_expr.specs.declared.pipeline.Pipeline.{Pipeline}
use Rattle.pipeline_expr.specs.declared.op.Op.{Op}
use Rattle.pipeline_parse.specs.declared.forms.Start.{Start}
use Rattle.pipeline_parse.specs.Grammar.{BeginsText, StopsAt, fits, text_of}
use Rattle.pipeline_parse.specs.Reading.{Read, first}
use Rattle.pipeline_parse.specs.Parsing.{expr_at, op_at, pipeline_at, steps_at, whole_of}
use Rattle.pipeline_parse.proofs.Laws.{Exact, Tells}
use Rattle.pipeline_parse.proofs.ParseLaws.{expr_reads, op_reads, steps_reads}
use Rattle.pipeline_parse.proofs.FullPipeline.{pipeline_full}

-- a pipeline was read, and its text is the whole
record Whole (s : List ℕ) (p : Pipeline) : Type 0 where
  pub text : s ≡ text_of p
  pub keeps : fits p ≡ true

-- no pipeline's text goes on behind `taken`, and it stops there before any bytes with the same first one
record Halts (most : ℕ) (s : List ℕ) (left : ℕ) : Type 0 where
  pub taken : List ℕ
  pub rest : List ℕ
  pub whole : s ≡ taken ++ rest
  pub count : left ≡ length rest
  pub again : (z : List ℕ) → first rest ≡ first z → pipeline_at most (taken ++ z) ≡ Err (length z)
  pub begins : BeginsText taken

-- what a reader of pipelines answers: the whole text is one, or where it stops to be one
abbrev Answers : ℕ → List ℕ → Result Pipeline ℕ → Type 0
Answers most s (Ok p) = Whole s p
Answers most s (Err left) = Halts most s left

-- the reader answers so
answers : (most : ℕ) (s : List ℕ) → Answers most s (pipeline_at most s)
unfolding pipeline_at
answers most s = go (steps_at one most [] s) (law.tells s)
  where
    one : Start → List ℕ → Read Op
    one = op_at (expr_at most) most

    law : Exact [] text_of fits (steps_at one most [])
    law = steps_reads one (op_reads (expr_at most) (expr_reads most) most) most [] refl

    go : (o : Read Pipeline) → Tells [] text_of fits (steps_at one most []) s o → Answers most s (whole_of o)
    go (Ok (p, [])) h = record { text = h.whole ∙ append-nil h.taken ∙ sym h.reads; keeps = h.keeps }
    go (Ok (p, b ∷ y)) h = record {
      taken = h.taken;
      rest = b ∷ y;
      whole = h.whole;
      count = refl;
      again = λ z e. ap whole_of (h.again z e) ∙ left_over p z b e;
      begins = record { pipeline = p; more = []; keeps = h.keeps; text = h.reads ∙ sym (append-nil h.taken) };
    }
      where
        left_over : (p : Pipeline) (z : List ℕ) (b : ℕ) → Some b ≡ first z → whole_of (Ok (p, z)) ≡ Err (length z)
        left_over p [] b e = cc
        left_over p (c ∷ z) b e = refl
    go (Err left) h = record {
      taken = h.taken;
      rest = h.rest;
      whole = h.whole;
      count = h.count;
      again = λ z e. ap whole_of (h.again z e);
      begins = record { pipeline = h.some; more = h.more; keeps = h.keeps; text = h.begins };
    }

-- what a parse finds has the text that was parsed
pub found : (most : ℕ) (s : List ℕ) (p : Pipeline) → pipeline_at most s ≡ Ok p → (text_of p ≡ s) × (fits p ≡ true)
found most s p e = let h = subst (Answers most s) e (answers most s) in (sym h.text, h.keeps)

-- a pipeline with that text is what a parse finds
pub only : (most : ℕ) (s : List ℕ) (p : Pipeline) → length s < most → fits p ≡ true → text_of p ≡ s → pipeline_at most s ≡ Ok p
only most s p room fit text = go (pipeline_full p most fit)
  where
    go : (pipeline_at most (text_of p) ≡ Ok p) ⊎ ((left : ℕ) × (pipeline_at most (text_of p) ≡ Err left) × (left + most ≤ length (text_of p))) → pipeline_at most s ≡ Ok p
    go (inl f) = ap (pipeline_at most) (sym text) ∙ f
    go (inr f) = let le = f.2 in let same = ap length text in absurd (omega arith)

-- a list with more than a front has a byte behind it
split_behind : (front rest : List ℕ) (n : ℕ) → length front < n → n ≤ length (front ++ rest) → (b : ℕ) × (v : List ℕ) × (rest ≡ b ∷ v) × (take n (front ++ rest) ≡ front ++ (b ∷ take (n - length front - 1) v))
split_behind [] [] n lt le = absurd (omega arith)
split_behind [] (b ∷ v) zero lt le = absurd (omega arith)
split_behind [] (b ∷ v) (suc n) lt le = (b, v, refl, ap (λ m. b ∷ take m v) (let e : n ≡ suc n - 0 - 1 = omega arith in e))
split_behind (c ∷ front) rest zero lt le = absurd (omega arith)
split_behind (c ∷ front) rest (suc n) lt le =
    let h = split_behind front rest n (omega arith) (omega arith) in
    (h.0, h.1, h.2, ap (λ x. c ∷ x) h.3 ∙ ap (λ m. c ∷ (front ++ (h.0 ∷ take m h.1))) (let e : n - length front - 1 ≡ suc n - suc (length front) - 1 = omega arith in e))

-- where a parse stops, the longest front of a pipeline's text ends
pub stops : (most : ℕ) (s : List ℕ) (left : ℕ) → most ≡ suc (length s) → pipeline_at most s ≡ Err left → StopsAt s (length s - left)
stops most s left room e = record {
  other = λ p fit text. other p fit text;
  within = omega arith;
  begins = subst BeginsText (sym front) h.begins;
  longest = λ n le more. longest n le more (cases_lt (length s - left) n);
}
  where
    h : Halts most s left
    h = subst (Answers most s) e (answers most s)

    size : length s ≡ length h.taken + left
    size = ap length h.whole ∙ length-append h.taken h.rest ∙ ap (λ n. length h.taken + n) (sym h.count)

    at : length s - left ≡ length h.taken
    at = omega (arith, size)

    front : take (length s - left) s ≡ h.taken
    front = ap (λ n. take n s) at ∙ ap (take (length h.taken)) h.whole ∙ take_at h.taken h.rest (length h.taken) refl

    other : (p : Pipeline) → fits p ≡ true → text_of p ≡ s → ⊥
    other p fit text = let f = only most s p (omega (arith, room)) fit text in let g : Ok p ≡ Err left = sym f ∙ e in cc

    longest : (n : ℕ) → n ≤ length s → BeginsText (take n s) → (length s - left < n) ⊎ (n ≤ length s - left) → n ≤ length s - left
    longest n le more (inr ge) = ge
    longest n le more (inl lt) =
        let same = ap length h.whole in
        let cut = split_behind h.taken h.rest n (omega (arith, at)) (omega (arith, same)) in
        let z : List ℕ = (cut.0 ∷ take (n - length h.taken - 1) cut.1) ++ more.more in
        let text : text_of more.pipeline ≡ h.taken ++ z =
        more.text ∙ ap (λ t. take n t ++ more.more) h.whole ∙ ap (λ t. t ++ more.more) cut.3 ∙ append_assoc h.taken (cut.0 ∷ take (n - length h.taken - 1) cut.1) more.more in
        let halts : pipeline_at most (text_of more.pipeline) ≡ Err (length z) = ap (pipeline_at most) text ∙ h.again z (ap first cut.2) in
        absurd (none more.pipeline (length z) (length h.taken) halts (ap length text ∙ length-append h.taken z) (omega (arith, size, room)) (pipeline_full more.pipeline most more.keeps))
      where
        none : (p : Pipeline) (n m : ℕ) → pipeline_at most (text_of p) ≡ Err n → length (text_of p) ≡ m + n → m < most
            → (pipeline_at most (text_of p) ≡ Ok p) ⊎ ((left : ℕ) × (pipeline_at most (text_of p) ≡ Err left) × (left + most ≤ length (text_of p))) → ⊥
        none p n m e size small (inl f) = let g : Ok p ≡ Err n = sym f ∙ e in cc
        none p n m e size small (inr f) = let le = f.2 in let g : Err f.0 ≡ Err n = sym f.1 ∙ e in let same : f.0 ≡ n = err_is f.0 n g in omega arith
          where
            err_is : (a b : ℕ) → ◌≡◌ {A = Result Pipeline ℕ} (Err a) (Err b) → a ≡ b
            err_is a b g = cc

-- no two pipelines have one text
pub one_pipeline : (p q : Pipeline) → fits p ≡ true → fits q ≡ true → text_of q ≡ text_of p → q ≡ p
one_pipeline p q fit_p fit_q text =
    let first_p = only (suc (length (text_of p))) (text_of p) p (omega arith) fit_p refl in
    let first_q = only (suc (length (text_of p))) (text_of p) q (omega arith) fit_q text in
    let g : Ok q ≡ Ok p = sym first_q ∙ first_p in
    ok_is q p g
  where
    ok_is : (a b : Pipeline) → ◌≡◌ {A = Result Pipeline ℕ} (Ok a) (Ok b) → a ≡ b
    ok_is a b g = cc

-- a parse leaves no more than there is
pub left_within : (most : ℕ) (s : List ℕ) (left : ℕ) → pipeline_at most s ≡ Err left → left ≤ length s
left_within most s left e =
    let h = subst (Answers most s) e (answers most s) in
    let count = h.count in
    omega (arith, ap length h.whole, length-append h.taken h.rest)

-- what a parse finds is the one pipeline with that text
pub same_pipeline : (most : ℕ) (s : List ℕ) (q p : Pipeline) → length s < most → pipeline_at most s ≡ Ok q → fits p ≡ true → text_of p ≡ s → q ≡ p
same_pipeline most s q p room e fit text = let g : Ok q ≡ Ok p = sym e ∙ only most s p room fit text in ok_is q p g
  where
    ok_is : (a b : Pipeline) → ◌≡◌ {A = Result Pipeline ℕ} (Ok a) (Ok b) → a ≡ b
    ok_is a b g = cc
