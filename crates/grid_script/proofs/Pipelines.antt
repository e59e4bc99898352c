-- The pipeline of a text, by what a parse tells of it.
use Rattle.std.proofs.Common.{◌≡◌, ℕ, ◌+◌, ◌<◌, ◌≤◌, true, false, cond, nat_le, List, length, Result, Ok, Err, refl, ap, ◌∙◌, arith, sym, Bool}
use Rattle.std.proofs.lemmas.Bool.Decides.{nat_tests}
use Rattle.grid_base.specs.declared.limits.TheConstants.{LONGEST_LINE}
use Rattle.pipeline_expr.specs.declared.pipeline.Pipeline.{Pipeline}
use Rattle.pipeline_parse.specs.Grammar.{fits, text_of}
use Rattle.pipeline_parse.specs.Parsing.{pipeline_at}
use Rattle.pipeline_parse.proofs.Exactness.{found, only}
use Rattle.grid_script.specs.declared.reason.Reason.TheVariants.{Syntax}
use Rattle.grid_script.specs.Fields.{pipeline_of}
use Rattle.grid_script.specs.Judging.{spelt}
use Rattle.grid_script.specs.Laws.{PipelinesByText}

-- a text that fits a line passes the test
within : (n : ℕ) → n ≤ LONGEST_LINE → nat_le n LONGEST_LINE ≡ true
within n h = grind (arith, nat_tests)

-- a longer text doesn't
past : (n : ℕ) → LONGEST_LINE < n → nat_le n LONGEST_LINE ≡ false
past n h = grind (arith, nat_tests)

-- a pipeline of that text is the one
pub pipeline_found : (s : List ℕ) (p : Pipeline) → length s ≤ LONGEST_LINE → text_of p ≡ s → fits p ≡ true → spelt (pipeline_of s) ≡ Ok p
unfolding pipeline_of
pipeline_found s p room text fit =
    ap (λ t. spelt (cond t (pipeline_at (length s + 1) s) (Err (length s)))) (within (length s) room)
    ∙ ap spelt (only (length s + 1) s p (omega arith) fit text)

-- where no pipeline has that text, it is a fault of syntax
pub pipeline_none : (s : List ℕ) → length s ≤ LONGEST_LINE → ((p : Pipeline) → fits p ≡ true → text_of p ≡ s → ⊥) → spelt (pipeline_of s) ≡ Err Syntax
unfolding pipeline_of
pipeline_none s room none =
    ap (λ t. spelt (cond t (pipeline_at (length s + 1) s) (Err (length s)))) (within (length s) room)
    ∙ go (pipeline_at (length s + 1) s) refl
  where
    go : (r : Result Pipeline ℕ) → pipeline_at (length s + 1) s ≡ r → spelt r ≡ Err Syntax
    go (Ok p) e = let h = found (length s + 1) s p e in absurd (none p h.1 h.0)
    go (Err left) e = refl

-- a longer text stands in no line
pub pipeline_long : (s : List ℕ) → LONGEST_LINE < length s → spelt (pipeline_of s) ≡ Err Syntax
unfolding pipeline_of
pipeline_long s more = ap (λ t. spelt (cond t (pipeline_at (length s + 1) s) (Err (length s)))) (past (length s) more)

-- a text that passes the test fits a line
short : (n : ℕ) → nat_le n LONGEST_LINE ≡ true → n ≤ LONGEST_LINE
short n h = grind (arith, nat_tests)

-- a text stands for a pipeline exactly where it is that pipeline's text
pub by_text : PipelinesByText
unfolding pipeline_of
by_text s p = (λ e. forth e (nat_le (length s) LONGEST_LINE) refl, λ h. back h.0 h.1 h.2)
  where
    forth : pipeline_of s ≡ Ok p → (t : Bool) → nat_le (length s) LONGEST_LINE ≡ t → (length s ≤ LONGEST_LINE) × (text_of p ≡ s) × (fits p ≡ true)
    forth e true f =
        let parsed : pipeline_at (length s + 1) s ≡ Ok p = sym (ap (λ t. cond t (pipeline_at (length s + 1) s) (Err (length s))) f) ∙ e in
        let h = found (length s + 1) s p parsed in
        (short (length s) f, h.0, h.1)
    forth e false f =
        let none : Err (length s) ≡ Ok p = sym (ap (λ t. cond t (pipeline_at (length s + 1) s) (Err (length s))) f) ∙ e in
        cc

    back : length s ≤ LONGEST_LINE → text_of p ≡ s → fits p ≡ true → pipeline_of s ≡ Ok p
    back room text fit =
        ap (λ t. cond t (pipeline_at (length s + 1) s) (Err (length s))) (within (length s) room) ∙ only (length s + 1) s p (omega arith) fit text
