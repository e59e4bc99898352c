-- The words of a text, run by run.
use Rattle.std.proofs.Common.{◌≡◌, ℕ, ◌+◌, ◌-◌, ◌<◌, ◌≤◌, Bool, true, false, cond, List, [], ◌∷◌, ◌++◌, refl, sym, ◌∙◌, ap, ap₂, arith, length-drop, append_assoc, append-nil, map, take, drop, get_or, length}
use Rattle.std.specs.Prelude.{◌==◌}
use Rattle.std.specs.List.{filter}
use Rattle.std.proofs.lemmas.Bool.{ne_eqb}
use Rattle.std.proofs.lemmas.List.{map-append, take_more, drop_more, drop_all, get_or-drop}
use Rattle.std.proofs.lemmas.List.Elements.{filter-append}
use Rattle.grid_base.specs.declared.datum.Datum.TheVariants as datum
use Rattle.grid_base.specs.declared.item.Item.{Item}
use Rattle.grid_base.specs.declared.item.Item.TheVariants as items
use Rattle.pipeline_eval.specs.Lists.{between_blanks, joined_to, is_filled}

-- texts as elements, without the empty ones
abbrev pub word_items : List (List ℕ) → List Item
word_items ts = map (λ word. items.Datum (datum.Text word)) (filter is_filled ts)

-- a run of bytes put in front of the first of several texts
abbrev pub prepended : List ℕ → List (List ℕ) → List (List ℕ)
prepended run [] = run ∷ []
prepended run (t ∷ ts) = (run ++ t) ∷ ts

-- no bytes in front change nothing, where there is a text
prepended_none : (t : List ℕ) → prepended [] (between_blanks t) ≡ between_blanks t
prepended_none [] = refl
prepended_none (b ∷ bs) = by (b == 32)
  where
    front : (ts : List (List ℕ)) → prepended [] (joined_to b ts) ≡ joined_to b ts
    front [] = refl
    front (t ∷ ts) = refl

    by : (c : Bool) → prepended [] (cond c ([] ∷ between_blanks bs) (joined_to b (between_blanks bs))) ≡ cond c ([] ∷ between_blanks bs) (joined_to b (between_blanks bs))
    by true = refl
    by false = front (between_blanks bs)

-- a byte that joins the first text, behind a run, joins the run
prepended-joined_to : (run : List ℕ) (b : ℕ) (ts : List (List ℕ)) → prepended run (joined_to b ts) ≡ prepended (run ++ b ∷ []) ts
prepended-joined_to run b [] = refl
prepended-joined_to run b (t ∷ ts) = ap (λ u. u ∷ ts) (sym (append_assoc run (b ∷ []) t))

-- the words that are left, behind a run that goes on with the first of them
abbrev pub words_left : List ℕ → List ℕ → List Item
words_left run rest = word_items (prepended run (between_blanks rest))

-- at the start all words are left
pub words_left_first : (t : List ℕ) → words_left [] t ≡ word_items (between_blanks t)
words_left_first t = ap word_items (prepended_none t)

-- another byte than a blank goes on with the run
pub words_left_on : (run : List ℕ) (b : ℕ) (rest : List ℕ) → (b == 32) ≡ false → words_left run (b ∷ rest) ≡ words_left (run ++ b ∷ []) rest
words_left_on run b rest h =
    ap (λ c. word_items (prepended run (cond c ([] ∷ between_blanks rest) (joined_to b (between_blanks rest))))) h
    ∙ ap word_items (prepended-joined_to run b (between_blanks rest))

-- a blank ends the run
pub words_left_end : (run : List ℕ) (b : ℕ) (rest : List ℕ) → (b == 32) ≡ true → words_left run (b ∷ rest) ≡ word_items (run ∷ []) ++ words_left [] rest
words_left_end run b rest h =
    ap (λ c. word_items (prepended run (cond c ([] ∷ between_blanks rest) (joined_to b (between_blanks rest))))) h
    ∙ ap (λ u. word_items (u ∷ between_blanks rest)) (append-nil run)
    ∙ ap (map (λ word. items.Datum (datum.Text word))) (filter-append is_filled (run ∷ []) (between_blanks rest))
    ∙ map-append (λ word. items.Datum (datum.Text word)) (filter is_filled (run ∷ [])) (filter is_filled (between_blanks rest))
    ∙ ap (λ ts. word_items (run ∷ []) ++ ts) (sym (words_left_first rest))

-- at the end the run is left
pub words_left_last : (run : List ℕ) → words_left run [] ≡ word_items (run ∷ [])
words_left_last run = ap (λ u. word_items (u ∷ [])) (append-nil run)

-- a loop over the bytes comes to a blank: the run up to it has been put behind the words
pub run_ended : (bytes : List ℕ) (i start : ℕ) (run : List ℕ) (old out more : List Item) → i < length bytes → get_or bytes i 0 ≡ 32 → start ≡ i + 1 → more ≡ out ++ word_items (run ∷ []) → out ++ words_left run (drop i bytes) ≡ old → more ++ words_left (take (i + 1 - start) (drop start bytes)) (drop (i + 1) bytes) ≡ old
run_ended bytes i start run old out more h blank at e so_far =
    let none : i + 1 - start ≡ 0 = omega (arith, at) in
    let rest = drop (i + 1) bytes in
    let b = get_or bytes i 0 in
    ap₂ (λ o n. o ++ words_left (take n (drop start bytes)) rest) e none
    ∙ append_assoc out (word_items (run ∷ [])) (words_left [] rest)
    ∙ ap (λ t. out ++ t) (sym (words_left_end run b rest (ap (λ x. x == 32) blank)))
    ∙ ap (λ t. out ++ words_left run t) (sym (drop_more bytes i 0 h))
    ∙ so_far

-- it comes to another byte: the run goes on
pub run_on : (bytes : List ℕ) (i start at : ℕ) (old out : List Item) → i < length bytes → (get_or bytes i 0 ≡ 32 → ⊥) → start ≡ at → at ≤ i → out ++ words_left (take (i - at) (drop at bytes)) (drop i bytes) ≡ old → out ++ words_left (take (i + 1 - start) (drop start bytes)) (drop (i + 1) bytes) ≡ old
run_on bytes i start at old out h other e le so_far =
    let rest = drop (i + 1) bytes in
    let b = get_or bytes i 0 in
    let run = take (i - at) (drop at bytes) in
    let size : i + 1 - start ≡ (i - at) + 1 = omega (arith, e, le) in
    let place : at + (i - at) ≡ i = omega (arith, le) in
    let within : i - at < length (drop at bytes) = omega (arith, length-drop at bytes, h, le) in
    let last : get_or (drop at bytes) (i - at) 0 ≡ b = get_or-drop at bytes (i - at) 0 ∙ ap (λ n. get_or bytes n 0) place in
    let longer : take (i + 1 - start) (drop start bytes) ≡ run ++ b ∷ [] =
    ap₂ (λ n m. take n (drop m bytes)) size e ∙ take_more (drop at bytes) (i - at) 0 within ∙ ap (λ x. run ++ x ∷ []) last in
    ap (λ r. out ++ words_left r rest) longer
    ∙ ap (λ t. out ++ t) (sym (words_left_on run b rest (ne_eqb b 32 other)))
    ∙ ap (λ t. out ++ words_left run t) (sym (drop_more bytes i 0 h))
    ∙ so_far

-- at the end the last run is put behind the words
pub run_last : (bytes : List ℕ) (i at : ℕ) (old out more : List Item) → length bytes ≤ i → i ≤ length bytes → out ++ words_left (take (i - at) (drop at bytes)) (drop i bytes) ≡ old → more ≡ out ++ word_items (take (length bytes - at) (drop at bytes) ∷ []) → more ≡ old
run_last bytes i at old out more ge le so_far e =
    let end : i ≡ length bytes = omega (arith, ge, le) in
    let run = take (length bytes - at) (drop at bytes) in
    e
    ∙ ap (λ t. out ++ t) (sym (words_left_last run))
    ∙ ap (λ t. out ++ words_left run t) (sym (drop_all (length bytes) bytes (omega arith)))
    ∙ ap (λ n. out ++ words_left (take (n - at) (drop at bytes)) (drop n bytes)) (sym end)
    ∙ so_far
