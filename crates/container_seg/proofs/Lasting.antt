-- None of the entries of a chunk has expired.
use Rattle.std.proofs.Common.{◌≡◌, ℕ, suc, zero, Bool, true, false, cond, ◌&&◌, List, [], ◌∷◌, reverse, take, Option, refl, ap, ◌∙◌}
use Rattle.std.proofs.lemmas.List.{reverse-append}
use Rattle.std.proofs.lemmas.List.Folds.{list_all-append, list_all-map}
use Rattle.std.specs.Cmp.{first_so, second_so}
use Rattle.std.specs.List.{filter, list_all}
use Rattle.grid_base.specs.declared.stamped.Stamped.{Stamped}
use Rattle.grid_base.specs.declared.stamped_entry.StampedEntry.{StampedEntry}
use Rattle.container_seg.specs.Lifespans.{fresh, outlasts}
use Rattle.container_seg.specs.Scans.{ascends, beyond, comes_after, next_chunk, stamped_entry}

module _ {X : Type 0} (p : X → Bool) where
  -- what passes of a list passes of it reversed
  all_reversed : (xs : List X) → list_all p xs ≡ true → list_all p (reverse xs) ≡ true
  all_reversed [] h = refl
  all_reversed (x ∷ xs) h =
      ap (list_all p) (reverse-append (x ∷ []) xs)
      ∙ list_all-append p (reverse xs) (x ∷ [])
      ∙ (λ i. all_reversed xs (second_so (p x) (list_all p xs) h) i && (first_so (p x) (list_all p xs) h i && true))

  -- and of its first ones
  all_taken : (n : ℕ) (xs : List X) → list_all p xs ≡ true → list_all p (take n xs) ≡ true
  all_taken zero xs h = refl
  all_taken (suc n) [] h = refl
  all_taken (suc n) (x ∷ xs) h = ap (λ b. b && list_all p (take n xs)) (first_so (p x) (list_all p xs) h) ∙ all_taken n xs (second_so (p x) (list_all p xs) h)

  -- and of those that pass another test
  all_filtered : (q : X → Bool) (xs : List X) → list_all p xs ≡ true → list_all p (filter q xs) ≡ true
  all_filtered q [] h = refl
  all_filtered q (x ∷ xs) h =
      let rest = all_filtered q xs (second_so (p x) (list_all p xs) h) in
      elim (q x) as (λ b. list_all p (cond b (x ∷ filter q xs) (filter q xs)) ≡ true) [
        | true ↦ ap (λ b. b && list_all p (filter q xs)) (first_so (p x) (list_all p xs) h) ∙ rest
        | false ↦ rest
      ]

  -- those that pass a test all pass it
  all_passed : (xs : List X) → list_all p (filter p xs) ≡ true
  all_passed [] = refl
  all_passed (x ∷ xs) = elim (p x) as (λ b. p x ≡ b → list_all p (cond b (x ∷ filter p xs) (filter p xs)) ≡ true) [
    | true ↦ λ passes. ap (λ b. b && list_all p (filter p xs)) passes ∙ all_passed xs
    | false ↦ λ fails. all_passed xs
  ] refl

-- of entries that haven't expired, none of the next chunk has
pub next_chunk_lasts : (clock node : ℕ) (after : Option (List ℕ)) (most : ℕ) (es : List (List ℕ × Stamped)) →
    list_all (λ (e : StampedEntry). outlasts clock e.stamped.until) (next_chunk node after most (fresh clock es)).entries ≡ true
next_chunk_lasts clock node after most es =
    let p : List ℕ × Stamped → Bool = λ e. outlasts clock e.1.until in
    let next : List (List ℕ × Stamped) = filter (λ e. comes_after node after e.0) (fresh clock es) in
    let lasts : list_all p next ≡ true = all_filtered p (λ e. comes_after node after e.0) (fresh clock es) (all_passed p es) in
    let turned : list_all p (beyond node after (fresh clock es)) ≡ true =
    elim (ascends node) as (λ b. list_all p (cond b next (reverse next)) ≡ true) [ true ↦ lasts | false ↦ all_reversed p next lasts ] in
    list_all-map (λ (e : StampedEntry). outlasts clock e.stamped.until) stamped_entry (take most (beyond node after (fresh clock es)))
    ∙ all_taken p most (beyond node after (fresh clock es)) turned
