-- Idle notes stand in the order of their places.
use Rattle.std.proofs.Common.{◌≡◌, ℕ, ◌+◌, ◌≤◌, nat_le, true, ◌&&◌, List, [], ◌∷◌, ◌++◌, refl, ap, ◌∙◌, arith}
use Rattle.std.specs.Prelude.{Result, Ok, Err, OnOk, OnErr}
use Rattle.std.proofs.lemmas.Bool.{and_parts, le-leb, leb-true}
use Rattle.grid_event.specs.Histories.{are_placed}
use Rattle.grid_event.specs.declared.idle.Idle.{Idle}

-- the places of a first note and of those behind it
pub record FirstPlaced (first last : ℕ) (note : Idle) (notes : List Idle) : Type 0 where
  pub from : first ≤ note.place
  pub to : note.place ≤ last
  pub others : are_placed note.place last notes ≡ true

-- notes that stand in order tell the places of the first of them
pub first_placed : (first last : ℕ) (note : Idle) (notes : List Idle) → are_placed first last (note ∷ notes) ≡ true → FirstPlaced first last note notes
first_placed first last note notes placed =
    let p = and_parts (nat_le first note.place && nat_le note.place last) (are_placed note.place last notes) placed in
    let q = and_parts (nat_le first note.place) (nat_le note.place last) p.0 in
    record { from = leb-true first note.place q.0; to = leb-true note.place last q.1; others = p.1 }

-- they do with one event more
pub placed_event : (first last : ℕ) (notes : List Idle) → are_placed first last notes ≡ true → are_placed first (last + 1) notes ≡ true
placed_event first last [] placed = refl
placed_event first last (note ∷ notes) placed =
    let f = first_placed first last note notes placed in
    let from : nat_le first note.place ≡ true = le-leb first note.place f.from in
    let to : nat_le note.place (last + 1) ≡ true = le-leb note.place (last + 1) (let t = f.to in omega arith) in
    λ i. (from i && to i) && placed_event note.place last notes f.others i

-- and with one note more, behind the last event
pub placed_note : (first last : ℕ) (notes : List Idle) (line : ℕ) → first ≤ last → are_placed first last notes ≡ true → are_placed first last (notes ++ record { place = last; line = line } ∷ []) ≡ true
placed_note first last [] line below placed =
    let from : nat_le first last ≡ true = le-leb first last below in
    let to : nat_le last last ≡ true = le-leb last last (omega arith) in
    λ i. (from i && to i) && true
placed_note first last (note ∷ notes) line below placed =
    let f = first_placed first last note notes placed in
    let from : nat_le first note.place ≡ true = le-leb first note.place f.from in
    let to : nat_le note.place last ≡ true = le-leb note.place last f.to in
    λ i. (from i && to i) && placed_note note.place last notes line f.to f.others i

-- and whether or not memory was there for the note more
pub placed_after : {A E : Type 0} (result : Result A E) (last place line : ℕ) (before after : List Idle) → place ≡ last →
    OnOk result (after ≡ before ++ record { place = place; line = line } ∷ []) → OnErr result (after ≡ before) →
    are_placed 0 last before ≡ true → are_placed 0 last after ≡ true
placed_after (Ok x) last place line before after at ok err placed =
    ap (are_placed 0 last) (ok ∙ ap (λ (n : ℕ). before ++ record { place = n; line = line } ∷ []) at) ∙ placed_note 0 last before line (omega arith) placed
placed_after (Err e) last place line before after at ok err placed = ap (are_placed 0 last) err ∙ placed
