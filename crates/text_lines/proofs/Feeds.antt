-- Line feeds counted.
use Rattle.std.proofs.Common.{◌≡◌, ℕ, ◌+◌, ◌==◌, Bool, true, false, not, ◌&&◌, cond, List, [], ◌∷◌, ◌++◌, refl, arith}
use Rattle.text_lines.specs.Lines.{feeds, is_one_line}

-- line feeds are counted text by text
pub feeds-append : (xs ys : List ℕ) → feeds (xs ++ ys) ≡ feeds xs + feeds ys
feeds-append [] ys = omega arith
feeds-append (b ∷ xs) ys = let h = feeds-append xs ys in omega arith

-- one line has none inside
pub feeds-none : (t : List ℕ) → is_one_line t ≡ true → feeds t ≡ 0
feeds-none [] h = refl
feeds-none (b ∷ t) h = by_byte (b == 10) h (feeds-none t)
  where
    by_byte : (c : Bool) → (not c && is_one_line t) ≡ true → (is_one_line t ≡ true → feeds t ≡ 0) → cond {A = ℕ} c 1 0 + feeds t ≡ 0
    by_byte true h before = absurd (cc)
    by_byte false h before = let z = before h in omega arith
