-- How a text falls into lines.
use Rattle.std.proofs.Common.{◌≡◌, ℕ, suc, ◌+◌, ◌-◌, ◌==◌, ◌<◌, ◌≤◌, Bool, true, false, not, ◌&&◌, if◌then◌else◌, List, [], ◌∷◌, ◌++◌, length, take, drop, get_or, Some, None, refl, sym, ap, ◌∙◌, arith, eqb-true}
use Rattle.std.proofs.lemmas.Bool.{ne_eqb}
use Rattle.std.proofs.lemmas.Bool.Decides.{nat_tests}
use Rattle.std.proofs.lemmas.List.{drop_more, get_or-take, length-take, take-append-drop, take_rest}
use Rattle.memchr.specs.Find.{IsFirstByte, is_byte}
use Rattle.text_lines.specs.Lines.{Line, before_lines, is_one_line, lines_of}

-- a line and a line feed in front of more
pub lines_cut : (t rest : List ℕ) → is_one_line t ≡ true → lines_of (t ++ 10 ∷ rest) ≡ record { bytes = t; ended = true } ∷ lines_of rest
lines_cut [] rest h = refl
lines_cut (b ∷ t) rest h = by_byte (b == 10) h (lines_cut t rest)
  where
    by_byte : (c : Bool) → (not c && is_one_line t) ≡ true → (is_one_line t ≡ true → lines_of (t ++ 10 ∷ rest) ≡ record { bytes = t; ended = true } ∷ lines_of rest) →
        (if c then (record { bytes = []; ended = true } ∷ lines_of (t ++ 10 ∷ rest)) else before_lines b (lines_of (t ++ 10 ∷ rest))) ≡ record { bytes = b ∷ t; ended = true } ∷ lines_of rest
    by_byte true h before = absurd (cc)
    by_byte false h before = ap (before_lines b) (before h)

-- how some bytes begin: with a whole line, or they are one line that isn't ended, or there are none
pub data Cut (bytes : List ℕ) : Type 0 where
  Nothing : bytes ≡ [] → Cut bytes
  Whole : (t rest : List ℕ) → bytes ≡ t ++ 10 ∷ rest → is_one_line t ≡ true → Cut bytes
  Last : lines_of bytes ≡ record { bytes = bytes; ended = false } ∷ [] → Cut bytes

-- bytes begin in one of these ways
pub cut_of : (bytes : List ℕ) → Cut bytes
cut_of [] = Nothing refl
cut_of (b ∷ s) = by_byte (b == 10) refl (cut_of s)
  where
    by_byte : (c : Bool) → (b == 10) ≡ c → Cut s → Cut (b ∷ s)
    by_byte true e rest = Whole [] s (ap (λ c. c ∷ s) (eqb-true b 10 e)) refl
    by_byte false e (Nothing none) = Last (ap (λ c. if c then (record { bytes = []; ended = true } ∷ lines_of s) else before_lines b (lines_of s)) e ∙ ((λ i. before_lines b (lines_of (none i))) ∙ ap (λ z. record { bytes = b ∷ z; ended = false } ∷ []) (sym none)))
    by_byte false e (Whole t rest is one) = Whole (b ∷ t) rest (ap (λ z. b ∷ z) is) (ap (λ c. not c && is_one_line t) e ∙ one)
    by_byte false e (Last is) = Last (ap (λ c. if c then (record { bytes = []; ended = true } ∷ lines_of s) else before_lines b (lines_of s)) e ∙ ap (before_lines b) is)

-- no line is left where no byte is
pub none_left : (bytes : List ℕ) → lines_of bytes ≡ [] → bytes ≡ []
none_left [] e = refl
none_left (b ∷ s) e = by_byte (b == 10) (lines_of s) e
  where
    by_byte : (c : Bool) (lines : List Line) → (if c then (record { bytes = []; ended = true } ∷ lines_of s) else before_lines b lines) ≡ [] → b ∷ s ≡ []
    by_byte true lines e = absurd (cc)
    by_byte false [] e = absurd (cc)
    by_byte false (line ∷ lines) e = absurd (cc)

-- bytes of which none is a line feed are one line
one_by_places : (bytes : List ℕ) → ((k : ℕ) → k < length bytes → get_or bytes k 0 ≡ 10 → ⊥) → is_one_line bytes ≡ true
one_by_places [] none = refl
one_by_places (c ∷ bytes) none =
    ap (λ t. not t && is_one_line bytes) (ne_eqb c 10 (λ same. none 0 (omega arith) same)) ∙ one_by_places bytes (λ k below same. none (suc k) (omega arith) same)

-- bytes without a line feed are one line, which isn't ended
whole : (c : ℕ) (s : List ℕ) → is_one_line (c ∷ s) ≡ true → lines_of (c ∷ s) ≡ record { bytes = c ∷ s; ended = false } ∷ []
whole c [] h = by_byte (c == 10) h
  where
    by_byte : (t : Bool) → (not t && true) ≡ true → (if t then (record { bytes = []; ended = true } ∷ []) else before_lines c []) ≡ record { bytes = c ∷ []; ended = false } ∷ []
    by_byte true h = absurd (cc)
    by_byte false h = refl
whole c (d ∷ s) h = by_byte (c == 10) h (whole d s)
  where
    by_byte : (t : Bool) → (not t && is_one_line (d ∷ s)) ≡ true → (is_one_line (d ∷ s) ≡ true → lines_of (d ∷ s) ≡ record { bytes = d ∷ s; ended = false } ∷ [])
        → (if t then (record { bytes = []; ended = true } ∷ lines_of (d ∷ s)) else before_lines c (lines_of (d ∷ s))) ≡ record { bytes = c ∷ d ∷ s; ended = false } ∷ []
    by_byte true h before = absurd (cc)
    by_byte false h before = ap (before_lines c) (before h)

-- the first line ends at the first line feed
pub first_of : (text : List ℕ) (at : ℕ) → IsFirstByte (is_byte 10) text (Some at)
    → lines_of text ≡ record { bytes = take at text; ended = true } ∷ lines_of (take (length text - (at + 1)) (drop (at + 1) text))
first_of text at found =
    let first = found.0 in
    let here : get_or text at 0 ≡ 10 = grind (arith, nat_tests, found.1) in
    let size : length (take at text) ≤ at = omega (arith, length-take at text) in
    let one : is_one_line (take at text) ≡ true = one_by_places (take at text) (λ k below same.
    let before : get_or text k 0 ≡ 10 = sym (get_or-take at text k 0 (omega arith)) ∙ same in
    first.before k (omega arith) (omega arith) (grind (arith, nat_tests, before))) in
    let joined : take at text ++ 10 ∷ take (length text - (at + 1)) (drop (at + 1) text) ≡ text =
    ap (λ rest. take at text ++ 10 ∷ rest) (take_rest text (at + 1))
    ∙ (ap (λ c. take at text ++ c ∷ drop (at + 1) text) (sym here)
    ∙ (ap (λ rest. take at text ++ rest) (sym (drop_more text at 0 first.high)) ∙ take-append-drop at text)) in
    ap lines_of (sym joined) ∙ lines_cut (take at text) (take (length text - (at + 1)) (drop (at + 1) text)) one

-- where there is no line feed, all is one line
pub last_of : (text : List ℕ) → 0 < length text → IsFirstByte (is_byte 10) text None → lines_of text ≡ record { bytes = text; ended = false } ∷ lines_of []
last_of [] some none = absurd (omega arith)
last_of (c ∷ s) some none =
    whole c s (one_by_places (c ∷ s) (λ k below same. none k (omega arith) below (grind (arith, nat_tests, same))))
