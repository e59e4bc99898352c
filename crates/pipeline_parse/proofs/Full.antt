-- Each text of the grammar is read, unless a reader runs out of levels, of which each takes a byte of the text.
use Rattle.std.proofs.Common.{◌≡◌, ℕ, zero, suc, ◌+◌, ◌-◌, ◌*◌, ◌/◌, ◌%◌, ◌^◌, ◌<◌, ◌≤◌, Bool, true, false, not, ◌&&◌, ◌||◌, ◌==◌, cond, nat_le, nat_lt, List, [], ◌∷◌, ◌++◌, length, get_or, Ok, Err, refl, sym, ap, ◌∙◌, arith, append_assoc, true≢false, eqb-true, ne_eqb, ℤ, pos, negsuc}
use Rattle.std.specs.List.{list_all}
use Rattle.std.specs.Fmt.{decimal, signed_decimal}
use Rattle.std.proofs.lemmas.Bool.Decides.{nat_tests}
use Rattle.std.proofs.lemmas.List.{get_or_append_left}
use Rattle.std.proofs.lemmas.Fmt.{decimal_by_steps, decimal_digit, decimal_nonempty, first_decimal}
use Rattle.grid_base.specs.Text.{is_text_byte}
use Rattle.grid_base.specs.declared.datum.Datum.{Datum}
use Rattle.grid_base.specs.declared.datum.Datum.TheVariants.{Int, Text, Flag}
use Rattle.pipeline_parse.specs.Grammar.{datum_fits, datum_text, int_fits}
use Rattle.pipeline_parse.specs.Reading.{begins_plain, digits_at, int_at, is_digit, number_at, plain_at, positive_at, quoted_at, with_byte, with_sign}
use Rattle.pipeline_parse.proofs.WordLaws.{both_true}
use Rattle.pipeline_parse.proofs.ValueLaws.{as_int, as_text, below_zero, quoted_fits, quoted_text}

-- no digit stands in front
abbrev pub calm : List ℕ → Bool
calm [] = true
calm (b ∷ s) = not (is_digit b)

-- what isn't yes is no
not_true : (b : Bool) → not b ≡ true → b ≡ false
not_true false e = refl
not_true true e = absurd (true≢false (sym e))

-- digits are read up to bytes that aren't
digits_stay : (limit n : ℕ) (y : List ℕ) → calm y ≡ true → digits_at limit n y ≡ (n, y)
digits_stay limit n [] e = refl
digits_stay limit n (b ∷ y) e = ap (λ t. cond (t && nat_le (n * 10 + (b - 48)) limit) (digits_at limit (n * 10 + (b - 48)) y) (n, b ∷ y)) (not_true (is_digit b) e)

-- what is read behind the digits of a number
abbrev ReadsOn : ℕ → ℕ → List ℕ → Type 0
ReadsOn limit n ds = 0 < n → n ≤ limit → (y : List ℕ) → positive_at limit (ds ++ y) ≡ Ok (digits_at limit n y)

-- a digit from 1 to 9 is one with which a number begins
one_digit : (n : ℕ) → 0 < n → n < 10 → (is_digit (48 + n) && nat_lt 48 (48 + n)) ≡ true
one_digit n low high = grind (arith, nat_tests)

-- a further digit of a number within the limit is read
more_digit : (n limit : ℕ) → n ≤ limit → (is_digit (48 + n % 10) && nat_le (n / 10 * 10 + (48 + n % 10 - 48)) limit) ≡ true
more_digit n limit high =
    let small : 48 + n % 10 ≤ 57 = omega arith in
    let whole : n / 10 * 10 + (48 + n % 10 - 48) ≡ n = omega arith in
    ap (λ t. (nat_le 48 (48 + n % 10) && nat_le (48 + n % 10) 57) && nat_le t limit) whole
    ∙ all_three (48 + n % 10) n limit (omega arith) small high
  where
    all_three : (d n limit : ℕ) → 48 ≤ d → d ≤ 57 → n ≤ limit → ((nat_le 48 d && nat_le d 57) && nat_le n limit) ≡ true
    all_three d n limit a b c = grind (arith, nat_tests)

-- the digits of a number are read on
positive_on : (limit n : ℕ) → n < 2 ^ 64 → ReadsOn limit n (decimal n)
positive_on limit n small = decimal_by_steps (ReadsOn limit) one more n small
  where
    one : (n : ℕ) → n < 10 → ReadsOn limit n ((48 + n) ∷ [])
    one n high = λ low fits y.
        let back : 48 + n - 48 ≡ n = omega arith in
        ap (λ t. cond t (Ok (digits_at limit (48 + n - 48) y)) (Err (suc (length y)))) (one_digit n low high) ∙ ap (λ m. Ok (digits_at limit m y)) back

    more : (n : ℕ) (ds : List ℕ) → 10 ≤ n → ReadsOn limit (n / 10) ds → ReadsOn limit n (ds ++ (48 + n % 10) ∷ [])
    more n ds low on = λ _ fits y.
        let whole : n / 10 * 10 + (48 + n % 10 - 48) ≡ n = omega arith in
        ap (positive_at limit) (append_assoc ds ((48 + n % 10) ∷ []) y)
        ∙ on (omega arith) (omega arith) ((48 + n % 10) ∷ y)
        ∙ ap (λ t. Ok (cond t (digits_at limit (n / 10 * 10 + (48 + n % 10 - 48)) y) (n / 10, (48 + n % 10) ∷ y))) (more_digit n limit fits)
        ∙ ap (λ m. Ok (digits_at limit m y)) whole

-- a number from 1 to the limit is read where it ends
positive_full : (limit n : ℕ) (y : List ℕ) → limit < 2 ^ 64 → 0 < n → n ≤ limit → calm y ≡ true → positive_at limit (decimal n ++ y) ≡ Ok (n, y)
positive_full limit n y small low high e = positive_on limit n (omega arith) low high y ∙ ap (λ p. Ok p) (digits_stay limit n y e)

-- the first byte of a number from 1 on is above the digit 0
first_above : (n : ℕ) (y : List ℕ) → 0 < n → n < 2 ^ 64 → 48 < get_or (decimal n ++ y) 0 0
first_above n y low small =
    let same = get_or_append_left (decimal n) y 0 0 (decimal_nonempty n small) in
    let high = first_decimal n low small in
    omega arith

-- a number that doesn't begin with 0 is read as one from 1 on
number_other : (limit : ℕ) (s : List ℕ) → 48 < get_or s 0 0 → number_at limit s ≡ positive_at limit s
number_other limit [] h = absurd (omega arith)
number_other limit (b ∷ s) h = ap (λ t. cond t (Ok (0, s)) (positive_at limit (b ∷ s))) (ne_eqb b 48 (λ e. omega arith))

-- an int that doesn't begin with a minus is read as a number
int_other : (s : List ℕ) → 45 < get_or s 0 0 → int_at s ≡ with_sign pos (number_at (2 ^ 63 - 1) s)
int_other [] h = absurd (omega arith)
int_other (b ∷ s) h = ap (λ t. cond t (with_sign below_zero (positive_at (2 ^ 63) s)) (with_sign pos (number_at (2 ^ 63 - 1) (b ∷ s)))) (ne_eqb b 45 (λ e. omega arith))

-- a number that passes the test is less
lt_from : (m n : ℕ) → nat_lt m n ≡ true → m < n
lt_from m n e = grind (arith, nat_tests)

-- an int is read where it ends
int_full : (z : ℤ) (y : List ℕ) → int_fits z ≡ true → calm y ≡ true → int_at (signed_decimal z ++ y) ≡ Ok (z, y)
int_full (pos zero) y fits e = ap (λ t. int_at (t ++ y)) (decimal_digit 0 (omega arith))
int_full (pos (suc n)) y fits e =
    let small = lt_from (suc n) (2 ^ 63) fits in
    let high = first_above (suc n) y (omega arith) (omega arith) in
    int_other (decimal (suc n) ++ y) (omega arith)
    ∙ ap (with_sign pos) (number_other (2 ^ 63 - 1) (decimal (suc n) ++ y) high ∙ positive_full (2 ^ 63 - 1) (suc n) y (omega arith) (omega arith) (omega arith) e)
int_full (negsuc n) y fits e =
    let small = lt_from n (2 ^ 63) fits in
    let back : suc n - 1 ≡ n = omega arith in
    ap (with_sign below_zero) (positive_full (2 ^ 63) (suc n) y (omega arith) (omega arith) (omega arith) e) ∙ ap (λ m. Ok (negsuc m, y)) back

-- what begins an int begins a value that is no flag
int_begins : (s : List ℕ) (p : ℤ × List ℕ) → int_at s ≡ Ok p → (begins_plain s ≡ true) × (plain_at s ≡ as_int (int_at s))
int_begins [] p e = cc
int_begins (b ∷ s) p e = (begins (b == 45) refl (b == 48) refl (is_digit b) refl, ap (λ t. cond t (as_text (quoted_at 64 s)) (as_int (int_at (b ∷ s)))) (no_quote (b == 34) refl))
  where
    no_quote : (t : Bool) → (b == 34) ≡ t → (b == 34) ≡ false
    no_quote false f = f
    no_quote true f =
        let at : int_at (34 ∷ s) ≡ Ok p = ap (λ c. int_at (c ∷ s)) (sym (eqb-true b 34 f)) ∙ e in
        cc

    begins : (m : Bool) → (b == 45) ≡ m → (z : Bool) → (b == 48) ≡ z → (d : Bool) → is_digit b ≡ d → (b == 34 || (b == 45 || is_digit b)) ≡ true
    begins m f z g true h = ap (λ t. b == 34 || (b == 45 || t)) h ∙ any_true (b == 34) (b == 45)
      where
        any_true : (x y : Bool) → (x || (y || true)) ≡ true
        any_true true y = refl
        any_true false true = refl
        any_true false false = refl
    begins true f z g false h = ap (λ t. b == 34 || (t || is_digit b)) f ∙ any_true (b == 34) (is_digit b)
      where
        any_true : (x y : Bool) → (x || (true || y)) ≡ true
        any_true true y = refl
        any_true false y = refl
    begins false f true g false h = absurd (true≢false (sym (ap is_digit (eqb-true b 48 g)) ∙ h))
    begins false f false g false h =
        let at : with_sign pos (cond false (Ok (0, s)) (cond (false && nat_lt 48 b) (Ok (digits_at (2 ^ 63 - 1) (b - 48) s)) (Err (suc (length s))))) ≡ Ok p =
        ap (λ t. with_sign pos (cond false (Ok (0, s)) (cond (t && nat_lt 48 b) (Ok (digits_at (2 ^ 63 - 1) (b - 48) s)) (Err (suc (length s)))))) (sym h)
        ∙ ap (λ t. with_sign pos (cond t (Ok (0, s)) (positive_at (2 ^ 63 - 1) (b ∷ s)))) (sym g)
        ∙ ap (λ t. cond t (with_sign below_zero (positive_at (2 ^ 63) s)) (with_sign pos (number_at (2 ^ 63 - 1) (b ∷ s)))) (sym f)
        ∙ e in
        cc

-- a text is read up to its closing quote
quoted_full : (t : List ℕ) (room : ℕ) (y : List ℕ) → quoted_fits room t ≡ true → quoted_at room (quoted_text t ++ y) ≡ Ok (t, y)
quoted_full [] room y e = refl
quoted_full (b ∷ t) room y e =
    let f = both_true (nat_le (suc (length t)) room) (is_text_byte b && list_all is_text_byte t) e in
    let g = both_true (is_text_byte b) (list_all is_text_byte t) f.1 in
    ap (λ x. cond x (Ok ([], quoted_text t ++ y)) (cond (nat_lt 0 room && is_text_byte b) (with_byte b (quoted_at (room - 1) (quoted_text t ++ y))) (Err (suc (length (quoted_text t ++ y)))))) (no_quote b g.0)
    ∙ ap (λ x. cond x (with_byte b (quoted_at (room - 1) (quoted_text t ++ y))) (Err (suc (length (quoted_text t ++ y))))) (goes room (length t) b f.0 g.0)
    ∙ ap (with_byte b) (quoted_full t (room - 1) y (ap (λ x. x && list_all is_text_byte t) (shorter room (length t) f.0) ∙ g.1))
  where
    no_quote : (b : ℕ) → is_text_byte b ≡ true → (b == 34) ≡ false
    no_quote b h = grind (arith, nat_tests)

    goes : (room n b : ℕ) → nat_le (suc n) room ≡ true → is_text_byte b ≡ true → (nat_lt 0 room && is_text_byte b) ≡ true
    goes room n b h i = ap (λ x. nat_lt 0 room && x) i ∙ some room n h
      where
        some : (room n : ℕ) → nat_le (suc n) room ≡ true → (nat_lt 0 room && true) ≡ true
        some room n h = grind (arith, nat_tests)

    shorter : (room n : ℕ) → nat_le (suc n) room ≡ true → nat_le n (room - 1) ≡ true
    shorter room n h = grind (arith, nat_tests)

-- a value that is no flag
abbrev pub IsPlain : Datum → Type 0
IsPlain (Flag b) = ⊥
IsPlain _ = Unit {0}

-- an int or a text is read where it ends, by its first byte
pub plain_full : (d : Datum) (y : List ℕ) → IsPlain d → datum_fits d ≡ true → calm y ≡ true → (begins_plain (datum_text d ++ y) ≡ true) × (plain_at (datum_text d ++ y) ≡ Ok (d, y))
plain_full (Int z) y is fits e =
    let read = int_full z y fits e in
    let begins = int_begins (signed_decimal z ++ y) (z, y) read in
    (begins.0, begins.1 ∙ ap as_int read)
plain_full (Text t) y is fits e = (refl, ap as_text (quoted_full t 64 y fits))
plain_full (Flag b) y is fits e = absurd is
