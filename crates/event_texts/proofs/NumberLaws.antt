-- Readings of numbers, keys and values are exact.
use Rattle.std.proofs.Common.{◌≡◌, ℕ, zero, suc, ◌+◌, ◌-◌, ◌*◌, ◌/◌, ◌%◌, ◌^◌, ◌<◌, ◌≤◌, Bool, true, false, not, ◌&&◌, ◌||◌, ◌==◌, cond, nat_le, nat_lt, List, [], ◌∷◌, ◌++◌, length, get_or, Option, Some, None, Ok, Err, refl, sym, ap, ◌∙◌, arith, append_assoc, true≢false, eqb-true, ne_eqb, ℤ, pos, negsuc}
use Rattle.std.specs.List.{list_all}
use Rattle.std.specs.Fmt.{decimal, signed_decimal}
use Rattle.std.proofs.lemmas.Bool.Decides.{nat_tests}
use Rattle.std.proofs.lemmas.List.{get_or_append_left}
use Rattle.std.proofs.lemmas.Fmt.{decimal_by_steps, decimal_digit, decimal_nonempty, first_decimal}
use Rattle.grid_base.specs.Key.{is_key, is_key_byte}
use Rattle.grid_base.specs.declared.datum.Datum.{Datum}
use Rattle.grid_base.specs.declared.datum.Datum.TheVariants.{Int, Text, Flag}
use Rattle.pipeline_parse.specs.Grammar.{datum_fits, datum_text, int_fits}
use Rattle.pipeline_parse.specs.Reading.{Read, before_bytes, begins_plain, datum_at, digits_at, int_at, is_digit, key_at, key_bytes_at, number_at, positive_at, with_sign}
use Rattle.pipeline_parse.proofs.Full.{calm, plain_full}
use Rattle.pipeline_parse.proofs.SharedLaws.{datum_full, datum_reads, key_reads}
use Rattle.pipeline_parse.proofs.ValueLaws.{below_zero, int_reads, number_reads}
use Rattle.pipeline_parse.proofs.WordLaws.{both_true}
use Rattle.event_texts.specs.Fits.{until_fits}
use Rattle.event_texts.specs.Reading.{after, begins_number, by_word, datum, found, just, key, made, number, number_in, until}
use Rattle.event_texts.specs.Words.{until_text}
use Rattle.event_texts.proofs.ReadLaws.{Law, Told, at_end, behind_law, choice_sound, found_sound, just_behind, made_behind, other_byte, other_missed}

-- a test whose negation passes fails
not_true : (b : Bool) → not b ≡ true → b ≡ false
not_true false e = refl
not_true true e = absurd (true≢false (sym e))

-- no further digit is read of a calm text
digits_stay : (limit n : ℕ) (y : List ℕ) → calm y ≡ true → digits_at limit n y ≡ (n, y)
digits_stay limit n [] e = refl
digits_stay limit n (b ∷ y) e = ap (λ t. cond (t && nat_le (n * 10 + (b - 48)) limit) (digits_at limit (n * 10 + (b - 48)) y) (n, b ∷ y)) (not_true (is_digit b) e)

-- what is read behind the digits of a number
abbrev ReadsOn : ℕ → ℕ → List ℕ → Type 0
ReadsOn limit n ds = 0 < n → n ≤ limit → (y : List ℕ) → positive_at limit (ds ++ y) ≡ Ok (digits_at limit n y)

-- a number below ten that isn't 0 is one digit from 1 to 9
one_digit : (n : ℕ) → 0 < n → n < 10 → (is_digit (48 + n) && nat_lt 48 (48 + n)) ≡ true
one_digit n low high = grind (arith, nat_tests)

-- a further digit is one, and the number keeps its limit
more_digit : (n limit : ℕ) → n ≤ limit → (is_digit (48 + n % 10) && nat_le (n / 10 * 10 + (48 + n % 10 - 48)) limit) ≡ true
more_digit n limit high =
    let small : 48 + n % 10 ≤ 57 = omega arith in
    let whole : n / 10 * 10 + (48 + n % 10 - 48) ≡ n = omega arith in
    ap (λ t. (nat_le 48 (48 + n % 10) && nat_le (48 + n % 10) 57) && nat_le t limit) whole
    ∙ all_three (48 + n % 10) n limit (omega arith) small high
  where
    all_three : (d n limit : ℕ) → 48 ≤ d → d ≤ 57 → n ≤ limit → ((nat_le 48 d && nat_le d 57) && nat_le n limit) ≡ true
    all_three d n limit a b c = grind (arith, nat_tests)

-- a number in its limit is read digit by digit
positive_on : (limit n : ℕ) → n < 2 ^ 64 → ReadsOn limit n (decimal n)
positive_on limit n small = decimal_by_steps (ReadsOn limit) one more n small
  where
    one : (n : ℕ) → n < 10 → ReadsOn limit n ((48 + n) ∷ [])
    one n high = λ low fits y.
        let back : 48 + n - 48 ≡ n = omega arith in
        ap (λ t. cond t (Ok (digits_at limit (48 + n - 48) y)) (Err (suc (length y)))) (one_digit n low high) ∙ ap (λ m. Ok (digits_at limit m y)) back

    more : (n : ℕ) (ds : List ℕ) → 10 ≤ n → ReadsOn limit (n / 10) ds → ReadsOn limit n (ds ++ (48 + n % 10) ∷ [])
    more n ds low on = λ _ fits y.
        let whole : n / 10 * 10 + (48 + n % 10 - 48) ≡ n = omega arith in
        ap (positive_at limit) (append_assoc ds ((48 + n % 10) ∷ []) y)
        ∙ on (omega arith) (omega arith) ((48 + n % 10) ∷ y)
        ∙ ap (λ t. Ok (cond t (digits_at limit (n / 10 * 10 + (48 + n % 10 - 48)) y) (n / 10, (48 + n % 10) ∷ y))) (more_digit n limit fits)
        ∙ ap (λ m. Ok (digits_at limit m y)) whole

-- what begins with a digit from 1 to 9 is read as such a number
number_other : (limit : ℕ) (s : List ℕ) → 48 < get_or s 0 0 → number_at limit s ≡ positive_at limit s
number_other limit [] h = absurd (omega arith)
number_other limit (b ∷ s) h = ap (λ t. cond t (Ok (0, s)) (positive_at limit (b ∷ s))) (ne_eqb b 48 (λ e. omega arith))

-- each number within the limit is read, where no digit stands behind it
number_full : (limit n : ℕ) (y : List ℕ) → limit < 2 ^ 64 → n ≤ limit → calm y ≡ true → number_at limit (decimal n ++ y) ≡ Ok (n, y)
number_full limit zero y small high e = ap (λ t. number_at limit (t ++ y)) (decimal_digit 0 (omega arith))
number_full limit (suc n) y small high e =
    let same = get_or_append_left (decimal (suc n)) y 0 0 (decimal_nonempty (suc n) (omega arith)) in
    let above = first_decimal (suc n) (omega arith) (omega arith) in
    number_other limit (decimal (suc n) ++ y) (omega arith)
    ∙ positive_on limit (suc n) (omega arith) (omega arith) high y
    ∙ ap (λ p. Ok p) (digits_stay limit (suc n) y e)

-- a number that tests as at most another is
le_from : (m n : ℕ) → nat_le m n ≡ true → m ≤ n
le_from m n e = grind (arith, nat_tests)

-- a number up to a limit
pub number_law : (limit : ℕ) → 9 ≤ limit → limit < 2 ^ 64 → Law calm decimal (λ n. nat_le n limit) (number limit)
number_law limit room small = record {
  sound = found_sound decimal (λ n. nat_le n limit) (number_at limit) (number_reads limit room small);
  full = λ n y keeps ended. ap found (number_full limit n y small (le_from n limit keeps) ended);
}

-- numbers in a limit are read exactly behind a blank
pub number_in_law : (limit : ℕ) → 9 ≤ limit → limit < 2 ^ 64 → Law calm (λ n. 32 ∷ decimal n) (λ n. nat_le n limit) (number_in limit)
number_in_law limit room small = behind_law (32 ∷ []) (number_law limit room small)

-- a number that is read begins with a digit
pub number_begins : (limit n : ℕ) (y : List ℕ) → limit < 2 ^ 64 → n ≤ limit → begins_number (decimal n ++ y) ≡ true
number_begins limit n y small high = go (number_full limit n [] small high refl)
  where
    first_digit : (s z : List ℕ) (p : ℕ × List ℕ) → number_at limit s ≡ Ok p → begins_number (s ++ z) ≡ true
    first_digit [] z p e = cc
    first_digit (b ∷ s) z p e = at (b == 48) refl (is_digit b) refl
      where
        at : (t : Bool) → (b == 48) ≡ t → (d : Bool) → is_digit b ≡ d → is_digit b ≡ true
        at t f true g = g
        at true f false g = ap is_digit (eqb-true b 48 f)
        at false f false g =
            let none : cond false (Ok (0, s)) (cond (false && nat_lt 48 b) (Ok (digits_at limit (b - 48) s)) (Err (suc (length s)))) ≡ Ok p =
            ap (λ x. cond false (Ok (0, s)) (cond (x && nat_lt 48 b) (Ok (digits_at limit (b - 48) s)) (Err (suc (length s))))) (sym g)
            ∙ ap (λ x. cond x (Ok (0, s)) (positive_at limit (b ∷ s))) (sym f)
            ∙ e in
            cc

    go : number_at limit (decimal n ++ []) ≡ Ok (n, []) → begins_number (decimal n ++ y) ≡ true
    go e = ap begins_number (sym (append_assoc (decimal n) [] y)) ∙ first_digit (decimal n ++ []) y (n, []) e

-- nothing, or a blank, is no digit
pub end_is_calm : (y : List ℕ) → at_end y ≡ true → calm y ≡ true
end_is_calm [] e = refl
end_is_calm (b ∷ y) e = ap (λ c. not (is_digit c)) (eqb-true b 32 e)

-- nothing, or a blank, is no other byte
pub end_is_other : (a : ℕ) → (32 == a) ≡ false → (y : List ℕ) → at_end y ≡ true → other_byte a y ≡ true
end_is_other a apart [] e = refl
end_is_other a apart (b ∷ y) e = ap (λ c. not (c == a)) (eqb-true b 32 e) ∙ ap not apart

-- a key is read up to its end
key_front : (k : List ℕ) (room : ℕ) (y : List ℕ) → nat_le (length k) room ≡ true → list_all is_key_byte k ≡ true → at_end y ≡ true → key_bytes_at room (k ++ y) ≡ (k, y)
key_front [] room [] short valid ended = refl
key_front [] room (b ∷ y) short valid ended =
    ap (λ t. cond t (before_bytes b (key_bytes_at (room - 1) y)) ([], b ∷ y)) (ap (λ c. nat_lt 0 room && is_key_byte c) (eqb-true b 32 ended) ∙ and_false (nat_lt 0 room))
  where
    and_false : (t : Bool) → (t && false) ≡ false
    and_false true = refl
    and_false false = refl
key_front (b ∷ k) room y short valid ended =
    let h = both_true (is_key_byte b) (list_all is_key_byte k) valid in
    ap (λ t. cond t (before_bytes b (key_bytes_at (room - 1) (k ++ y))) ([], b ∷ (k ++ y))) (goes room (length k) b short h.0)
    ∙ ap (before_bytes b) (key_front k (room - 1) y (shorter room (length k) short) h.1 ended)
  where
    goes : (room n b : ℕ) → nat_le (suc n) room ≡ true → is_key_byte b ≡ true → (nat_lt 0 room && is_key_byte b) ≡ true
    goes room n b h i = ap (λ x. nat_lt 0 room && x) i ∙ some room n h
      where
        some : (room n : ℕ) → nat_le (suc n) room ≡ true → (nat_lt 0 room && true) ≡ true
        some room n h = grind (arith, nat_tests)

    shorter : (room n : ℕ) → nat_le (suc n) room ≡ true → nat_le n (room - 1) ≡ true
    shorter room n h = grind (arith, nat_tests)

-- a key
pub key_law : Law at_end (λ (k : List ℕ). k) is_key key
key_law = record { sound = found_sound (λ (k : List ℕ). k) is_key key_at key_reads; full = whole }
  where
    whole : (k y : List ℕ) → is_key k ≡ true → at_end y ≡ true → key (k ++ y) ≡ Some (k, y)
    whole k y keeps ended =
        let h = both_true (nat_le 1 (length k)) (nat_le (length k) 64 && list_all is_key_byte k) keeps in
        let g = both_true (nat_le (length k) 64) (list_all is_key_byte k) h.1 in
        ap (λ r. found (cond {A = Read (List ℕ)} (is_key r.0) (Ok r) (Err (length (k ++ y))))) (key_front k 64 y g.0 g.1 ended)
        ∙ ap (λ t. found (cond {A = Read (List ℕ)} t (Ok (k, y)) (Err (length (k ++ y))))) keeps

-- a value
pub datum_law : Law calm datum_text datum_fits datum
datum_law = record {
  sound = found_sound datum_text datum_fits datum_at datum_reads;
  full = λ d y keeps ended. ap found (datum_full d y keeps ended);
}

-- what begins with a digit is read as a number without a sign
int_other : (s : List ℕ) → begins_number s ≡ true → int_at s ≡ with_sign pos (number_at (2 ^ 63 - 1) s)
int_other [] e = absurd (true≢false (sym e))
int_other (b ∷ s) e = go (b == 45) refl
  where
    go : (t : Bool) → (b == 45) ≡ t
        → cond (b == 45) (with_sign below_zero (positive_at (2 ^ 63) s)) (with_sign pos (number_at (2 ^ 63 - 1) (b ∷ s))) ≡ with_sign pos (number_at (2 ^ 63 - 1) (b ∷ s))
    go false f = ap (λ t. cond t (with_sign below_zero (positive_at (2 ^ 63) s)) (with_sign pos (number_at (2 ^ 63 - 1) (b ∷ s)))) f
    go true f = absurd (true≢false (sym e ∙ ap is_digit (eqb-true b 45 f)))

-- a number that tests as less is less
lt_from : (m n : ℕ) → nat_lt m n ≡ true → m < n
lt_from m n e = grind (arith, nat_tests)

-- a value in its range is read as it is written
int_full : (z : ℤ) (y : List ℕ) → int_fits z ≡ true → calm y ≡ true → int_at (signed_decimal z ++ y) ≡ Ok (z, y)
int_full (pos n) y keeps ended =
    let small = lt_from n (2 ^ 63) keeps in
    int_other (decimal n ++ y) (number_begins (2 ^ 63 - 1) n y (omega arith) (omega arith))
    ∙ ap (with_sign pos) (number_full (2 ^ 63 - 1) n y (omega arith) (omega arith) ended)
int_full (negsuc n) y keeps ended =
    let small = lt_from n (2 ^ 63) keeps in
    let back : suc n - 1 ≡ n = omega arith in
    ap (with_sign below_zero) (positive_on (2 ^ 63) (suc n) (omega arith) (omega arith) (omega arith) y ∙ ap (λ p. Ok p) (digits_stay (2 ^ 63) (suc n) y ended))
    ∙ ap (λ m. Ok (negsuc m, y)) back

-- an int
pub int_law : Law calm signed_decimal int_fits (λ s. found (int_at s))
int_law = record { sound = found_sound signed_decimal int_fits int_at int_reads; full = λ z y keeps ended. ap found (int_full z y keeps ended) }

-- a plain word begins with no quote, sign or digit
plain_other : (a : ℕ) → (a == 34 || (a == 45 || is_digit a)) ≡ false → (s : List ℕ) → begins_plain s ≡ true → other_byte a s ≡ true
plain_other a odd [] e = refl
plain_other a odd (b ∷ s) e = go (b == a) refl
  where
    go : (t : Bool) → (b == a) ≡ t → not (b == a) ≡ true
    go false f = ap not f
    go true f = absurd (true≢false (sym e ∙ ap (λ c. c == 34 || (c == 45 || is_digit c)) (eqb-true b a f) ∙ odd))

-- a value doesn't begin with a byte that begins none
pub datum_other : (a : ℕ) → (a == 34 || (a == 45 || is_digit a)) ≡ false → (116 == a) ≡ false → (102 == a) ≡ false
    → (d : Datum) (y : List ℕ) → datum_fits d ≡ true → calm y ≡ true → other_byte a (datum_text d ++ y) ≡ true
datum_other a odd not_t not_f (Flag true) y keeps ended = ap not not_t
datum_other a odd not_t not_f (Flag false) y keeps ended = ap not not_f
datum_other a odd not_t not_f (Int z) y keeps ended = plain_other a odd (datum_text (Int z) ++ y) (plain_full (Int z) y tt keeps ended).0
datum_other a odd not_t not_f (Text t) y keeps ended = plain_other a odd (datum_text (Text t) ++ y) (plain_full (Text t) y tt keeps ended).0

-- a deadline, or none
pub until_law : Law at_end until_text until_fits until
until_law = record {
  sound = choice_sound (126 ∷ []) until_text until_fits (made_behind (126 ∷ []) Some until_text until_fits (λ n. refl) (λ n. refl) (number_law 4294967295 (omega arith) (omega arith)))
      (λ s p e. just_none s p e);
  full = whole;
}
  where
    just_none : (s : List ℕ) (p : Option ℕ × List ℕ) → just None s ≡ Some p → Told until_text until_fits s p
    just_none = just_behind [] None until_text until_fits refl refl

    whole : (o : Option ℕ) (y : List ℕ) → until_fits o ≡ true → at_end y ≡ true → until (until_text o ++ y) ≡ Some (o, y)
    whole None y keeps ended = ap (λ o. by_word o (made Some (number 4294967295)) (Some (None, y))) (other_missed 126 [] y (end_is_other 126 refl y ended)).1
    whole (Some n) y keeps ended =
        ap (λ o. after o (λ m rest. Some (Some m, rest))) ((number_law 4294967295 (omega arith) (omega arith)).full n y keeps (end_is_calm y ended))
