-- The readers of values are exact.
use Rattle.std.proofs.Common.{◌≡◌, ℕ, suc, ◌+◌, ◌-◌, ◌*◌, ◌/◌, ◌%◌, ◌^◌, ◌<◌, ◌≤◌, Bool, true, false, ◌&&◌, ◌==◌, cond, nat_le, nat_lt, List, [], ◌∷◌, ◌++◌, length, Option, Some, None, Ok, Err, refl, sym, ap, ◌∙◌, subst, arith, append_assoc, eqb-true, ℤ, pos, negsuc}
use Rattle.std.specs.List.{list_all}
use Rattle.std.specs.Fmt.{decimal, signed_decimal}
use Rattle.std.proofs.lemmas.Bool.Decides.{nat_tests}
use Rattle.std.proofs.lemmas.List.{append-nil}
use Rattle.std.proofs.lemmas.Fmt.{decimal_digit, decimal_step}
use Rattle.grid_base.specs.Text.{is_text, is_text_byte}
use Rattle.grid_base.specs.declared.datum.Datum.{Datum}
use Rattle.grid_base.specs.declared.datum.Datum.TheVariants.{Int, Text}
use Rattle.pipeline_parse.specs.Grammar.{datum_text, datum_fits, int_fits}
use Rattle.pipeline_parse.specs.Reading.{Read, ◌>>=◌, first, digits_at, int_at, is_digit, literal_at, number_at, plain_at, positive_at, quoted_at, with_byte, with_sign}
use Rattle.pipeline_parse.proofs.Laws.{Exact, Tells, choice_reads, done_reads, none_left, then_reads, wider_reads}
use Rattle.pipeline_parse.proofs.WordLaws.{literal_then, both_true}

-- a text with the closing quote behind it
abbrev pub quoted_text : List ℕ → List ℕ
quoted_text t = t ++ 34 ∷ []

-- a text fits the room, and has only bytes of texts
abbrev pub quoted_fits : ℕ → List ℕ → Bool
quoted_fits room t = nat_le (length t) room && list_all is_text_byte t

-- the empty text fits
fits_none : (room : ℕ) → quoted_fits room [] ≡ true
fits_none room = grind (arith, nat_tests)

-- a byte and a text that fits the rest of the room fit
fits_more : (room b : ℕ) (t : List ℕ) → (nat_lt 0 room && is_text_byte b) ≡ true → quoted_fits (room - 1) t ≡ true → quoted_fits room (b ∷ t) ≡ true
fits_more room b t goes fits =
    let g = both_true (nat_lt 0 room) (is_text_byte b) goes in
    let f = both_true (nat_le (length t) (room - 1)) (list_all is_text_byte t) fits in
    let front : nat_le (suc (length t)) room ≡ true = room_more room (length t) g.0 f.0 in
    ap (λ x. x && (is_text_byte b && list_all is_text_byte t)) front ∙ ap (λ x. x && list_all is_text_byte t) g.1 ∙ f.1
  where
    room_more : (room n : ℕ) → nat_lt 0 room ≡ true → nat_le n (room - 1) ≡ true → nat_le (suc n) room ≡ true
    room_more room n e f = grind (arith, nat_tests)

-- the bytes of a text, and its closing quote
pub quoted_tells : (s : List ℕ) (room : ℕ) → Tells [] quoted_text (quoted_fits room) (quoted_at room) s (quoted_at room s)
quoted_tells [] room = record {
  taken = [];
  rest = [];
  whole = refl;
  count = refl;
  again = λ z e. ap (quoted_at room) (none_left z e) ∙ ap (λ y. Err (length y)) (sym (none_left z e));
  some = [];
  more = 34 ∷ [];
  keeps = fits_none room;
  begins = refl;
}
quoted_tells (b ∷ s) room = closes (b == 34) refl (nat_lt 0 room && is_text_byte b) refl (quoted_at (room - 1) s) refl (quoted_tells s (room - 1))
  where
    step : (t g : Bool) → (b == 34) ≡ t → (nat_lt 0 room && is_text_byte b) ≡ g → (z : List ℕ)
        → quoted_at room (b ∷ z) ≡ cond t (Ok ([], z)) (cond g (with_byte b (quoted_at (room - 1) z)) (Err (suc (length z))))
    step t g e f z =
        ap (λ x. cond x (Ok ([], z)) (cond (nat_lt 0 room && is_text_byte b) (with_byte b (quoted_at (room - 1) z)) (Err (suc (length z))))) e
        ∙ ap (λ x. cond t (Ok ([], z)) (cond x (with_byte b (quoted_at (room - 1) z)) (Err (suc (length z))))) f

    closes : (t : Bool) → (b == 34) ≡ t → (g : Bool) → (nat_lt 0 room && is_text_byte b) ≡ g → (o : Read (List ℕ)) → quoted_at (room - 1) s ≡ o
        → Tells [] quoted_text (quoted_fits (room - 1)) (quoted_at (room - 1)) s o
        → Tells [] quoted_text (quoted_fits room) (quoted_at room) (b ∷ s) (cond t (Ok ([], s)) (cond g (with_byte b o) (Err (suc (length s)))))
    closes true e g f o is h = record {
      taken = b ∷ [];
      whole = refl;
      reads = ap (λ x. x ∷ []) (sym (eqb-true b 34 e));
      keeps = fits_none room;
      again = λ z _. step true g e f z;
    }
    closes false e true f (Ok p) is h = record {
      taken = b ∷ h.taken;
      whole = ap (λ x. b ∷ x) h.whole;
      reads = ap (λ x. b ∷ x) h.reads;
      keeps = fits_more room b p.0 f h.keeps;
      again = λ z i. step false true e f (h.taken ++ z) ∙ ap (with_byte b) (h.again z i);
    }
    closes false e true f (Err n) is h = record {
      taken = b ∷ h.taken;
      rest = h.rest;
      whole = ap (λ x. b ∷ x) h.whole;
      count = h.count;
      again = λ z i. step false true e f (h.taken ++ z) ∙ ap (with_byte b) (h.again z i);
      some = b ∷ h.some;
      more = h.more;
      keeps = fits_more room b h.some f h.keeps;
      begins = ap (λ x. b ∷ x) h.begins;
    }
    closes false e false f o is h = record {
      taken = [];
      rest = b ∷ s;
      whole = refl;
      count = refl;
      again = differs;
      some = [];
      more = 34 ∷ [];
      keeps = fits_none room;
      begins = refl;
    }
      where
        differs : (z : List ℕ) → Some b ≡ first z → quoted_at room z ≡ Err (length z)
        differs [] i = cc
        differs (c ∷ z) i = let one : c ≡ b = cc in ap (λ x. quoted_at room (x ∷ z)) one ∙ step false false e f z

-- the reader of quoted texts is exact
pub quoted_reads : (room : ℕ) → Exact [] quoted_text (quoted_fits room) (quoted_at room)
quoted_reads room = record { tells = λ s. quoted_tells s room }

-- further digits of a number
pub record Numbers (limit n : ℕ) (s : List ℕ) (m : ℕ) (y : List ℕ) : Type 0 where
  pub taken : List ℕ
  pub whole : s ≡ taken ++ y
  pub reads : decimal m ≡ decimal n ++ taken
  pub above : n ≤ m
  pub within : m ≤ limit
  pub again : (z : List ℕ) → first y ≡ first z → digits_at limit n (taken ++ z) ≡ (m, z)

-- a number that passes the test is at most the other
le_from : (m n : ℕ) → nat_le m n ≡ true → m ≤ n
le_from m n e = grind (arith, nat_tests)

-- a number that passes the test is less
lt_from : (m n : ℕ) → nat_lt m n ≡ true → m < n
lt_from m n e = grind (arith, nat_tests)

-- one more digit behind a number
digit_behind : (n b : ℕ) → 0 < n → is_digit b ≡ true → n * 10 + (b - 48) < 2 ^ 64 → decimal (n * 10 + (b - 48)) ≡ decimal n ++ b ∷ []
digit_behind n b low digit fits =
    let d = both_true (nat_le 48 b) (nat_le b 57) digit in
    let low_b : 48 ≤ b = le_from 48 b d.0 in
    let high_b : b ≤ 57 = le_from b 57 d.1 in
    let front : (n * 10 + (b - 48)) / 10 ≡ n = omega arith in
    let last : 48 + (n * 10 + (b - 48)) % 10 ≡ b = omega arith in
    decimal_step (n * 10 + (b - 48)) (omega arith) fits ∙ ap (λ x. decimal x ++ (48 + (n * 10 + (b - 48)) % 10) ∷ []) front ∙ ap (λ x. decimal n ++ x ∷ []) last

-- further digits are those of the number
pub digits_tells : (limit : ℕ) → limit < 2 ^ 64 → (s : List ℕ) (n : ℕ) → 0 < n → n ≤ limit → Numbers limit n s (digits_at limit n s).0 (digits_at limit n s).1
digits_tells limit small [] n low high = record {
  taken = [];
  whole = refl;
  reads = sym (append-nil (decimal n));
  above = omega arith;
  within = high;
  again = λ z e. ap (digits_at limit n) (none_left z e) ∙ ap (λ y. (n, y)) (sym (none_left z e));
}
digits_tells limit small (b ∷ s) n low high = go (digits_tells limit small s (n * 10 + (b - 48))) (is_digit b && nat_le (n * 10 + (b - 48)) limit) refl
  where
    step : (t : Bool) → (is_digit b && nat_le (n * 10 + (b - 48)) limit) ≡ t → (z : List ℕ) → digits_at limit n (b ∷ z) ≡ cond t (digits_at limit (n * 10 + (b - 48)) z) (n, b ∷ z)
    step t e z = ap (λ x. cond x (digits_at limit (n * 10 + (b - 48)) z) (n, b ∷ z)) e

    go : (0 < n * 10 + (b - 48) → n * 10 + (b - 48) ≤ limit → Numbers limit (n * 10 + (b - 48)) s (digits_at limit (n * 10 + (b - 48)) s).0 (digits_at limit (n * 10 + (b - 48)) s).1)
        → (t : Bool) → (is_digit b && nat_le (n * 10 + (b - 48)) limit) ≡ t
        → Numbers limit n (b ∷ s) (cond t (digits_at limit (n * 10 + (b - 48)) s) (n, b ∷ s)).0 (cond t (digits_at limit (n * 10 + (b - 48)) s) (n, b ∷ s)).1
    go on true e =
        let parts = both_true (is_digit b) (nat_le (n * 10 + (b - 48)) limit) e in
        let within : n * 10 + (b - 48) ≤ limit = le_from (n * 10 + (b - 48)) limit parts.1 in
        let h = on (omega arith) within in
        let above = h.above in
        record {
          taken = b ∷ h.taken;
          whole = ap (λ x. b ∷ x) h.whole;
          reads = h.reads ∙ ap (λ x. x ++ h.taken) (digit_behind n b low parts.0 (omega arith)) ∙ append_assoc (decimal n) (b ∷ []) h.taken;
          above = omega arith;
          within = h.within;
          again = λ z f. step true e (h.taken ++ z) ∙ h.again z f;
        }
    go on false e = record {
      taken = [];
      whole = refl;
      reads = sym (append-nil (decimal n));
      above = omega arith;
      within = high;
      again = stays;
    }
      where
        stays : (z : List ℕ) → Some b ≡ first z → digits_at limit n z ≡ (n, z)
        stays [] f = cc
        stays (c ∷ z) f = let one : c ≡ b = cc in ap (λ x. digits_at limit n (x ∷ z)) one ∙ step false e z ∙ ap (λ x. (n, x ∷ z)) (sym one)

-- a number is from 1 to the limit
abbrev pub positive_fits : ℕ → ℕ → Bool
positive_fits limit n = nat_lt 0 n && nat_le n limit

-- such a number passes the test
positive_fits_from : (limit n : ℕ) → 0 < n → n ≤ limit → positive_fits limit n ≡ true
positive_fits_from limit n low high = grind (arith, nat_tests)

-- a digit from 1 to 9 has a value from 1 to 9
digit_value : (b : ℕ) → (is_digit b && nat_lt 48 b) ≡ true → (0 < b - 48) × (b - 48 < 10) × (48 + (b - 48) ≡ b)
digit_value b e =
    let parts = both_true (is_digit b) (nat_lt 48 b) e in
    let digit = both_true (nat_le 48 b) (nat_le b 57) parts.0 in
    let low : 48 < b = lt_from 48 b parts.1 in
    let high : b ≤ 57 = le_from b 57 digit.1 in
    (omega arith, omega arith, omega arith)

-- a number from 1 on
pub positive_tells : (limit : ℕ) → 9 ≤ limit → limit < 2 ^ 64 → (s : List ℕ) → Tells [] decimal (positive_fits limit) (positive_at limit) s (positive_at limit s)
positive_tells limit room small [] = record {
  taken = [];
  rest = [];
  whole = refl;
  count = refl;
  again = λ z e. ap (positive_at limit) (none_left z e) ∙ ap (λ y. Err (length y)) (sym (none_left z e));
  some = 1;
  more = decimal 1;
  keeps = positive_fits_from limit 1 (omega arith) (omega arith);
  begins = refl;
}
positive_tells limit room small (b ∷ s) = go (is_digit b && nat_lt 48 b) refl
  where
    step : (t : Bool) → (is_digit b && nat_lt 48 b) ≡ t → (z : List ℕ) → positive_at limit (b ∷ z) ≡ cond t (Ok (digits_at limit (b - 48) z)) (Err (suc (length z)))
    step t e z = ap (λ x. cond x (Ok (digits_at limit (b - 48) z)) (Err (suc (length z)))) e

    go : (t : Bool) → (is_digit b && nat_lt 48 b) ≡ t → Tells [] decimal (positive_fits limit) (positive_at limit) (b ∷ s) (cond t (Ok (digits_at limit (b - 48) s)) (Err (suc (length s))))
    go true e =
        let d = digit_value b e in
        let low = d.0 in
        let high = d.1 in
        let h = digits_tells limit small s (b - 48) low (omega arith) in
        let above = h.above in
        record {
          taken = b ∷ h.taken;
          whole = ap (λ x. b ∷ x) h.whole;
          reads = h.reads ∙ ap (λ x. x ++ h.taken) (decimal_digit (b - 48) high ∙ ap (λ x. x ∷ []) d.2);
          keeps = positive_fits_from limit (digits_at limit (b - 48) s).0 (omega arith) h.within;
          again = λ z f. step true e (h.taken ++ z) ∙ ap (λ p. Ok p) (h.again z f);
        }
    go false e = record {
      taken = [];
      rest = b ∷ s;
      whole = refl;
      count = refl;
      again = differs;
      some = 1;
      more = decimal 1;
      keeps = positive_fits_from limit 1 (omega arith) (omega arith);
      begins = refl;
    }
      where
        differs : (z : List ℕ) → Some b ≡ first z → positive_at limit z ≡ Err (length z)
        differs [] i = cc
        differs (c ∷ z) i = let one : c ≡ b = cc in ap (λ x. positive_at limit (x ∷ z)) one ∙ step false e z

-- the reader of numbers from 1 on is exact
pub positive_reads : (limit : ℕ) → 9 ≤ limit → limit < 2 ^ 64 → Exact [] decimal (positive_fits limit) (positive_at limit)
positive_reads limit room small = record { tells = positive_tells limit room small }

-- the first byte is this one
is_byte : ℕ → Option ℕ → Bool
is_byte b None = false
is_byte b (Some c) = c == b

-- a number from 0 on
pub number_reads : (limit : ℕ) → 9 ≤ limit → limit < 2 ^ 64 → Exact [] decimal (λ n. nat_le n limit) (number_at limit)
unfolding is_byte
number_reads limit room small =
    choice_reads [] decimal (λ n. nat_le n limit) (is_byte 48) (number_at limit) (λ s. literal_at (48 ∷ []) s >>= (λ y. Ok (0, y))) (positive_at limit)
    (λ s. is s)
    (literal_then [] (48 ∷ []) decimal (λ n. nat_le n limit) (λ y. Ok (0, y)) (done_reads decimal (λ n. nat_le n limit) (48 ∷ []) 0 (decimal_digit 0 (omega arith)) (none_over limit)))
    (wider_reads [] decimal (positive_fits limit) (λ n. nat_le n limit) (positive_at limit) (λ n e. (both_true (nat_lt 0 n) (nat_le n limit) e).1) (positive_reads limit room small))
  where
    none_over : (n : ℕ) → nat_le 0 n ≡ true
    none_over n = grind (arith, nat_tests)

    is : (s : List ℕ) → number_at limit s ≡ cond (is_byte 48 (first s)) (literal_at (48 ∷ []) s >>= (λ y. Ok (0, y))) (positive_at limit s)
    is [] = refl
    is (b ∷ s) = go (b == 48)
      where
        go : (t : Bool) → cond t (Ok (0, s)) (positive_at limit (b ∷ s)) ≡ cond t (cond t (Ok s) (Err (suc (length s))) >>= (λ y. Ok (0, y))) (positive_at limit (b ∷ s))
        go true = refl
        go false = refl

-- what stands before a closing quote is a text
pub quoted_is_text : (s t y : List ℕ) → quoted_at 64 s ≡ Ok (t, y) → is_text t ≡ true
quoted_is_text s t y e = (subst (Tells [] quoted_text (quoted_fits 64) (quoted_at 64) s) e (quoted_tells s 64)).keeps

-- a lesser number passes the test
to_lt : (m n : ℕ) → m < n → nat_lt m n ≡ true
to_lt m n h = grind (arith, nat_tests)

-- the negative of a number
abbrev pub below_zero : ℕ → ℤ
below_zero n = negsuc (n - 1)

-- the reader of negative ints is exact, behind the minus
below_reads : Exact (45 ∷ []) signed_decimal int_fits (λ y. with_sign below_zero (positive_at (2 ^ 63) y))
below_reads =
    then_reads (45 ∷ []) decimal (positive_fits (2 ^ 63)) (positive_at (2 ^ 63)) signed_decimal int_fits (λ n y. Ok (below_zero n, y)) (positive_reads (2 ^ 63) (omega arith) (omega arith))
    (λ n keeps. done_reads signed_decimal int_fits (45 ∷ decimal n) (below_zero n) (reads n keeps) (fits n keeps))
  where
    reads : (n : ℕ) → positive_fits (2 ^ 63) n ≡ true → signed_decimal (below_zero n) ≡ 45 ∷ decimal n
    reads n keeps =
        let low = lt_from 0 n (both_true (nat_lt 0 n) (nat_le n (2 ^ 63)) keeps).0 in
        let same : suc (n - 1) ≡ n = omega arith in
        ap (λ x. 45 ∷ decimal x) same

    fits : (n : ℕ) → positive_fits (2 ^ 63) n ≡ true → nat_lt (n - 1) (2 ^ 63) ≡ true
    fits n keeps =
        let low = lt_from 0 n (both_true (nat_lt 0 n) (nat_le n (2 ^ 63)) keeps).0 in
        let high = le_from n (2 ^ 63) (both_true (nat_lt 0 n) (nat_le n (2 ^ 63)) keeps).1 in
        let h : n - 1 < 2 ^ 63 = omega arith in
        to_lt (n - 1) (2 ^ 63) h

-- the reader of ints from 0 on is exact
above_reads : Exact [] signed_decimal int_fits (λ s. with_sign pos (number_at (2 ^ 63 - 1) s))
above_reads =
    then_reads [] decimal (λ n. nat_le n (2 ^ 63 - 1)) (number_at (2 ^ 63 - 1)) signed_decimal int_fits (λ n y. Ok (pos n, y)) (number_reads (2 ^ 63 - 1) (omega arith) (omega arith))
    (λ n keeps. done_reads signed_decimal int_fits (decimal n) (pos n) refl (fits n (le_from n (2 ^ 63 - 1) keeps)))
  where
    fits : (n : ℕ) → n ≤ 2 ^ 63 - 1 → nat_lt n (2 ^ 63) ≡ true
    fits n h = let g : n < 2 ^ 63 = omega arith in to_lt n (2 ^ 63) g

-- a number of 64 bits with its sign
pub int_reads : Exact [] signed_decimal int_fits int_at
unfolding is_byte
int_reads =
    choice_reads [] signed_decimal int_fits (is_byte 45) int_at (λ s. literal_at (45 ∷ []) s >>= (λ y. with_sign below_zero (positive_at (2 ^ 63) y))) (λ s. with_sign pos (number_at (2 ^ 63 - 1) s))
    (λ s. is s)
    (literal_then [] (45 ∷ []) signed_decimal int_fits (λ y. with_sign below_zero (positive_at (2 ^ 63) y)) below_reads)
    above_reads
  where
    is : (s : List ℕ) → int_at s ≡ cond (is_byte 45 (first s)) (literal_at (45 ∷ []) s >>= (λ y. with_sign below_zero (positive_at (2 ^ 63) y))) (with_sign pos (number_at (2 ^ 63 - 1) s))
    is [] = refl
    is (b ∷ s) = go (b == 45)
      where
        go : (t : Bool) → cond t (with_sign below_zero (positive_at (2 ^ 63) s)) (with_sign pos (number_at (2 ^ 63 - 1) (b ∷ s)))
            ≡ cond t (cond t (Ok s) (Err (suc (length s))) >>= (λ y. with_sign below_zero (positive_at (2 ^ 63) y))) (with_sign pos (number_at (2 ^ 63 - 1) (b ∷ s)))
        go true = refl
        go false = refl

-- a text that was read, as a value
abbrev pub as_text : Read (List ℕ) → Read Datum
as_text r = r >>= (λ p. Ok (Text p.0, p.1))

-- an int that was read, as a value
abbrev pub as_int : Read ℤ → Read Datum
as_int r = r >>= (λ p. Ok (Int p.0, p.1))

-- a value that is no flag
pub plain_reads : Exact [] datum_text datum_fits plain_at
unfolding is_byte
plain_reads =
    choice_reads [] datum_text datum_fits (is_byte 34) plain_at (λ s. literal_at (34 ∷ []) s >>= (λ y. as_text (quoted_at 64 y))) (λ s. as_int (int_at s))
    (λ s. is s)
    (literal_then [] (34 ∷ []) datum_text datum_fits (λ y. as_text (quoted_at 64 y))
    (then_reads (34 ∷ []) quoted_text (quoted_fits 64) (quoted_at 64) datum_text datum_fits (λ t y. Ok (Text t, y)) (quoted_reads 64)
    (λ t keeps. done_reads datum_text datum_fits (34 ∷ quoted_text t) (Text t) refl keeps)))
    (then_reads [] signed_decimal int_fits int_at datum_text datum_fits (λ z y. Ok (Int z, y)) int_reads (λ z keeps. done_reads datum_text datum_fits (signed_decimal z) (Int z) refl keeps))
  where
    is : (s : List ℕ) → plain_at s ≡ cond (is_byte 34 (first s)) (literal_at (34 ∷ []) s >>= (λ y. as_text (quoted_at 64 y))) (as_int (int_at s))
    is [] = refl
    is (b ∷ s) = go (b == 34)
      where
        go : (t : Bool) → cond t (as_text (quoted_at 64 s)) (as_int (int_at (b ∷ s)))
            ≡ cond t (cond t (Ok s) (Err (suc (length s))) >>= (λ y. as_text (quoted_at 64 y))) (as_int (int_at (b ∷ s)))
        go true = refl
        go false = refl
