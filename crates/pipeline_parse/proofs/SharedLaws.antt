-- The readers of values and keys, which other texts share, are exact, and each text of a value or a key is read.
use Rattle.std.proofs.Common.{◌≡◌, ℕ, suc, ◌-◌, Bool, true, false, ◌&&◌, ◌||◌, ◌==◌, cond, nat_le, nat_lt, List, [], ◌∷◌, ◌++◌, length, Option, Some, None, Ok, Err, refl, sym, ap, ◌∙◌, subst, true≢false}
use Rattle.std.specs.List.{list_all}
use Rattle.std.proofs.lemmas.Bool.Decides.{nat_tests}
use Rattle.std.proofs.Common.{arith}
use Rattle.grid_base.specs.Key.{is_key, is_key_byte}
use Rattle.grid_base.specs.declared.datum.Datum.{Datum}
use Rattle.grid_base.specs.declared.datum.Datum.TheVariants.{Int, Text, Flag}
use Rattle.pipeline_parse.specs.Grammar.{datum_fits, datum_text, flag_text}
use Rattle.pipeline_parse.specs.Reading.{Read, ◌>>=◌, before_bytes, datum_at, first, flags, is_digit, key_at, key_bytes_at, plain_at, word_at}
use Rattle.pipeline_parse.proofs.Full.{calm, plain_full}
use Rattle.pipeline_parse.proofs.Laws.{Exact, Tells, choice_reads, done_reads, none_left, then_reads}
use Rattle.pipeline_parse.proofs.ParseLaws.{both_fit}
use Rattle.pipeline_parse.proofs.ValueLaws.{plain_reads}
use Rattle.pipeline_parse.proofs.WordLaws.{both_true, word_reads}

-- the first byte of an int or a text
abbrev plain_byte : Option ℕ → Bool
plain_byte None = false
plain_byte (Some b) = b == 34 || (b == 45 || is_digit b)

-- the reader of flags
abbrev flag_at : List ℕ → Read Datum
flag_at s = word_at flag_text flags s >>= (λ p. Ok (Flag p.0, p.1))

-- the reader of values is exact
pub datum_reads : Exact [] datum_text datum_fits datum_at
unfolding datum_at
datum_reads =
    choice_reads [] datum_text datum_fits plain_byte datum_at plain_at flag_at (λ s. is s) plain_reads
    (then_reads [] flag_text (λ _. true) (word_at flag_text flags) datum_text datum_fits (λ b y. Ok (Flag b, y)) (word_reads flag_text (λ _. true) true flags refl refl refl)
    (λ b _. done_reads datum_text datum_fits (flag_text b) (Flag b) refl refl))
  where
    is : (s : List ℕ) → datum_at s ≡ cond (plain_byte (first s)) (plain_at s) (flag_at s)
    is [] = refl
    is (b ∷ s) = refl

-- each value is read of its text, where no digit stands behind it
pub datum_full : (d : Datum) (y : List ℕ) → datum_fits d ≡ true → calm y ≡ true → datum_at (datum_text d ++ y) ≡ Ok (d, y)
unfolding datum_at
datum_full (Int z) y fits quiet =
    let h = plain_full (Int z) y tt fits quiet in
    ap (λ t. cond t (plain_at (datum_text (Int z) ++ y)) (flag_at (datum_text (Int z) ++ y))) h.0 ∙ h.1
datum_full (Text t) y fits quiet = (plain_full (Text t) y tt fits quiet).1
datum_full (Flag true) y fits quiet = refl
datum_full (Flag false) y fits quiet = refl

-- the bytes in front that may stand in a key
record Front (room : ℕ) (s key rest : List ℕ) : Type 0 where
  pub whole : s ≡ key ++ rest
  pub short : nat_le (length key) room ≡ true
  pub valid : list_all is_key_byte key ≡ true
  pub again : (z : List ℕ) → first rest ≡ first z → key_bytes_at room (key ++ z) ≡ (key, z)

-- the bytes that are read for a key are those in front that may stand in one
front_tells : (s : List ℕ) (room : ℕ) → Front room s (key_bytes_at room s).0 (key_bytes_at room s).1
front_tells [] room = record {
  whole = refl;
  short = none_over room;
  valid = refl;
  again = λ z e. ap (key_bytes_at room) (none_left z e) ∙ ap (λ y. ([], y)) (sym (none_left z e));
}
  where
    none_over : (room : ℕ) → nat_le 0 room ≡ true
    none_over room = grind (arith, nat_tests)
front_tells (b ∷ s) room = go (front_tells s (room - 1)) (nat_lt 0 room && is_key_byte b) refl
  where
    step : (t : Bool) → (nat_lt 0 room && is_key_byte b) ≡ t → (z : List ℕ) → key_bytes_at room (b ∷ z) ≡ cond t (before_bytes b (key_bytes_at (room - 1) z)) ([], b ∷ z)
    step t e z = ap (λ x. cond x (before_bytes b (key_bytes_at (room - 1) z)) ([], b ∷ z)) e

    longer : (room n : ℕ) → nat_lt 0 room ≡ true → nat_le n (room - 1) ≡ true → nat_le (suc n) room ≡ true
    longer room n e f = grind (arith, nat_tests)

    none_over : (room : ℕ) → nat_le 0 room ≡ true
    none_over room = grind (arith, nat_tests)

    go : Front (room - 1) s (key_bytes_at (room - 1) s).0 (key_bytes_at (room - 1) s).1 → (t : Bool) → (nat_lt 0 room && is_key_byte b) ≡ t
        → Front room (b ∷ s) (cond t (before_bytes b (key_bytes_at (room - 1) s)) ([], b ∷ s)).0 (cond t (before_bytes b (key_bytes_at (room - 1) s)) ([], b ∷ s)).1
    go h true e =
        let parts = both_true (nat_lt 0 room) (is_key_byte b) e in
        record {
          whole = ap (λ x. b ∷ x) h.whole;
          short = longer room (length (key_bytes_at (room - 1) s).0) parts.0 h.short;
          valid = both_fit (is_key_byte b) (list_all is_key_byte (key_bytes_at (room - 1) s).0) parts.1 h.valid;
          again = λ z f. step true e ((key_bytes_at (room - 1) s).0 ++ z) ∙ ap (before_bytes b) (h.again z f);
        }
    go h false e = record { whole = refl; short = none_over room; valid = refl; again = stays }
      where
        stays : (z : List ℕ) → Some b ≡ first z → key_bytes_at room z ≡ ([], z)
        stays [] f = cc
        stays (c ∷ z) f = let one : c ≡ b = cc in ap (λ x. key_bytes_at room (x ∷ z)) one ∙ step false e z ∙ ap (λ x. ([], x ∷ z)) (sym one)

-- the reader of keys is exact
pub key_reads : Exact [] (λ key. key) is_key key_at
key_reads = record { tells = λ s. go s (key_bytes_at 64 s).0 (key_bytes_at 64 s).1 (front_tells s 64) (is_key (key_bytes_at 64 s).0) refl }
  where
    found : (key z : List ℕ) → is_key key ≡ true → cond {A = Read (List ℕ)} (is_key key) (Ok (key, z)) (Err (length (key ++ z))) ≡ Ok (key, z)
    found key z e = ap (λ t. cond {A = Read (List ℕ)} t (Ok (key, z)) (Err (length (key ++ z)))) e

    go : (s key rest : List ℕ) → Front 64 s key rest → (t : Bool) → is_key key ≡ t → Tells [] (λ key. key) is_key key_at s (cond {A = Read (List ℕ)} (is_key key) (Ok (key, rest)) (Err (length s)))
    go s key rest h true e = subst (Tells [] (λ key. key) is_key key_at s) (sym (ap (λ t. cond {A = Read (List ℕ)} t (Ok (key, rest)) (Err (length s))) e)) (record {
      taken = key;
      whole = h.whole;
      reads = refl;
      keeps = e;
      again = λ z f. ap (λ r. cond {A = Read (List ℕ)} (is_key r.0) (Ok r) (Err (length (key ++ z)))) (h.again z f) ∙ found key z e;
    })
    go s [] rest h false e = record {
      taken = [];
      rest = s;
      whole = refl;
      count = refl;
      again = λ z f. ap (λ r. cond {A = Read (List ℕ)} (is_key r.0) (Ok r) (Err (length z))) (h.again z (sym (ap first h.whole) ∙ f));
      some = 33 ∷ [];
      more = 33 ∷ [];
      keeps = refl;
      begins = refl;
    }
    go s (b ∷ key) rest h false e = absurd (true≢false (sym (both_fit (nat_le (suc (length key)) 64) (list_all is_key_byte (b ∷ key)) h.short h.valid) ∙ some_key b key ∙ e))
      where
        some_key : (b : ℕ) (key : List ℕ) → (nat_le (suc (length key)) 64 && list_all is_key_byte (b ∷ key)) ≡ is_key (b ∷ key)
        some_key b key = ap (λ t. t && (nat_le (suc (length key)) 64 && list_all is_key_byte (b ∷ key))) (sym (one_up (length key)))
          where
            one_up : (n : ℕ) → nat_le 1 (suc n) ≡ true
            one_up n = grind (arith, nat_tests)
