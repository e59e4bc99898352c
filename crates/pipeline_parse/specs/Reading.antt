-- Readers: what stands at the front of some bytes, and what is left behind it.
use Rattle.std.specs.Prelude.{ℕ, suc, ◌+◌, ◌-◌, ◌*◌, ◌^◌, Bool, false, ◌&&◌, ◌||◌, ◌==◌, nat_lt, nat_le, min, List, [], ◌∷◌, length, Option, Some, None, Result, Ok, Err, if◌then◌else◌, ℤ, pos, negsuc, true}
use Rattle.grid_base.specs.Key.{is_key, is_key_byte}
use Rattle.grid_base.specs.Text.{is_text_byte}
use Rattle.pipeline_parse.specs.Grammar.{flag_text}
use Rattle.grid_base.specs.declared.datum.Datum.{Datum}
use Rattle.grid_base.specs.declared.datum.Datum.TheVariants.{Int, Text, Flag}

-- what was read and the bytes behind it; or how many bytes are left where no text goes on
abbrev pub Read : Type 0 → Type 0
Read A = Result (A × List ℕ) ℕ

infixl 10 ◌>>=◌
abbrev pub ◌>>=◌ : {A B : Type 0} → Result A ℕ → (A → Result B ℕ) → Result B ℕ
(Ok x) >>= f = f x
(Err left) >>= f = Err left

-- the first byte, if there is one
abbrev pub first : List ℕ → Option ℕ
first [] = None
first (b ∷ s) = Some b

-- the bytes behind a word
abbrev pub literal_at : List ℕ → List ℕ → Result (List ℕ) ℕ
literal_at [] s = Ok s
literal_at (w ∷ word) [] = Err 0
literal_at (w ∷ word) (b ∷ s) = if b == w then literal_at word s else Err (suc (length s))

-- the first of two readings that finds something, or where the one that came further stopped
abbrev pub first_of_two : {A : Type 0} → A → Result (List ℕ) ℕ → Read A → Read A
first_of_two x (Ok s) other = Ok (x, s)
first_of_two x (Err left) (Ok r) = Ok r
first_of_two x (Err left) (Err least) = Err (min left least)

-- the one choice whose word stands in front
abbrev pub word_at : {A : Type 0} → (A → List ℕ) → List A → List ℕ → Read A
word_at word [] s = Err (length s)
word_at word (x ∷ xs) s = first_of_two x (literal_at (word x) s) (word_at word xs s)

abbrev pub is_digit : ℕ → Bool
is_digit b = nat_le 48 b && nat_le b 57

-- the number with further digits behind it, as long as it stays within a limit
abbrev pub digits_at : ℕ → ℕ → List ℕ → ℕ × List ℕ
digits_at limit n [] = (n, [])
digits_at limit n (b ∷ s) = if is_digit b && nat_le (n * 10 + (b - 48)) limit then digits_at limit (n * 10 + (b - 48)) s else (n, b ∷ s)

-- a number from 1 to a limit
abbrev pub positive_at : ℕ → List ℕ → Read ℕ
positive_at limit [] = Err 0
positive_at limit (b ∷ s) = if is_digit b && nat_lt 48 b then Ok (digits_at limit (b - 48) s) else Err (suc (length s))

-- a number from 0 to a limit
abbrev pub number_at : ℕ → List ℕ → Read ℕ
number_at limit [] = Err 0
number_at limit (b ∷ s) = if b == 48 then Ok (0, s) else positive_at limit (b ∷ s)

abbrev pub with_sign : (ℕ → ℤ) → Read ℕ → Read ℤ
with_sign sign r = r >>= (λ p. Ok (sign p.0, p.1))

-- a number of 64 bits with its sign
abbrev pub int_at : List ℕ → Read ℤ
int_at [] = Err 0
int_at (b ∷ s) = if b == 45 then with_sign (λ n. negsuc (n - 1)) (positive_at (2 ^ 63) s) else with_sign pos (number_at (2 ^ 63 - 1) (b ∷ s))

abbrev pub with_byte : ℕ → Read (List ℕ) → Read (List ℕ)
with_byte b r = r >>= (λ p. Ok (b ∷ p.0, p.1))

-- the bytes before the closing quote, of which there is room for so many
abbrev pub quoted_at : ℕ → List ℕ → Read (List ℕ)
quoted_at room [] = Err 0
quoted_at room (b ∷ s) =
    if b == 34 then Ok ([], s) else (if nat_lt 0 room && is_text_byte b then with_byte b (quoted_at (room - 1) s) else Err (suc (length s)))

-- a value that begins with a quote, a sign or a digit
abbrev pub plain_at : List ℕ → Read Datum
plain_at [] = Err 0
plain_at (b ∷ s) =
    if b == 34 then (quoted_at 64 s >>= (λ p. Ok (Text p.0, p.1))) else (int_at (b ∷ s) >>= (λ p. Ok (Int p.0, p.1)))

-- whether a value that is no flag begins so
abbrev pub begins_plain : List ℕ → Bool
begins_plain [] = false
begins_plain (b ∷ s) = b == 34 || (b == 45 || is_digit b)

-- both flags
abbrev pub flags : List Bool
flags = true ∷ false ∷ []

-- a value
unfoldable pub datum_at : List ℕ → Read Datum
datum_at s = if begins_plain s then plain_at s else (word_at flag_text flags s >>= (λ p. Ok (Flag p.0, p.1)))

abbrev pub before_bytes : ℕ → List ℕ × List ℕ → List ℕ × List ℕ
before_bytes b r = (b ∷ r.0, r.1)

-- the bytes in front that may stand in a key, of which there is room for so many, and what is behind them
abbrev pub key_bytes_at : ℕ → List ℕ → List ℕ × List ℕ
key_bytes_at room [] = ([], [])
key_bytes_at room (b ∷ s) = if nat_lt 0 room && is_key_byte b then before_bytes b (key_bytes_at (room - 1) s) else ([], b ∷ s)

-- a key: the longest front that is one
abbrev pub key_at : List ℕ → Read (List ℕ)
key_at s = if is_key (key_bytes_at 64 s).0 then Ok (key_bytes_at 64 s) else Err (length s)
