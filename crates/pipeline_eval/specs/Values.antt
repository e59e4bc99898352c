-- What operators look at in values. All is total: a value of another kind than an operator needs
-- counts as 0, as the empty text or as false.
use Rattle.std.specs.Prelude.{ℕ, ℤ, pos, Bool, false, List, [], nat_eq}
use Rattle.std.specs.Int.{int_wrap, w64}
use Rattle.std.specs.List.{starts_with}
use Rattle.std.specs.Ordering.{is_lt, int_cmp, nat_cmp, bool_cmp}
use Rattle.std.specs.declared.cmp.Ordering.{Ordering}
use Rattle.std.specs.Cmp.Lexicographic.{slice_cmp}
use Rattle.grid_base.specs.declared.datum.Datum.{Datum}
use Rattle.grid_base.specs.declared.datum.Datum.TheVariants.{Int, Text, Flag}

-- the number that a value is
abbrev pub number_of : Datum → ℤ
number_of (Int n) = n
number_of _ = pos 0

-- the bytes of the text that a value is
abbrev pub bytes_of : Datum → List ℕ
bytes_of (Text t) = t
bytes_of _ = []

-- whether a value is the flag true
abbrev pub is_on : Datum → Bool
is_on (Flag b) = b
is_on _ = false

-- a whole number modulo 2^64, as one between -2^63 and 2^63 - 1
abbrev pub wrapped : ℤ → ℤ
wrapped n = int_wrap w64 n

-- where values stand by their kind: ints, then texts, then flags
abbrev pub rank : Datum → ℕ
rank (Int n) = 0
rank (Text t) = 1
rank (Flag b) = 2

-- the order of values: ints by number, texts by their bytes with a proper prefix first
abbrev pub datum_cmp : Datum → Datum → Ordering
datum_cmp (Int m) (Int n) = int_cmp m n
datum_cmp (Text s) (Text t) = slice_cmp nat_cmp s t
datum_cmp (Flag b) (Flag c) = bool_cmp b c
datum_cmp a b = nat_cmp (rank a) (rank b)

-- whether a value comes before another
abbrev pub is_less : Datum → Datum → Bool
is_less a b = is_lt (datum_cmp a b)

-- whether the second text is a prefix of the first
abbrev pub has_prefix : Datum → Datum → Bool
has_prefix a b = starts_with nat_eq (bytes_of a) (bytes_of b)
