-- A set of numbers below 256, held as four words of 64 bits.
use Rattle.std.specs.Prelude.{ℕ, zero, suc, ◌/◌, ◌%◌, Bool, cond, eqb, List, get_or}
use Rattle.std.specs.Int.{bit_at}
use Rattle.std.specs.Ordering.{nat_cmp}
use Rattle.std.specs.FinSet as set

-- whether the bit of number k is set: bit k % 64 of word k / 64
abbrev pub is_marked : List ℕ → ℕ → Bool
is_marked words k = eqb (bit_at (get_or words (k / 64) 0) (k % 64)) 1

-- the numbers below n whose bit is set
unfoldable pub members_below : List ℕ → ℕ → set.FinSet nat_cmp
members_below words zero = set.empty
members_below words (suc n) = cond (is_marked words n) (set.insert (members_below words n) n) (members_below words n)

-- the numbers whose bit is set
abbrev pub members : List ℕ → set.FinSet nat_cmp
members words = members_below words 256
