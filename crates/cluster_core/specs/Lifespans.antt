-- Lifespans.
use Rattle.std.specs.Prelude.{ℕ, Bool, false, nat_lt, Option, None, Some}
use Rattle.grid_base.specs.declared.limits.TheConstants.{LONGEST_LIFESPAN}

-- it is a lifespan longer than the longest
abbrev pub is_longer : Option ℕ → Bool
is_longer None = false
is_longer (Some ticks) = nat_lt LONGEST_LIFESPAN ticks
