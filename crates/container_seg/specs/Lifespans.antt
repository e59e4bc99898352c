-- When an entry has expired.
use Rattle.std.specs.Prelude.{ℕ, Bool, true, false, cond, nat_lt, List, Option, Some, None}
use Rattle.std.specs.List.{filter}
use Rattle.grid_base.specs.declared.stamped.Stamped.{Stamped}

-- whether a deadline is none, or above the clock
abbrev pub outlasts : ℕ → Option ℕ → Bool
outlasts clock None = true
outlasts clock (Some until) = nat_lt clock until

-- whether there is a value that hasn't expired
abbrev pub is_fresh : ℕ → Option Stamped → Bool
is_fresh clock None = false
is_fresh clock (Some stamped) = outlasts clock stamped.until

-- what is left of a value when the clock stands here
abbrev pub left : ℕ → Option Stamped → Option Stamped
left clock stamped = cond (is_fresh clock stamped) stamped None

-- those of some entries that haven't expired
abbrev pub fresh : ℕ → List (List ℕ × Stamped) → List (List ℕ × Stamped)
fresh clock entries = filter (λ e. outlasts clock e.1.until) entries
