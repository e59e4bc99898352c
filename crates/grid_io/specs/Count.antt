-- Counts of faults and of calls. They are unsigned 64 bit numbers that never fall.
use Rattle.std.specs.Prelude.{ℕ, ◌+◌, ◌<◌, ◌≤◌, ◌⊎◌, min}

-- the greatest count
abbrev pub greatest_count : ℕ
greatest_count = 18446744073709551615

-- one more, or the greatest count where the count stands there already
abbrev pub next_count : ℕ → ℕ
next_count count = min (count + 1) greatest_count

-- the count rose; one that stands at the greatest count counts as risen
abbrev pub Rose : ℕ → ℕ → Type 0
Rose before after = (before < after) ⊎ (greatest_count ≤ after)
