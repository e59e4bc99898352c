-- Which calls of a source or a sink in memory fail, and what was counted.
use Rattle.std.specs.Prelude.{ℕ, List, Contains}
use Rattle.grid_io.specs.Count.{next_count}

-- the numbers of the calls that are to fail, how many calls were made, and how many failed
pub record Counts : Type 0 where
  pub fails : List ℕ
  pub calls : ℕ
  pub faults : ℕ

-- before the first call
abbrev pub no_calls : List ℕ → Counts
no_calls fails = record { fails = fails; calls = 0; faults = 0 }

-- the next call is to fail: its number is listed
abbrev pub FailsNext : Counts → Type 0
FailsNext counts = Contains counts.fails (next_count counts.calls)

-- after one more fault in the same call
abbrev pub with_fault : Counts → Counts
with_fault counts = record counts { faults = next_count counts.faults }

-- after one more call that didn't fail
abbrev pub after_pass : Counts → Counts
after_pass counts = record counts { calls = next_count counts.calls }

-- after one more call that failed
abbrev pub after_fault : Counts → Counts
after_fault counts = with_fault (after_pass counts)
