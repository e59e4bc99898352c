-- What contracts see of a source in memory that fails at listed calls.
use Rattle.std.specs.Prelude.{ℕ, List}
use Rattle.grid_io.specs.Failures.{Counts, no_calls, after_pass, after_fault}
use Rattle.grid_io.specs.Feed.{Feed, after_move}

-- what it gives, and which of its calls fail
pub record Supply : Type 0 where
  pub feed : Feed
  pub counts : Counts

-- before the first call: the bytes, the most that one call moves, and the calls that are to fail
abbrev pub supply_of : List ℕ → ℕ → List ℕ → Supply
supply_of bytes most fails =
    record { feed = record { left = bytes; most = most }; counts = no_calls fails }

-- after a call that moved so many bytes
abbrev pub after_read : ℕ → Supply → Supply
after_read count supply =
    record { feed = after_move count supply.feed; counts = after_pass supply.counts }

-- after a call that failed
abbrev pub after_read_fault : Supply → Supply
after_read_fault supply = record supply { counts = after_fault supply.counts }
