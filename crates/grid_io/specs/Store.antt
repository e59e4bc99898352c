-- What contracts see of a sink in memory.
use Rattle.std.specs.Prelude.{ℕ, ◌≡◌, ◌-◌, ◌⊎◌, List, [], ◌++◌, length, min}
use Rattle.grid_io.specs.Failures.{Counts, no_calls, FailsNext, after_pass, after_fault}

-- the bytes that were written, for how many more there is room, the most that one call takes, and
-- which calls fail
pub record Store : Type 0 where
  pub written : List ℕ
  pub room : ℕ
  pub most : ℕ
  pub counts : Counts

-- before the first call: the room, the most that one call takes, and the calls that are to fail
abbrev pub store_of : ℕ → ℕ → List ℕ → Store
store_of room most fails =
    record { written = []; room = room; most = most; counts = no_calls fails }

-- the next call fails: its number is listed, or no room is left
abbrev pub RefusesNext : Store → Type 0
RefusesNext store = FailsNext store.counts ⊎ (store.room ≡ 0)

-- how many bytes one call takes of a piece of this length
abbrev pub store_count : ℕ → Store → ℕ
store_count len store = min (min store.most len) store.room

-- after a call that took these bytes
abbrev pub after_write : List ℕ → Store → Store
after_write bytes store =
    record {
      written = store.written ++ bytes;
      room = store.room - length bytes;
      most = store.most;
      counts = after_pass store.counts;
    }

-- after a call that failed
abbrev pub after_write_fault : Store → Store
after_write_fault store = record store { counts = after_fault store.counts }
