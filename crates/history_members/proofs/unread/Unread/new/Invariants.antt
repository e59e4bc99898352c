use Rattle.std.proofs.Common.{◌≡◌, ℕ, length}
use Rattle.history_members.specs.Cells.{place_in}
use Rattle.history_members.proofs.unread.Unread.new.Given as goal

-- the rows so far have no place
abbrev pub invariant-loop : goal.invariant-loop
invariant-loop l = (length l.rows.items ≡ l.counter) × ((node segment : ℕ) → place_in l.rows.items node segment ≡ 0)
