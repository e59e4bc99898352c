use Rattle.std.proofs.Common.{◌≡◌, ◌++◌, take, reverse}
use Rattle.grid_journal.specs.Rebalances.{least_lines}
use Rattle.grid_journal.specs.Standing.{membership_of}
use Rattle.grid_journal.proofs.rebalances.add_least_lines.Given as goal

-- the members and the lines after the events so far
abbrev pub invariant-loop-place : goal.invariant-loop-place
invariant-loop-place l = record {
  members : l.membership ≡ membership_of l.config (reverse (take l.place l.journal.history.events));
  lines : l.out.list ≡ l.fn.out.list ++ least_lines l.config (reverse (take l.place l.journal.history.events));
}
