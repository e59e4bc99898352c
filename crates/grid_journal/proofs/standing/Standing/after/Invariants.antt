use Rattle.std.proofs.Common.{◌≡◌, take, reverse}
use Rattle.grid_journal.specs.Standing.{standing_of}
use Rattle.grid_journal.proofs.standing.Standing.after.Given as goal

-- what stands after the events so far
abbrev pub invariant-loop-place : goal.invariant-loop-place
invariant-loop-place l = l.standing ≡ standing_of l.config (reverse (take l.place l.journal.history.events))
