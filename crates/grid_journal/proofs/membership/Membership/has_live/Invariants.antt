use Rattle.std.proofs.Common.{◌≡◌, drop}
use Rattle.std.specs.List.{list_any}
use Rattle.grid_journal.specs.Standing.{stands_live}
use Rattle.grid_journal.proofs.membership.Membership.has_live.Given as goal

-- no owner so far is one
abbrev pub invariant-loop-place : goal.invariant-loop-place
invariant-loop-place l = list_any (stands_live l.self) (drop l.place l.owners) ≡ list_any (stands_live l.self) l.owners
