use Rattle.std.proofs.Common.{◌≡◌, drop}
use Rattle.std.specs.FinSet as set
use Rattle.std.specs.List.{list_any}
use Rattle.history_members.proofs.questions.names_one.Given as goal

-- no owner so far is in
abbrev pub invariant-loop-place : goal.invariant-loop-place
invariant-loop-place l = list_any (set.contains l.nodes) (drop l.place l.owners) ≡ list_any (set.contains l.nodes) l.owners
