use Rattle.std.proofs.Common.{◌≡◌, ℕ, ltb}
use Rattle.std.specs.FinSet as set
use Rattle.grid_journal.proofs.membership.first_nodes.Given as goal

-- the nodes below the number are in
abbrev pub invariant-loop-number : goal.invariant-loop-number
invariant-loop-number l = (q : ℕ) → set.contains l.made q ≡ ltb q l.number
