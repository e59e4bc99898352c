use Rattle.std.proofs.Common.{◌≡◌}
use Rattle.grid_script.specs.Rules.{first_nodes}
use Rattle.grid_script.proofs.members.first_nodes.Given as goal

-- the nodes so far
abbrev pub invariant-loop-number : goal.invariant-loop-number
invariant-loop-number l = l.made ≡ first_nodes l.number
