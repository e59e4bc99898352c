use Rattle.std.proofs.Common.{◌≡◌}
use Rattle.topology_coord.specs.Coordination.{first_installed}
use Rattle.topology_coord.proofs.installed.Installed.first.Given as goal

-- the nodes so far
abbrev pub invariant-loop-number : goal.invariant-loop-number
invariant-loop-number l = l.installed ≡ first_installed l.number
