use Rattle.std.proofs.Common.{◌≡◌}
use Rattle.std.specs.List.{filter, range_with_len}
use Rattle.grid_journal.specs.Standing.{stands_live}
use Rattle.grid_journal.proofs.membership.Membership.live.Given as goal

-- the live nodes so far
abbrev pub invariant-loop-node : goal.invariant-loop-node
invariant-loop-node l = l.nodes.list ≡ filter (stands_live l.self) (range_with_len 0 l.node)
