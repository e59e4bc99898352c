use Rattle.std.proofs.Common.{◌≡◌, ℕ, ◌==◌, ◌&&◌, not, nat_lt, get_or}
use Rattle.std.specs.FinSet as set_of
use Rattle.topology_coord.proofs.installed.Installed.nodes.Given as goal

-- the live ones among the nodes so far
abbrev pub invariant-loop-number : goal.invariant-loop-number
invariant-loop-number l = (q : ℕ) → set_of.contains l.nodes q ≡ (nat_lt q l.number && not (get_or l.self-inside.ids q 0 == 0))
