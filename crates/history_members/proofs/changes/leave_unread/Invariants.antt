use Rattle.std.proofs.Common.{◌≡◌, ℕ, ◌==◌, ◌&&◌, nat_lt, not, if◌then◌else◌, length}
use Rattle.topology_phase.specs.Owners.{among}
use Rattle.topology_phase.specs.Topologies.{read_owners}
use Rattle.history_members.specs.Cells.{place_in}
use Rattle.history_members.proofs.changes.leave_unread.Given as goal

-- the place is that of the node and of each segment so far that it doesn't read
abbrev pub invariant-loop-number : goal.invariant-loop-number
invariant-loop-number l = (length l.unread ≡ length l.initial.unread)
    × ((other segment : ℕ) → place_in l.unread other segment
    ≡ (if nat_lt segment l.number && ((l.node == other) && not (among l.node (read_owners l.topology segment))) then l.place else place_in l.initial.unread other segment))
