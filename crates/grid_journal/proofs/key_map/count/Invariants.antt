use Rattle.std.proofs.Common.{◌≡◌, ◌+◌, length}
use Rattle.std.specs.List.{filter}
use Rattle.grid_journal.specs.Lasting.{lasts}
use Rattle.grid_journal.proofs.key_map.count.Given as goal

-- the keys that are gone so far are left out
abbrev pub invariant-loop-key : goal.invariant-loop-key
invariant-loop-key l =
    l.count + length (filter (λ e. lasts l.reached e.1.until) l.left) ≡ length (filter (λ e. lasts l.reached e.1.until) l.tree.entries) + length l.left

abbrev pub decreases-loop-key : goal.decreases-loop-key
decreases-loop-key l = length l.left
