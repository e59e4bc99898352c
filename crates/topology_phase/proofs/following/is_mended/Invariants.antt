use Rattle.std.proofs.Common.{◌≡◌, ℕ, ◌<◌}
use Rattle.topology_phase.specs.Owners.{owners_at}
use Rattle.topology_phase.specs.Following.{mended}
use Rattle.topology_phase.proofs.following.is_mended.Given as goal

-- the segments so far are mended
abbrev pub invariant-loop-segment : goal.invariant-loop-segment
invariant-loop-segment l = (k : ℕ) → k < l.segment → owners_at l.rows k ≡ mended l.live k (owners_at l.mine k) (owners_at l.other k)
