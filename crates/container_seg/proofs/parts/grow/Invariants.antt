use Rattle.std.proofs.Common.{◌≡◌, ℕ, ◌+◌, ◌-◌, vec_len}
use Rattle.container_seg.specs.Stored.{part_at}
use Rattle.container_seg.proofs.parts.grow.Given as goal

-- each segment has the entries that it had
abbrev pub invariant-loop-alloc : goal.invariant-loop-alloc
invariant-loop-alloc l = (t : ℕ) → part_at l.segments.items t ≡ part_at l.fn.segments.items t

abbrev pub decreases-loop-alloc : goal.decreases-loop-alloc
decreases-loop-alloc l = (l.at + 1) - vec_len l.segments
