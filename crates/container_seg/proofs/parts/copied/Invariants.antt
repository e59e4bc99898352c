use Rattle.std.proofs.Common.{◌≡◌, take}
use Rattle.container_seg.proofs.parts.copied.Given as goal

-- the segments so far
abbrev pub invariant-loop-segment : goal.invariant-loop-segment
invariant-loop-segment l = l.copied.items ≡ take l.segment-index l.segments
