use Rattle.std.proofs.Common.{◌≡◌, length}
use Rattle.container_seg.proofs.StoredLaws.{with_all}
use Rattle.container_seg.proofs.segment_map.SegmentMap.copy.Given as goal

-- the entries that are left, put into the copy, make it whole
abbrev pub invariant-loop-key : goal.invariant-loop-key
invariant-loop-key l = with_all l.range l.copied ≡ l.fn.self

abbrev pub decreases-loop-key : goal.decreases-loop-key
decreases-loop-key l = length l.range
