use Rattle.std.proofs.Common.{◌≡◌, ℕ, List}
use Rattle.std.specs.FinMap as map
use Rattle.container_seg.specs.Lifespans.{left}
use Rattle.container_seg.proofs.segment_map.SegmentMap.purge.Given as goal

-- what hasn't expired is as it was
abbrev pub invariant-loop : goal.invariant-loop
invariant-loop l = (q : List ℕ) → left l.clock (map.get l.self q) ≡ left l.clock (map.get l.fn.self q)
