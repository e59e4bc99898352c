use Rattle.std.proofs.Common.{◌≡◌, ◌≤◌, ◌++◌, map, reverse, length}
use Rattle.container_seg.specs.Lifespans.{fresh}
use Rattle.container_seg.specs.Scans.{stamped_entry}
use Rattle.container_seg.proofs.segment_map.gather_down.Given as goal

-- what was gathered, and then what is left of the range, are the entries that haven't expired
abbrev pub invariant-loop-key : goal.invariant-loop-key
invariant-loop-key l = record {
  few : length l.entries.list ≤ l.most;
  so_far : map stamped_entry (reverse (fresh l.clock l.initial.range)) ≡ l.entries.list ++ map stamped_entry (reverse (fresh l.clock l.range));
}

abbrev pub decreases-loop-key : goal.decreases-loop-key
decreases-loop-key l = length l.range
