use Rattle.std.proofs.Common.{◌≡◌, ◌++◌, true, map, take}
use Rattle.std.specs.List.{join_with_byte, list_all, range_with_len}
use Rattle.event_texts.specs.Fits.{are_owners}
use Rattle.event_texts.proofs.Rows.{row_text}
use Rattle.event_texts.proofs.topologies.add_hash.Given as goal

-- the owners of the segments so far stand there, and no two of a segment's are alike
abbrev pub invariant-loop-segment : goal.invariant-loop-segment
invariant-loop-segment l = record {
  text : l.out.list ≡ l.initial.out.list ++ join_with_byte 59 (map (row_text l.hash) (range_with_len 0 l.segment));
  keeps : list_all are_owners (take l.segment l.hash) ≡ true;
}
