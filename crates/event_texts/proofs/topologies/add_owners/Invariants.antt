use Rattle.std.proofs.Common.{◌≡◌, ◌++◌, true, map, take}
use Rattle.std.specs.List.{join_with_byte, list_all, range_with_len}
use Rattle.event_texts.specs.Fits.{is_u8}
use Rattle.event_texts.proofs.Rows.{owner_text}
use Rattle.event_texts.proofs.topologies.add_owners.Given as goal

-- the owners so far stand there, and are numbers of 8 bits
abbrev pub invariant-loop-place : goal.invariant-loop-place
invariant-loop-place l = record {
  text : l.out.list ≡ l.initial.out.list ++ join_with_byte 44 (map (owner_text l.owners) (range_with_len 0 l.place));
  keeps : list_all is_u8 (take l.place l.owners) ≡ true;
}
