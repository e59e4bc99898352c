use Rattle.std.proofs.Common.{◌≡◌, ◌≤◌, take, length}
use Rattle.std.specs.FinSet as sets
use Rattle.std.specs.List.{filter, range_with_len}
use Rattle.topology_phase.proofs.members.Members.new.Given as goal

-- the nodes of the set among the numbers so far
abbrev pub invariant-loop-number : goal.invariant-loop-number
invariant-loop-number l = record {
  few : l.len ≤ l.number;
  whole : length l.nodes ≡ 16;
  so_far : take l.len l.nodes ≡ filter (sets.contains l.set) (range_with_len 0 l.number);
}
