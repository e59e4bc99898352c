use Rattle.std.proofs.Common.{◌≡◌, ◌+◌, ◌++◌, take, vec_len}
use Rattle.std.specs.Vec.{vec_capacity}
use Rattle.grid_base.proofs.sequence.Sequence.extend_reserved.Given as goal

abbrev pub invariant-loop-item : goal.invariant-loop-item
invariant-loop-item g l =
    record {
      list : l.self-inside.items.items ≡ l.initial.self-inside.items.items ++ take l.item-index l.items;
      len : vec_len l.self-inside.items ≡ vec_len l.initial.self-inside.items + l.item-index;
      capacity : vec_capacity l.self-inside.items ≡ vec_capacity l.initial.self-inside.items;
    }
