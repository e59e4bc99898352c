use Rattle.std.proofs.Common.{◌≡◌, ◌+◌, ◌++◌, map, take, vec_len}
use Rattle.std.specs.Vec.{vec_capacity}
use Rattle.history_units.specs.Rows.{asked_unit}
use Rattle.history_units.proofs.units.Units.ask.Given as goal

-- the units of the asks so far stand behind the others, and places are left for the rest
abbrev pub invariant-loop-ask : goal.invariant-loop-ask
invariant-loop-ask l =
    record {
      list : l.self-inside.rows.items ≡ l.initial.self-inside.rows.items ++ map (asked_unit l.round l.place) (take l.ask-index l.ask-items);
      len : vec_len l.self-inside.rows ≡ vec_len l.initial.self-inside.rows + l.ask-index;
      capacity : vec_capacity l.self-inside.rows ≡ vec_capacity l.initial.self-inside.rows;
    }
