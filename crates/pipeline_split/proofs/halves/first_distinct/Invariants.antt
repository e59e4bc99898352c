use Rattle.std.proofs.Common.{◌≡◌, ◌++◌, take, drop}
use Rattle.std.specs.List.{list_any}
use Rattle.pipeline_split.specs.Halves.{before_distinct, from_distinct, is_distinct}
use Rattle.pipeline_split.proofs.halves.first_distinct.Given as goal

abbrev pub invariant-loop-place : goal.invariant-loop-place
invariant-loop-place l =
    (before_distinct l.ops ≡ take l.place l.ops ++ before_distinct (drop l.place l.ops))
    × (from_distinct l.ops ≡ from_distinct (drop l.place l.ops))
    × (list_any is_distinct l.ops ≡ list_any is_distinct (drop l.place l.ops))
