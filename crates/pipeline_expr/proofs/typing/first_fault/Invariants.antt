use Rattle.std.proofs.Common.{◌≡◌, ◌≤◌, take, drop}
use Rattle.std.specs.List.{list_any}
use Rattle.pipeline_expr.specs.Typing.{checked, checked_from, is_flatmap}
use Rattle.pipeline_expr.proofs.typing.first_fault.Given as goal

abbrev pub invariant-loop-place : goal.invariant-loop-place
invariant-loop-place l = record {
  few : l.place ≤ 8;
  same_list : l.op-items ≡ l.pipeline.ops;
  flatmap : l.has_flatmap ≡ list_any is_flatmap (take l.place l.pipeline.ops);
  rest : checked_from l.values l.pipeline.end (take l.place l.pipeline.ops) l.elements (drop l.place l.pipeline.ops) ≡ checked l.pipeline l.values;
}
