use Rattle.std.proofs.Common.{◌≡◌, true, take}
use Rattle.std.specs.List.{list_all}
use Rattle.pipeline_parse.specs.Grammar.{op_fits, ops_text}
use Rattle.pipeline_parse.proofs.printing.print_pipeline.Given as goal

abbrev pub invariant-loop-op : goal.invariant-loop-op
invariant-loop-op l = record {
  same_list : l.op-items ≡ l.pipeline.ops;
  text : l.out.list ≡ ops_text (take l.op-index l.op-items);
  keeps : list_all op_fits (take l.op-index l.op-items) ≡ true;
}
