use Rattle.std.proofs.Common.{◌≡◌, drop}
use Rattle.pipeline_eval.specs.Pipes.{ops_items}
use Rattle.pipeline_eval.proofs.operations.apply_all.Given as goal

abbrev pub invariant-loop-op : goal.invariant-loop-op
invariant-loop-op l = ops_items (drop l.op-index l.ops) l.made.items ≡ ops_items l.ops l.fn.items.items
