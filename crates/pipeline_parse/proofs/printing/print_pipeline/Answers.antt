use Rattle.std.proofs.Common.{◌∙◌, ap, sym}
use Rattle.std.specs.List.{list_all}
use Rattle.pipeline_parse.specs.Grammar.{op_fits}
use Rattle.pipeline_parse.proofs.Exactness.{one_pipeline}
use Rattle.pipeline_parse.proofs.TextSteps.{ops_step, all_more, all_all}
use Rattle.pipeline_parse.proofs.printing.print_pipeline.Goals as goal

pub loop-op-preserved : goal.loop-op-preserved
loop-op-preserved c = record {
  same_list = c.loop-op.invariant.same_list;
  text = ops_step c.loop-op.out.list c.add_op.new.out.list c.extend.new.self.list c.as_slice-op-items.result.now c.loop-op.op-index c.op-item.result c.loop-op-test.true c.op-item.is c.loop-op.invariant.text c.in_ok-add_op.ensures.text c.in_ok-extend.ensures.ok;
  keeps = all_more op_fits c.as_slice-op-items.result.now c.loop-op.op-index c.op-item.result c.loop-op-test.true c.op-item.is c.loop-op.invariant.keeps c.in_ok-add_op.ensures.keeps;
}

pub returns-clause-alone : goal.returns-clause-alone
returns-clause-alone c =
    let keeps = all_all op_fits c.as_slice-op-items.result.now c.loop-op.op-index c.loop-op-test.false c.loop-op.invariant.keeps in
    λ other fit same. one_pipeline c.args.pipeline.now other (ap (list_all op_fits) (sym c.loop-op.invariant.same_list) ∙ keeps) fit same
