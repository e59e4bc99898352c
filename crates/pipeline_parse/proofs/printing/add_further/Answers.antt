use Rattle.std.proofs.Common.{◌∙◌}
use Rattle.pipeline_parse.specs.Grammar.{expr_fits}
use Rattle.pipeline_parse.proofs.TextSteps.{further_step, further_end, all_more, all_all}
use Rattle.pipeline_parse.proofs.printing.add_further.Goals as goal

pub loop-expr-preserved : goal.loop-expr-preserved
loop-expr-preserved c = record {
  text = further_step c.loop-expr.out.list c.extend.new.self.list c.add_expr.new.out.list c.args.list.now c.loop-expr.expr-index c.expr-item.result c.loop-expr-test.true c.expr-item.is c.in_ok-extend.ensures.ok c.in_ok-add_expr.ensures.text
      ∙ c.loop-expr.invariant.text;
  keeps = all_more expr_fits c.args.list.now c.loop-expr.expr-index c.expr-item.result c.loop-expr-test.true c.expr-item.is c.loop-expr.invariant.keeps c.in_ok-add_expr.ensures.keeps;
}

pub returns-clause-text : goal.returns-clause-text
returns-clause-text c = c.in_ok-push.ensures.ok ∙ further_end c.loop-expr.out.list c.args.list.now c.loop-expr.expr-index c.loop-expr-test.false ∙ c.loop-expr.invariant.text

pub returns-clause-keeps : goal.returns-clause-keeps
returns-clause-keeps c = all_all expr_fits c.args.list.now c.loop-expr.expr-index c.loop-expr-test.false c.loop-expr.invariant.keeps
