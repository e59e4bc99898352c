use Rattle.std.proofs.Common.{◌∙◌, sym, ap}
use Rattle.pipeline_expr.specs.Same.{same_expr}
use Rattle.pipeline_expr.proofs.Sameness.{same_is_one, same_self}
use Rattle.pipeline_expr.proofs.expr.Expr.same.Goals as goal

pub returns : goal.returns
returns c = (
  λ t. same_is_one c.args.self.now c.args.other.now (sym c.equals.ensures ∙ t),
  λ e. c.equals.ensures ∙ ap (same_expr c.args.self.now) (sym e) ∙ same_self c.args.self.now,
)
