use Rattle.std.proofs.Common.{sym, subst}
use Rattle.pipeline_expr.specs.Typing.{Tells}
use Rattle.pipeline_expr.proofs.Checking.{checked_tells}
use Rattle.pipeline_expr.proofs.typing.check.Goals as goal

pub returns-clause-first : goal.returns-clause-first
returns-clause-first c = subst (Tells c.args.pipeline.now c.args.values) (sym c.first_fault.ensures) (checked_tells c.args.pipeline.now c.args.values)
