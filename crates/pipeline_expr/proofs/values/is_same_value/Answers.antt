use Rattle.std.proofs.Common.{◌∙◌, sym, ap}
use Rattle.pipeline_expr.specs.Same.{same_datum}
use Rattle.pipeline_expr.proofs.Sameness.{same_datums, datum_self}
use Rattle.pipeline_expr.proofs.values.is_same_value.Goals as goal

pub returns : goal.returns
returns c = (
  λ t. same_datums c.args.a.now c.args.b.now (sym c.same_value.ensures ∙ t),
  λ e. c.same_value.ensures ∙ ap (same_datum c.args.a.now) (sym e) ∙ datum_self c.args.a.now,
)
