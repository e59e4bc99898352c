use Rattle.std.proofs.Common.{◌∙◌, sym, ap, nat_eq}
use Rattle.std.specs.Cmp.Lexicographic.{pointwise}
use Rattle.pipeline_expr.proofs.Sameness.{same_bytes, bytes_self}
use Rattle.pipeline_expr.proofs.values.is_same_key.Goals as goal

pub returns : goal.returns
returns c = (
  λ t. same_bytes c.args.a.now c.args.b.now (sym c.eq.ensures ∙ t),
  λ e. c.eq.ensures ∙ ap (pointwise nat_eq c.args.a.now) (sym e) ∙ bytes_self c.args.a.now,
)
