use Rattle.std.proofs.Common.{ap, ◌∙◌, ◌+◌, ◌++◌, ◌∷◌, []}
use Rattle.grid_script.proofs.Numbering.{add_line}
use Rattle.grid_script.proofs.generator.add.Goals as goal

pub returns : goal.returns
returns c = λ before e.
    c.in_ok-push.ensures.ok
    ∙ (ap (λ m. c.args.lines.now ++ record { line = m + 8; order = c.args.order } ∷ []) c.len-place.ensures
    ∙ add_line c.args.lines.now before c.args.order e)
