use Rattle.std.proofs.Common.{◌∙◌, ap, sym, arith}
use Rattle.grid_base.specs.Padded.{number}
use Rattle.grid_base.proofs.Order.{summed, eight_bytes}
use Rattle.grid_base.proofs.inline_text.word.Goals as goal

pub returns : goal.returns
returns c =
    c.from_be_bytes.ensures
    ∙ summed _ _ _ _ _ _ _ _
    ∙ ap number (sym (eight_bytes c.args.at c.args.bytes.now (omega arith)))
