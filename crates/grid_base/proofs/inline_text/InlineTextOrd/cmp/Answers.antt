use Rattle.std.proofs.Common.{◌∙◌}
use Rattle.grid_base.proofs.InlineOrder.{cmp-inline}
use Rattle.grid_base.proofs.inline_text.InlineTextOrd.cmp.Goals as goal

pub returns : goal.returns
returns c =
    rw (← c.self.view_is, ← c.other.view_is)
    (c.cmp_words.ensures ∙ cmp-inline c.self.inside c.other.inside c.self.invariant c.other.invariant)
