use Rattle.std.proofs.Common.{ap, sym, ◌∙◌}
use Rattle.std.specs.FinSet as set
use Rattle.pipeline_feed.proofs.SetLaws.{tree_has}
use Rattle.pipeline_feed.proofs.element_set.ElementSet.has.Goals as goal

pub returns : goal.returns
returns c = c.contains.ensures ∙ sym (tree_has c.self.inside.tree c.args.item.now) ∙ ap (λ s. set.contains s c.args.item.now) c.self.view_is
