use Rattle.std.proofs.Common.{ap, ◌∙◌}
use Rattle.std.specs.FinSet as set
use Rattle.pipeline_feed.proofs.SetLaws.{tree_remove}
use Rattle.pipeline_feed.proofs.element_set.ElementSet.remove.Goals as goal

pub returns : goal.returns
returns c =
    tree_remove c.self.inside.tree c.remove.new.self c.args.item.now c.remove.ensures.updates.0
    ∙ ap (λ s. set.remove s c.args.item.now) c.self.view_is
