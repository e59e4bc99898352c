use Rattle.std.proofs.Common.{◌∙◌}
use Rattle.std.specs.FinSet as set
use Rattle.pipeline_feed.proofs.SetLaws.{tree_insert}
use Rattle.pipeline_feed.proofs.element_set.ElementSet.add.Goals as goal

pub returns-clause-ok : goal.returns-clause-ok
returns-clause-ok c =
    tree_insert c.self.inside.tree c.insert.new.self c.in_ok-copy.copy c.in_ok-insert.ensures.updates.0
    ∙ (λ i. set.insert (c.self.view_is i) (c.in_ok-copy.ensures i))
