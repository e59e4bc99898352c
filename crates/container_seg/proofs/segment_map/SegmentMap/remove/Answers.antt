use Rattle.std.proofs.Common.{ap, sym, ◌∙◌}
use Rattle.std.specs.FinMap as map
use Rattle.container_seg.proofs.Trees.{get_tree, tree_remove}
use Rattle.container_seg.proofs.segment_map.SegmentMap.remove.Goals as goal

pub returns-clause-before : goal.returns-clause-before
returns-clause-before c = c.remove.ensures.value ∙ sym (get_tree c.self.inside.tree.entries c.args.key.now) ∙ ap (λ m. map.get m c.args.key.now) c.self.view_is

pub returns-clause-rest : goal.returns-clause-rest
returns-clause-rest c =
    tree_remove c.self.inside.tree.entries c.remove.new.self.entries c.args.key.now c.remove.ensures.updates.0
    ∙ ap (λ m. map.remove m c.args.key.now) c.self.view_is
