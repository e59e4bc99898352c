use Rattle.std.proofs.Common.{ap, sym, ◌∙◌}
use Rattle.std.specs.FinMap as map
use Rattle.container_seg.proofs.Trees.{get_tree}
use Rattle.container_seg.proofs.segment_map.SegmentMap.get.Goals as goal

pub returns : goal.returns
returns c = c.get.ensures.value ∙ sym (get_tree c.self.inside.tree.entries c.args.key.now) ∙ ap (λ m. map.get m c.args.key.now) c.self.view_is
