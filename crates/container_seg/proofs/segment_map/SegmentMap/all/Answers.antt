use Rattle.std.proofs.Common.{◌∙◌}
use Rattle.container_seg.proofs.Trees.{range_all}
use Rattle.container_seg.proofs.segment_map.SegmentMap.all.Goals as goal

pub returns : goal.returns
returns c = c.range.ensures.between tt ∙ range_all c.self.inside.tree.entries c.args.self.now c.self.view_is c.range.ensures.ordered
