use Rattle.std.proofs.Common.{◌∙◌}
use Rattle.container_seg.proofs.Trees.{range_above}
use Rattle.container_seg.proofs.segment_map.SegmentMap.above.Goals as goal

pub returns : goal.returns
returns c = c.range.ensures.between tt ∙ range_above c.self.inside.tree.entries c.args.self.now c.self.view_is c.range.ensures.ordered c.args.key.now
