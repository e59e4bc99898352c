use Rattle.container_seg.proofs.Gathering.{left_removed}
use Rattle.container_seg.proofs.segment_map.SegmentMap.free.Goals as goal

pub returns : goal.returns
returns c = left_removed c.args.clock c.args.self.now c.remove.new.self c.args.key.now c.remove.ensures.rest (c.has_expired.ensures c.if-not-has_expired.false)
