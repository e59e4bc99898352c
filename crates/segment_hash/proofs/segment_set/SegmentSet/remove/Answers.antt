use Rattle.segment_hash.proofs.MarkedSets.{members-remove}
use Rattle.segment_hash.proofs.segment_set.SegmentSet.remove.Goals as goal

pub returns : goal.returns
returns c =
    let removed = members-remove c.self.inside.words c.self.invariant c.args.segment c.requires in
    cc (removed, c.self.view_is)
