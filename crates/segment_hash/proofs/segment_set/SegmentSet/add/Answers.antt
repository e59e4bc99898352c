use Rattle.segment_hash.proofs.MarkedSets.{members-add}
use Rattle.segment_hash.proofs.segment_set.SegmentSet.add.Goals as goal

pub returns : goal.returns
returns c =
    let added = members-add c.self.inside.words c.self.invariant c.args.segment c.requires in
    cc (added, c.self.view_is)
