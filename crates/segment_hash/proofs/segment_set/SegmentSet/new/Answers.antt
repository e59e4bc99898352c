use Rattle.segment_hash.proofs.MarkedSets.{members-empty}
use Rattle.segment_hash.proofs.segment_set.SegmentSet.new.Goals as goal

pub returns : goal.returns
returns c = members-empty
