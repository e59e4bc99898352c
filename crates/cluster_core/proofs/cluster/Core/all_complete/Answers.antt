-- The calls have the segments of the state.
use Rattle.std.proofs.Common.{◌∙◌}
use Rattle.cluster_core.proofs.SegmentRows.{all_seen}
use Rattle.cluster_core.proofs.cluster.Core.all_complete.Goals as goal

pub returns : goal.returns
returns c = c.all_complete.ensures ∙ all_seen c.self.inside c.args.self.now c.self.invariant c.self.view_is c.args.number
