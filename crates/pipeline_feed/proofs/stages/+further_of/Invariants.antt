use Rattle.std.proofs.Common.{length}
use Rattle.pipeline_feed.proofs.stages.+further_of.Given as goal

abbrev pub decreases-further_of : goal.decreases-further_of
decreases-further_of l = length l.ops.now
