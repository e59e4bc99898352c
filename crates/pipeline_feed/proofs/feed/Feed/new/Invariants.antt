use Rattle.std.proofs.Common.{◌≡◌, [], ◌++◌, drop}
use Rattle.pipeline_feed.specs.Fed.{arrivals}
use Rattle.pipeline_feed.proofs.feed.Feed.new.Given as goal

abbrev pub invariant-loop-op : goal.invariant-loop-op
invariant-loop-op l = l.sets.items ++ arrivals (drop l.op-index l.op-items) [] ≡ arrivals l.pipeline.ops []
