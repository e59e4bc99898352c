use Rattle.std.proofs.Common.{◌≡◌}
use Rattle.pipeline_feed.proofs.feed.listed.Given as goal

abbrev pub invariant-loop-item : goal.invariant-loop-item
invariant-loop-item l = l.list.list ≡ l.yielded
