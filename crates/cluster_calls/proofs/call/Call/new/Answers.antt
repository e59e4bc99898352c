use Rattle.std.proofs.Common.{arith}
use Rattle.cluster_calls.proofs.CallLaws.{none_seen}
use Rattle.cluster_calls.proofs.FeedLaws.{none_followed}
use Rattle.cluster_calls.proofs.call.Call.new.Goals as goal

pub invariant_of-result : goal.invariant_of-result
invariant_of-result c = record {
  keys = none_seen _ _ _ (omega arith) c.new-3.ensures c.in_ok-seen.ensures;
  items = none_followed _ _ _ c.new-3.ensures c.in_ok-feed.ensures;
}
