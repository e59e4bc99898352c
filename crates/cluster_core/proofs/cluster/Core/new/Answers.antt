-- The start is reached by no event.
use Rattle.cluster_laws.proofs.causes.CauseRuns.{few_segments}
use Rattle.cluster_core.proofs.StoreRows.{first_core, first_seen}
use Rattle.cluster_core.proofs.cluster.Core.new.Goals as goal

pub new-calls-requires : goal.new-calls-requires
new-calls-requires c = few_segments c.args.config.now c.requires

pub invariant_of-result : goal.invariant_of-result
invariant_of-result c = first_core c.args.config.now c.in_ok-store.store c.new-calls.result c.requires c.in_ok-store.ensures c.new-calls.ensures

pub returns : goal.returns
returns c = first_seen c.args.config.now c.in_ok-store.store c.new-calls.result c.in_ok-store.ensures c.new-calls.ensures
