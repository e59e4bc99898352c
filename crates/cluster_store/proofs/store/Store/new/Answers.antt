-- The start is reached by no event.
use Rattle.cluster_store.proofs.Beginnings.{first_store}
use Rattle.cluster_store.proofs.store.Store.new.Goals as goal

pub invariant_of-result : goal.invariant_of-result
invariant_of-result c = first_store c.args.config.now c.in_ok-coord.coord c.in_ok-copies.copies c.first-hints.result c.first-hints.ensures c.requires c.in_ok-coord.ensures c.in_ok-copies.ensures
