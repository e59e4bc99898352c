-- Each node is new, and no transfer is there.
use Rattle.cluster_store.proofs.Beginnings.{next_absent, next_provides, next_there}
use Rattle.cluster_store.proofs.store.first_copies.Goals as goal

pub loop-number-init : goal.loop-number-init
loop-number-init c = c.in_ok-copies.ensures.empty

pub join-requires-clause-absent : goal.join-requires-clause-absent
join-requires-clause-absent c = next_absent c.loop-number.number c.new-in-loop-number.result c.loop-number.copies c.loop-number.invariant c.new-in-loop-number.ensures

pub join-requires-clause-provides_none : goal.join-requires-clause-provides_none
join-requires-clause-provides_none c = next_provides c.loop-number.number c.new-in-loop-number.result c.loop-number.copies c.loop-number.invariant

pub loop-number-preserved : goal.loop-number-preserved
loop-number-preserved c =
    next_there c.loop-number.number c.new-in-loop-number.result c.loop-number.copies c.join.new.self c.loop-number.invariant c.new-in-loop-number.ensures c.in_ok-join.ensures.ok
