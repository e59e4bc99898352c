-- The clock has gone on.
use Rattle.cluster_core.proofs.StoreRows.{tick_may, tick_row}
use Rattle.cluster_core.proofs.cluster.Core.tick.Goals as goal

pub tick-requires : goal.tick-requires
tick-requires c = tick_may c.self.inside c.args.self.now c.args.ticks c.self.view_is c.requires

pub invariant_of-self : goal.invariant_of-self
invariant_of-self c = (tick_row c.self.inside c.args.self.now c.args.ticks c.tick.new.self c.self.invariant c.self.view_is c.requires c.tick.ensures).core

pub returns : goal.returns
returns c = (tick_row c.self.inside c.args.self.now c.args.ticks c.tick.new.self c.self.invariant c.self.view_is c.requires c.tick.ensures).seen
