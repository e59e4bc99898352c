use Rattle.std.proofs.Common.{arith}
use Rattle.history_members.proofs.Shaped.{ticks_within}
use Rattle.history_members.proofs.members.Members.tick.Goals as goal

pub overflow_add-self : goal.overflow_add-self
overflow_add-self g c = omega (arith, ticks_within c.args.self.now.config g.past c.args.ticks c.requires.1, c.requires.0.clock)
