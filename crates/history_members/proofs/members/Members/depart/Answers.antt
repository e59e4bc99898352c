use Rattle.std.proofs.Common.{arith}
use Rattle.history_members.proofs.Keeping.{departed}
use Rattle.history_members.proofs.Moves.{moves_within}
use Rattle.history_members.proofs.Shaped.{departs_known}
use Rattle.history_members.proofs.members.Members.depart.Goals as goal

pub put-requires : goal.put-requires
put-requires g c = departs_known c.args.self.now.config g.past c.args.node c.requires.1.1.1

pub overflow_add-self : goal.overflow_add-self
overflow_add-self g c = omega (arith, c.requires.0.moves, moves_within g.past, c.requires.1.0, c.requires.1.1.0)

pub returns-clause-told : goal.returns-clause-told
returns-clause-told g c =
    departed g.past c.args.self.now c.args.node c.args.place c.remove.new.self c.put.new.self c.requires.0 c.requires.1.0 c.remove.ensures c.put.ensures
