use Rattle.std.proofs.Common.{◌==◌, if◌then◌else◌, slice_index_or, ap, ◌∙◌, arith}
use Rattle.history_members.proofs.Keeping.{installed}
use Rattle.history_members.proofs.Moves.{moves_within}
use Rattle.history_members.proofs.Shaped.{installs_known}
use Rattle.history_members.proofs.members.Members.install.Goals as goal

pub put-requires : goal.put-requires
put-requires g c = installs_known c.args.self.now.config g.past c.args.node c.args.id c.requires.1.1.1

pub leave_unread-requires-clause-node : goal.leave_unread-requires-clause-node
leave_unread-requires-clause-node g c = installs_known c.args.self.now.config g.past c.args.node c.args.id c.requires.1.1.1

pub overflow_add-self : goal.overflow_add-self
overflow_add-self g c = omega (arith, c.requires.0.moves, moves_within g.past, c.requires.1.0, c.requires.1.1.0)

pub returns-clause-told : goal.returns-clause-told
returns-clause-told g c =
    installed g.past c.args.self.now c.args.node c.args.id c.args.place c.put.new.self c.leave_unread.new.unread c.requires.0 c.requires.1.0
    (λ other otherwise. c.put.ensures other otherwise ∙ ap (λ id. if c.args.node == other then id else slice_index_or c.args.self.now.installed other otherwise) c.number.ensures)
    c.leave_unread.ensures.segments c.leave_unread.ensures.put
