use Rattle.std.proofs.Common.{◌∙◌}
use Rattle.history_members.proofs.Keeping.{joined}
use Rattle.history_members.proofs.Shaped.{joins_known}
use Rattle.history_members.proofs.members.Members.join.Goals as goal

pub add-requires : goal.add-requires
add-requires g c = joins_known c.args.self.now.config g.past c.args.node c.requires.1

pub add-requires-2 : goal.add-requires-2
add-requires-2 g c = joins_known c.args.self.now.config g.past c.args.node c.requires.1

pub put-requires : goal.put-requires
put-requires g c = joins_known c.args.self.now.config g.past c.args.node c.requires.1

pub returns-clause-told : goal.returns-clause-told
returns-clause-told g c =
    joined g.past c.args.self.now c.args.node c.add.new.self c.add-2.new.self c.put.new.self c.number.result c.requires.0 c.add.ensures c.add-2.ensures
    (c.number.ensures ∙ c.id.ensures) c.put.ensures
