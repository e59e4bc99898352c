use Rattle.history_units.proofs.Events.{ended}
use Rattle.history_units.proofs.units.Units.end.Goals as goal

pub returns-clause-units : goal.returns-clause-units
returns-clause-units g c =
    ended c.args.members.now.config g.past c.args.number c.is_gone-gone.result c.args.self.now c.close.new.self c.requires.1.0 c.close.ensures c.requires.1.1.1
