use Rattle.loss_listener.proofs.RegisteredLaws.{remove-listed}
use Rattle.loss_listener.proofs.listeners.Listeners.end.Goals as goal

pub returns-in-Some : goal.returns-in-Some
returns-in-Some c = remove-listed c.self.inside.units.entries c.remove.new.self.entries c.args.self.now c.args.unit c.self.view_is c.remove.ensures.updates.0

pub returns-in_default : goal.returns-in_default
returns-in_default c = remove-listed c.self.inside.units.entries c.remove.new.self.entries c.args.self.now c.args.unit c.self.view_is c.remove.ensures.updates.0
