use Rattle.std.proofs.Common.{Some}
use Rattle.loss_listener.proofs.RegisteredLaws.{insert-listed, same-listed, fresh_listed}
use Rattle.loss_listener.proofs.IndexLaws.{IsIndexed-added, IsIndexed-same, went_again}
use Rattle.loss_listener.proofs.listeners.Listeners.register.Goals as goal

pub invariant_of-self-in-Ok : goal.invariant_of-self-in-Ok
invariant_of-self-in-Ok c =
    IsIndexed-added c.self.inside.units.entries c.insert.new.self.entries c.self.inside.index.entries c.add.new.index.entries c.args.unit (record { node = c.args.node; segment = c.args.segment }) c.self.invariant
    (fresh_listed c.self.inside.units.entries c.args.self.now c.args.unit c.self.view_is c.requires) c.in_ok-insert.ensures.updates.0 c.in-Ok.ensures.ok

pub invariant_of-self-in-Err : goal.invariant_of-self-in-Err
invariant_of-self-in-Err c =
    IsIndexed-same c.self.inside.units.entries c.remove.new.self.entries c.self.inside.index.entries c.add.new.index.entries c.self.invariant
    (went_again c.self.inside.units.entries c.insert.new.self.entries c.remove.new.self.entries c.args.unit (Some (record { node = c.args.node; segment = c.args.segment }))
    (fresh_listed c.self.inside.units.entries c.args.self.now c.args.unit c.self.view_is c.requires) c.in_ok-insert.ensures.updates.0 c.remove.ensures.updates.0)
    c.in-Err.ensures.err

pub returns-in-Ok-clause-ok : goal.returns-in-Ok-clause-ok
returns-in-Ok-clause-ok c =
    insert-listed c.self.inside.units.entries c.insert.new.self.entries c.args.self.now c.args.unit (record { node = c.args.node; segment = c.args.segment }) c.self.view_is c.in_ok-insert.ensures.updates.0

pub returns-in-Err-clause-err : goal.returns-in-Err-clause-err
returns-in-Err-clause-err c =
    same-listed c.self.inside.units.entries c.remove.new.self.entries c.args.self.now c.self.view_is
    (went_again c.self.inside.units.entries c.insert.new.self.entries c.remove.new.self.entries c.args.unit (Some (record { node = c.args.node; segment = c.args.segment }))
    (fresh_listed c.self.inside.units.entries c.args.self.now c.args.unit c.self.view_is c.requires) c.in_ok-insert.ensures.updates.0 c.remove.ensures.updates.0)
