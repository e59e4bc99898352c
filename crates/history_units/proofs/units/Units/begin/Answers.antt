use Rattle.std.proofs.Common.{◌≡◌, ◌∷◌, true, sym, subst}
use Rattle.grid_event.specs.declared.event.Event.TheVariants.{Begin}
use Rattle.audit_clauses.specs.Shapes.{is_shaped}
use Rattle.history_units.specs.Told.{AreUnitsOf}
use Rattle.history_units.proofs.Events.{begun, refused}
use Rattle.history_units.proofs.units.Units.begin.Goals as goal

pub returns-then-runs-clause-units : goal.returns-then-runs-clause-units
returns-then-runs-clause-units g c =
    let shaped = subst (λ b. is_shaped c.args.members.now.config g.past (Begin c.args.number b) ≡ true) c.if-runs.true c.requires.1.1.1.1 in
    subst (λ b. AreUnitsOf (Begin c.args.number b ∷ g.past) c.run.new.self) (sym c.if-runs.true)
    (begun c.args.members.now.config g.past c.args.number c.args.place c.args.self.now c.run.new.self c.requires.1.0 c.run.ensures c.requires.1.1.1.0 shaped)

pub returns-else-runs-clause-units : goal.returns-else-runs-clause-units
returns-else-runs-clause-units g c =
    let shaped = subst (λ b. is_shaped c.args.members.now.config g.past (Begin c.args.number b) ≡ true) c.if-runs.false c.requires.1.1.1.1 in
    subst (λ b. AreUnitsOf (Begin c.args.number b ∷ g.past) c.refuse.new.self) (sym c.if-runs.false)
    (refused c.args.members.now.config g.past c.args.number c.is_gone-gone.result c.args.self.now c.refuse.new.self c.requires.1.0 c.refuse.ensures shaped)
