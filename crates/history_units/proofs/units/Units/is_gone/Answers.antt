use Rattle.std.proofs.Common.{◌≡◌, false, Some, sym}
use Rattle.history_units.specs.Rows.{unit_in}
use Rattle.history_units.proofs.OpenUnits.{open_gone}
use Rattle.history_units.proofs.units.Units.is_gone.Goals.{then-unit, else-unit}
use Rattle.history_units.proofs.units.Units.is_gone.Goals as goal

pub returns-in-Some-2 : goal.returns-in-Some-2
returns-in-Some-2 g c =
    let unit = c.in-Some.unit.now in
    let found : unit_in c.args.self.now c.args.number ≡ Some unit = sym c.in-Some.ensures in
    let closed : (unit.refused ≡ false) × (unit.ended ≡ false) = elim c.if-unit.branch [
      | then-unit w ↦ absurd (cc)
      | else-unit w ↦ (cc, cc)
    ] in
    open_gone c.args.members.now.config g.past c.args.number unit c.args.self.now c.has_left.result c.requires.1.0 found closed.0 closed.1 c.has_left.ensures
