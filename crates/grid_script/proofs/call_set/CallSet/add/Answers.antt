use Rattle.std.proofs.Common.{arith, ◌<◌, length}
use Rattle.grid_script.proofs.MarkedSets.{marked-add}
use Rattle.grid_script.proofs.call_set.CallSet.add.Goals as goal

pub returns : goal.returns
returns c =
    let within : c.args.call < length c.self.inside.marks.items = omega (arith, c.self.invariant, c.requires) in
    let added = marked-add c.self.inside.marks.items c.args.call within in
    cc (added, c.self.view_is)
