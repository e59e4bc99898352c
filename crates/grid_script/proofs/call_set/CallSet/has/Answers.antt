use Rattle.grid_script.proofs.MarkedSets.{mark_of}
use Rattle.grid_script.proofs.call_set.CallSet.has.Goals as goal

pub returns : goal.returns
returns c =
    let marked = mark_of c.self.inside.marks.items c.args.self.now c.args.call c.self.view_is in
    cc (marked)
