use Rattle.std.proofs.Common.{arith, length-drop}
use Rattle.std.proofs.lemmas.List.{take_rest}
use Rattle.grid_io.proofs.Pieces.{Appends-more}
use Rattle.grid_io.proofs.writing.write_all.Goals as goal

pub pieces-preserved : goal.pieces-preserved
pieces-preserved g c =
    let bound = simp (take_rest, length-drop) at c.in_ok-count.ensures.bound in
    record {
      within = omega (arith, bound);
      added = Appends-more _ _ _ _ _ _ c.pieces.invariant.added c.in_ok-count.ensures.added;
      counted = omega (arith, c.pieces.invariant.counted, c.in_ok-count.ensures.counted);
    }
