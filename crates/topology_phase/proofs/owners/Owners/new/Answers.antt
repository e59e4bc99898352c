use Rattle.std.proofs.Common.{refl, arith}
use Rattle.std.specs.List.{IsDistinct}
use Rattle.grid_base.specs.Padded.{pad}
use Rattle.topology_phase.proofs.owners.Owners.new.Goals as goal

pub invariant_of-result : goal.invariant_of-result
unfolding pad IsDistinct
invariant_of-result c = record { fits = omega arith; whole = refl; distinct = tt; padded = refl }
