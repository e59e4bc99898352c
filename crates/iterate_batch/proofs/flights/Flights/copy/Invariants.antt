use Rattle.std.proofs.Common.{◌≡◌, length}
use Rattle.iterate_batch.proofs.FlyingLaws.{with_all}
use Rattle.iterate_batch.proofs.flights.Flights.copy.Given as goal

-- the batches that are left, put into the copy, make it whole
abbrev pub invariant-loop-unit : goal.invariant-loop-unit
invariant-loop-unit l = with_all l.left l.copied ≡ l.fn.self

abbrev pub decreases-loop-unit : goal.decreases-loop-unit
decreases-loop-unit l = length l.left
