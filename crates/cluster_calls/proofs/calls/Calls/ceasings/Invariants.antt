use Rattle.std.proofs.Common.{◌≡◌, ◌-◌, map, take}
use Rattle.std.specs.Prelude.{slice_get}
use Rattle.cluster_calls.specs.Listed.{booking_of}
use Rattle.cluster_calls.specs.Parts.{booking_ceased}
use Rattle.cluster_calls.proofs.calls.Calls.ceasings.Given as goal

abbrev pub invariant-loop-unit : goal.invariant-loop-unit
invariant-loop-unit l = l.made.items ≡ map (λ number. booking_of (booking_ceased l.self l.node l.segments l.id) (slice_get l.self.units (number - 1))) (take l.unit-index l.units)
