-- No open unit at the node before this one has an event.
use Rattle.std.proofs.Common.{◌≡◌, ◌==◌, ◌&&◌, drop, filter}
use Rattle.cluster_model.specs.Commands.{first_some, served_event, units_at}
use Rattle.cluster_model.specs.State.{Unit, is_open_unit}
use Rattle.cluster_core.proofs.cluster.Core.first_served.Given as goal

abbrev pub invariant-loop-unit : goal.invariant-loop-unit
invariant-loop-unit l =
    first_some (served_event l.self) (filter (λ (unit : Unit). is_open_unit unit && (unit.work.node == l.node)) (drop l.unit-index l.units))
    ≡ first_some (served_event l.self) (units_at l.self.calling l.node)
