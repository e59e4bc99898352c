-- No open unit before this one has an event.
use Rattle.std.proofs.Common.{◌≡◌, drop, filter}
use Rattle.cluster_model.specs.Commands.{first_some, open_units, unit_event}
use Rattle.cluster_model.specs.State.{is_open_unit}
use Rattle.cluster_core.proofs.cluster.Core.open_event.Given as goal

abbrev pub invariant-loop-unit : goal.invariant-loop-unit
invariant-loop-unit l =
    first_some (unit_event l.self) (filter is_open_unit (drop l.unit-index l.units)) ≡ first_some (unit_event l.self) (open_units l.self.calling l.fn.number)
