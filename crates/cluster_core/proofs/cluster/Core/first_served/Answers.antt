-- Of the units in front none has an event, and a unit of a core is found by its own number.
use Rattle.std.proofs.Common.{drop, ap, ◌∙◌}
use Rattle.cluster_model.specs.State.{State}
use Rattle.cluster_core.proofs.UnitPlaces.{core_numbered}
use Rattle.cluster_core.proofs.OpenUnits.{unit_found}
use Rattle.cluster_core.proofs.RestUnits.{rest_serves}
use Rattle.cluster_core.proofs.cluster.Core.first_served.Goals as goal

pub loop-unit-init : goal.loop-unit-init
loop-unit-init c = rest_serves c.self.inside c.args.self.now c.args.node c.waiting-units.result.now c.self.invariant c.self.view_is c.waiting-units.ensures

pub served_event-requires : goal.served_event-requires
served_event-requires c =
    record {
      there =
          unit_found c.args.self.now.calling.units (core_numbered c.self.inside c.args.self.now c.self.invariant c.self.view_is) c.waiting-units.ensures.skipped c.waiting-units.result.now
          (c.waiting-units.ensures.rest ∙ ap (λ (s : State). drop c.waiting-units.ensures.skipped s.calling.units) c.self.view_is) c.loop-unit.unit-index c.unit-item.result c.loop-unit-test.true c.unit-item.is;
    }
