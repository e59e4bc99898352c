-- Of the units in front none is ready, and a unit of a core is found by its own number.
use Rattle.std.proofs.Common.{◌≡◌, true, drop, is_some, sym, ap, subst, ◌∙◌}
use Rattle.local_publisher.specs.Work.{Work}
use Rattle.cluster_model.specs.State.{State}
use Rattle.cluster_core.specs.Parts.{piece_of}
use Rattle.cluster_core.proofs.OpenUnits.{unit_found}
use Rattle.cluster_core.proofs.OwnPieces.{ready_piece}
use Rattle.cluster_core.proofs.UnitPlaces.{core_numbered}
use Rattle.cluster_core.proofs.RestUnits.{rest_ready}
use Rattle.cluster_core.proofs.cluster.Core.ready_behind.Goals as goal

pub loop-unit-init : goal.loop-unit-init
loop-unit-init c = rest_ready c.self.inside c.args.self.now c.args.node c.args.number c.waiting-units.result.now c.self.view_is c.waiting-units.ensures

pub returns-then-is_ready_behind-clause-piece : goal.returns-then-is_ready_behind-clause-piece
returns-then-is_ready_behind-clause-piece c =
    subst (λ n. is_some (piece_of c.args.self.now n) ≡ true) (sym (ap (λ (work : Work). work.id) (c.behind-unit.view_is ∙ c.work.ensures)))
    (ready_piece c.args.self.now c.args.node c.args.number c.unit-item.result
    (unit_found c.args.self.now.calling.units (core_numbered c.self.inside c.args.self.now c.self.invariant c.self.view_is) c.waiting-units.ensures.skipped c.waiting-units.result.now
    (c.waiting-units.ensures.rest ∙ ap (λ (s : State). drop c.waiting-units.ensures.skipped s.calling.units) c.self.view_is) c.loop-unit.unit-index c.unit-item.result c.loop-unit-test.true c.unit-item.is)
    (sym c.if-is_ready_behind.ensures))
