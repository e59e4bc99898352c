-- The unit is one of the core's.
use Rattle.std.proofs.Common.{Some, ap, ◌∙◌, true, false}
use Rattle.grid_event.specs.declared.event.Event.TheVariants as events
use Rattle.local_publisher.specs.Work.{Work}
use Rattle.cluster_core.proofs.UnitReads.{done_when}
use Rattle.cluster_core.proofs.cluster.Core.done_event.Goals as goal

pub returns-then-not-unit_can_end : goal.returns-then-not-unit_can_end
returns-then-not-unit_can_end c = done_when c.args.self.now c.args.unit.now false c.requires.there c.if-not-unit_can_end.ensures

pub returns : goal.returns
returns c =
    ap (λ (work : Work). Some (events.Done work.id)) (c.behind-unit.view_is ∙ c.work.ensures)
    ∙ done_when c.args.self.now c.args.unit.now true c.requires.there c.if-not-unit_can_end.ensures
