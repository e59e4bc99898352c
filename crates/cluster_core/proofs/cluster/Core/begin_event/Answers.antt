-- The unit is one of the core's.
use Rattle.std.proofs.Common.{Some, ap, ◌∙◌, true, false}
use Rattle.grid_event.specs.declared.event.Event.TheVariants as events
use Rattle.local_publisher.specs.Work.{Work}
use Rattle.cluster_core.proofs.UnitReads.{begin_when}
use Rattle.cluster_core.proofs.cluster.Core.begin_event.Goals as goal

pub returns-then-not-unit_can_begin : goal.returns-then-not-unit_can_begin
returns-then-not-unit_can_begin c =
    begin_when c.args.self.now c.args.unit.now c.reads-runs.result false c.requires.there c.reads-runs.ensures c.if-not-unit_can_begin.ensures

pub returns : goal.returns
returns c =
    ap (λ (work : Work). Some (events.Begin work.id c.reads-runs.result)) (c.behind-unit.view_is ∙ c.work.ensures)
    ∙ begin_when c.args.self.now c.args.unit.now c.reads-runs.result true c.requires.there c.reads-runs.ensures c.if-not-unit_can_begin.ensures
