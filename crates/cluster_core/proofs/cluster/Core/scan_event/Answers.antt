-- The unit is one of the core's.
use Rattle.std.proofs.Common.{Some, sym, ap, ◌∙◌}
use Rattle.grid_event.specs.declared.event.Event.TheVariants as events
use Rattle.grid_event.specs.declared.unit_events.ScanEvent.{ScanEvent}
use Rattle.local_publisher.specs.Work.{Work}
use Rattle.cluster_core.proofs.UnitReads.{scan_is, scan_with}
use Rattle.cluster_core.proofs.cluster.Core.scan_event.Goals as goal

pub returns-in_default : goal.returns-in_default
returns-in_default c =
    ap (scan_with c.args.unit.now) (sym c.in_default.is ∙ c.in_ok-batch.ensures) ∙ scan_is c.args.self.now c.args.unit.now c.requires.there

pub returns : goal.returns
returns c =
    ap (λ (event : ScanEvent). Some (events.Scan event)) c.in_ok-scan.ensures
    ∙ ap (λ (work : Work). Some (events.Scan (record { unit = work.id; batch = c.in-Some.batch }))) (c.behind-unit.view_is ∙ c.work.ensures)
    ∙ ap (scan_with c.args.unit.now) (sym c.in-Some.is ∙ c.in_ok-batch.ensures)
    ∙ scan_is c.args.self.now c.args.unit.now c.requires.there
