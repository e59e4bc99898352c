-- The unit is one of the core's.
use Rattle.std.proofs.Common.{Some, sym, ap, ◌∙◌}
use Rattle.grid_event.specs.declared.event.Event.TheVariants as events
use Rattle.grid_event.specs.declared.unit_events.FetchEvent.{FetchEvent}
use Rattle.local_publisher.specs.Work.{Work}
use Rattle.cluster_core.proofs.UnitReads.{fetch_is, fetch_with}
use Rattle.cluster_core.proofs.cluster.Core.fetch_event.Goals as goal

pub returns-in_default : goal.returns-in_default
returns-in_default c =
    ap (fetch_with c.args.unit.now) (sym c.in_default.is ∙ c.in_ok-batch.ensures) ∙ fetch_is c.args.self.now c.args.unit.now c.requires.there

pub returns : goal.returns
returns c =
    ap (λ (event : FetchEvent). Some (events.Fetch event)) c.in_ok-fetch.ensures
    ∙ ap (λ (work : Work). Some (events.Fetch (record { unit = work.id; batch = c.in-Some.batch }))) (c.behind-unit.view_is ∙ c.work.ensures)
    ∙ ap (fetch_with c.args.unit.now) (sym c.in-Some.is ∙ c.in_ok-batch.ensures)
    ∙ fetch_is c.args.self.now c.args.unit.now c.requires.there
