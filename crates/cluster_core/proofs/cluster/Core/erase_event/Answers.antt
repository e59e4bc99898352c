-- The key is erased where it may be.
use Rattle.std.proofs.Common.{Some, ap, sym, ◌∙◌}
use Rattle.grid_event.specs.declared.event.Event.TheVariants as events
use Rattle.grid_event.specs.declared.store_events.EraseEvent.{EraseEvent}
use Rattle.cluster_core.proofs.Choices.{allowed_some, refused_none}
use Rattle.cluster_core.proofs.StoreViews.{erase_told}
use Rattle.cluster_core.proofs.cluster.Core.erase_event.Goals as goal

pub returns-then-not-can_erase : goal.returns-then-not-can_erase
returns-then-not-can_erase c = refused_none c.args.self.now (events.Erase c.args.erase) (sym (c.if-not-can_erase.ensures ∙ erase_told c.self.inside c.args.self.now c.self.view_is c.args.erase))

pub returns : goal.returns
returns c =
    ap (λ (e : EraseEvent). Some (events.Erase e)) c.in_ok-erase.ensures
    ∙ allowed_some c.args.self.now (events.Erase c.args.erase) (sym (c.if-not-can_erase.ensures ∙ erase_told c.self.inside c.args.self.now c.self.view_is c.args.erase))
