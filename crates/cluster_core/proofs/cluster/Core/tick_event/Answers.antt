-- The clock goes on where it may.
use Rattle.std.proofs.Common.{sym, ◌∙◌}
use Rattle.grid_event.specs.declared.event.Event.TheVariants as events
use Rattle.cluster_core.proofs.Choices.{allowed_some, refused_none}
use Rattle.cluster_core.proofs.StoreViews.{tick_told}
use Rattle.cluster_core.proofs.cluster.Core.tick_event.Goals as goal

pub returns-then-not-can_tick : goal.returns-then-not-can_tick
returns-then-not-can_tick c = refused_none c.args.self.now (events.Tick c.args.ticks) (sym (c.if-not-can_tick.ensures ∙ tick_told c.self.inside c.args.self.now c.self.view_is c.args.ticks))

pub returns : goal.returns
returns c = allowed_some c.args.self.now (events.Tick c.args.ticks) (sym (c.if-not-can_tick.ensures ∙ tick_told c.self.inside c.args.self.now c.self.view_is c.args.ticks))
