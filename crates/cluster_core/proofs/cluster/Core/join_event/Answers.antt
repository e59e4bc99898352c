-- The node joins where it may.
use Rattle.std.proofs.Common.{sym, ◌∙◌}
use Rattle.grid_event.specs.declared.event.Event.TheVariants as events
use Rattle.cluster_core.proofs.Choices.{allowed_some, refused_none}
use Rattle.cluster_core.proofs.StoreViews.{join_told}
use Rattle.cluster_core.proofs.cluster.Core.join_event.Goals as goal

pub returns-then-not-can_join : goal.returns-then-not-can_join
returns-then-not-can_join c = refused_none c.args.self.now (events.Join c.args.node) (sym (c.if-not-can_join.ensures ∙ join_told c.self.inside c.args.self.now c.self.view_is c.args.node))

pub returns : goal.returns
returns c = allowed_some c.args.self.now (events.Join c.args.node) (sym (c.if-not-can_join.ensures ∙ join_told c.self.inside c.args.self.now c.self.view_is c.args.node))
