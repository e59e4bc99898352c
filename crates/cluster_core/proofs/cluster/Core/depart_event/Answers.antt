-- The node departs where it may.
use Rattle.std.proofs.Common.{sym, ◌∙◌}
use Rattle.grid_event.specs.declared.event.Event.TheVariants as events
use Rattle.cluster_core.proofs.Choices.{allowed_some, refused_none}
use Rattle.cluster_core.proofs.StoreViews.{depart_told}
use Rattle.cluster_core.proofs.cluster.Core.depart_event.Goals as goal

pub returns-then-not-can_depart : goal.returns-then-not-can_depart
returns-then-not-can_depart c = refused_none c.args.self.now (events.Depart c.args.node) (sym (c.if-not-can_depart.ensures ∙ depart_told c.self.inside c.args.self.now c.self.view_is c.args.node))

pub returns : goal.returns
returns c = allowed_some c.args.self.now (events.Depart c.args.node) (sym (c.if-not-can_depart.ensures ∙ depart_told c.self.inside c.args.self.now c.self.view_is c.args.node))
