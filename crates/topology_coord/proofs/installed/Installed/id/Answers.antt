use Rattle.std.proofs.Common.{◌∙◌}
use Rattle.topology_coord.proofs.Slots.{id_at, live_within}
use Rattle.topology_coord.proofs.installed.Installed.id.Goals as goal

pub returns-clause-id : goal.returns-clause-id
returns-clause-id c = c.id_in.ensures ∙ id_at c.self.inside.ids c.args.self.now c.args.n c.self.view_is

pub returns-clause-within : goal.returns-clause-within
returns-clause-within c = live_within c.self.inside.ids c.args.self.now c.args.n c.self.view_is c.self.invariant
