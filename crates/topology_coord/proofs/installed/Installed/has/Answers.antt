use Rattle.std.proofs.Common.{◌==◌, not, ap, ◌∙◌}
use Rattle.topology_coord.proofs.Slots.{live_at, live_within}
use Rattle.topology_coord.proofs.installed.Installed.has.Goals as goal

pub returns-clause-has : goal.returns-clause-has
returns-clause-has c = ap (λ id. not (id == 0)) c.id_in.ensures ∙ live_at c.self.inside.ids c.args.self.now c.args.n c.self.view_is

pub returns-clause-within : goal.returns-clause-within
returns-clause-within c = live_within c.self.inside.ids c.args.self.now c.args.n c.self.view_is c.self.invariant
