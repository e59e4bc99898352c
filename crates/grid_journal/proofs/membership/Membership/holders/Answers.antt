use Rattle.std.proofs.Common.{◌∙◌}
use Rattle.grid_journal.proofs.Telling.{first_holders}
use Rattle.grid_journal.proofs.membership.Membership.holders.Goals as goal

pub returns-in-None : goal.returns-in-None
returns-in-None c = c.owners_in.ensures ∙ first_holders c.args.self.now c.args.segment c.in-None.is
