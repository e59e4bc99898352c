use Rattle.std.proofs.Common.{sym, subst}
use Rattle.grid_script.specs.LiveLines.{IsSoFar}
use Rattle.grid_script.proofs.Living.{keeps_rules}
use Rattle.grid_script.proofs.reading.live_after.Goals as goal

pub returns-clause-rules : goal.returns-clause-rules
returns-clause-rules c =
    subst IsSoFar (sym c.in_ok-known.ensures)
    (keeps_rules c.args.known c.in_ok-told.told c.in_ok-told.ensures.kept c.requires.rules)
