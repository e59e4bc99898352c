use Rattle.std.proofs.Common.{arith}
use Rattle.grid_journal.proofs.Places.{event_at, never_missing}
use Rattle.grid_journal.proofs.reports.add_event_at.Goals as goal

pub returns-in_default : goal.returns-in_default
returns-in_default c =
    absurd (never_missing c.args.journal.now.history.events c.args.place c.requires.there (c.in_default.ensures.some (omega arith)))

pub returns : goal.returns
returns c =
    event_at c.args.journal.now.history.events c.args.place c.in-Some.event.now _ _ (c.in-Some.ensures.some (omega arith)) c.in_ok-add_event_line.ensures
