use Rattle.std.proofs.Common.{sym}
use Rattle.state_transfer.proofs.LyingLaws.{last_found}
use Rattle.state_transfer.proofs.transfer.last_sent.Goals as goal

pub returns-in-Some : goal.returns-in-Some
returns-in-Some c = last_found c.args.entries.now c.in-Some.entry.now c.args.sent (sym c.in-Some.ensures.value)
