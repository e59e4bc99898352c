use Rattle.std.proofs.Common.{IsSome}
use Rattle.report_writes.proofs.written.Given as goal

-- the journal is started
abbrev pub invariant-loop-number : goal.invariant-loop-number
invariant-loop-number l = IsSome l.journal.history.config
