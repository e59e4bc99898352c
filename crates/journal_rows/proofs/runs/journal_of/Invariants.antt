use Rattle.std.proofs.Common.{IsSome}
use Rattle.journal_rows.proofs.runs.journal_of.Given as goal

-- the journal is started
abbrev pub invariant-loop-line : goal.invariant-loop-line
invariant-loop-line l = IsSome l.journal.history.config
