-- All that is audited is kept in every run, and this follows from it.
use Rattle.audit_runs.proofs.Runs.{never_at_fault}
use Rattle.audit_runs.proofs.laws.runs_are_faultless.Goals as goal

pub returns : goal.returns
returns c = never_at_fault
