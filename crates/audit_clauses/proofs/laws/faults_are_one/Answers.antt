-- Of two first faults of one history neither comes first, so they are one.
use Rattle.audit_clauses.proofs.FirstFaults.{one}
use Rattle.audit_clauses.proofs.laws.faults_are_one.Goals as goal

pub returns : goal.returns
returns c = one
