-- Guarantee by guarantee its parts are the clauses.
use Rattle.audit_clauses.proofs.Guarantees.{guarantees}
use Rattle.audit_clauses.proofs.laws.clauses_are_guarantees.Goals as goal

pub returns : goal.returns
returns c = guarantees
