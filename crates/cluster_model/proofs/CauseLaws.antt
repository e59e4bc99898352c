-- A past has one cause at most.
use Rattle.std.proofs.Common.{sym, ap, ◌∙◌, unwrap_or}
use Rattle.cluster_model.specs.Causes.{named_cause}
use Rattle.cluster_model.specs.Laws.{CausesExcludeOneAnother}

-- no two causes apply to one outcome
pub exclude : CausesExcludeOneAnother
exclude config past call invoke a b first second = ap (λ found. unwrap_or found (named_cause a)) (sym first.first ∙ second.first)
