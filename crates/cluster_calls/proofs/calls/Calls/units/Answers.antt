use Rattle.std.proofs.Common.{subst}
use Rattle.cluster_model.specs.State.{Calling}
use Rattle.cluster_calls.specs.Calling.{AreNumbered}
use Rattle.cluster_calls.proofs.CallsLaws.{numbers}
use Rattle.cluster_calls.proofs.calls.Calls.units.Goals as goal

pub returns-clause-numbered : goal.returns-clause-numbered
returns-clause-numbered c = subst (λ (x : Calling). AreNumbered x.units) c.self.view_is (numbers c.self.inside c.self.invariant)
