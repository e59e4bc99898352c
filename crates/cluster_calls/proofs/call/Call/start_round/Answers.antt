use Rattle.std.proofs.Common.{◌<◌, subst, sym, arith}
use Rattle.suspect_retry.specs.Rounds.{granted_rounds}
use Rattle.cluster_model.specs.Calls.{granted}
use Rattle.cluster_model.specs.State.{Call}
use Rattle.cluster_calls.proofs.CallLaws.{granted_fits}
use Rattle.cluster_calls.proofs.call.Call.start_round.Goals as goal

pub overflow_add-self : goal.overflow_add-self
overflow_add-self c =
    let more : c.self.inside.rounds < granted_rounds c.self.inside.request.guarantee c.self.inside.request.rounds =
    subst (λ (call : Call). call.rounds < granted call) (sym c.self.view_is) c.requires in
    omega (arith, granted_fits c.self.inside.request c.self.invariant.keys.stated, more)
