use Rattle.std.proofs.Common.{◌≤◌, length, sym, subst}
use Rattle.cluster_model.specs.State.{Calling}
use Rattle.cluster_calls.specs.Calling.{NoneWaits}
use Rattle.cluster_calls.proofs.PastLaws.{may_pass}
use Rattle.cluster_calls.proofs.calls.Calls.move_on.Goals as goal

pub invariant_of-self : goal.invariant_of-self
invariant_of-self c =
    let place = c.first_waiting-self-inside.result in
    record {
      few_segments = c.self.invariant.few_segments;
      right = c.self.invariant.right;
      pieced = c.self.invariant.pieced;
      registered = c.self.invariant.registered;
      numbered = c.self.invariant.numbered;
      counted = c.self.invariant.counted;
      few = c.self.invariant.few;
      past =
          may_pass c.self.inside place (subst (λ (x : Calling). place ≤ length x.units) (sym c.self.view_is) c.first_waiting-self-inside.ensures.within)
          (subst (λ (x : Calling). NoneWaits x place) (sym c.self.view_is) c.first_waiting-self-inside.ensures.none);
    }
