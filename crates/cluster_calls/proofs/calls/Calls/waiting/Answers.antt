use Rattle.std.proofs.Common.{drop, ap, subst, ◌∙◌}
use Rattle.std.proofs.lemmas.List.{take_rest}
use Rattle.cluster_model.specs.State.{Calling}
use Rattle.cluster_calls.specs.Calling.{NoneWaits}
use Rattle.cluster_calls.proofs.PastLaws.{none_waits}
use Rattle.cluster_calls.proofs.calls.Calls.waiting.Goals as goal

pub returns : goal.returns
returns c = record {
  skipped = c.self.inside.past;
  rest = take_rest c.as_slice.result.now c.self.inside.past ∙ ap (drop c.self.inside.past) (c.as_slice.ensures.value ∙ ap (λ (x : Calling). x.units) c.self.view_is);
  none = subst (λ (x : Calling). NoneWaits x c.self.inside.past) c.self.view_is (none_waits c.self.inside c.self.inside.past c.self.invariant.past);
}
