-- The calls have the units of the state.
use Rattle.std.proofs.Common.{ap, ◌∙◌}
use Rattle.cluster_model.specs.Calls.{has_open}
use Rattle.cluster_model.specs.State.{State}
use Rattle.cluster_core.proofs.cluster.Core.has_open.Goals as goal

pub returns : goal.returns
returns c = c.has_open.ensures ∙ ap (λ (st : State). has_open st.calling c.args.number) c.self.view_is
