-- The calls have the units of the state.
use Rattle.std.proofs.Common.{ap, ◌∙◌}
use Rattle.cluster_model.specs.State.{State}
use Rattle.cluster_model.specs.Topologies.{is_complete}
use Rattle.cluster_core.proofs.cluster.Core.is_complete.Goals as goal

pub returns : goal.returns
returns c = c.is_complete.ensures ∙ ap (λ (st : State). is_complete st.calling.units c.args.number c.args.segment) c.self.view_is
