-- The calls have the call and the units of the state.
use Rattle.std.proofs.Common.{ap, ◌∙◌}
use Rattle.topology_coord.specs.Coordination.{installed_id}
use Rattle.cluster_calls.specs.Calling.{caught_up}
use Rattle.cluster_model.specs.State.{State, call_of}
use Rattle.cluster_core.proofs.cluster.Core.has_caught_up.Goals as goal

pub returns : goal.returns
returns c =
    let st = c.args.self.now in
    let call = c.args.call.now in
    c.has_caught_up.ensures call (ap (λ (x : State). call_of x.calling c.args.number) c.self.view_is ∙ c.requires)
    ∙ ap (λ (x : State). caught_up x.calling.units call c.installed_id.result) c.self.view_is
    ∙ ap (caught_up st.calling.units call) (c.installed_id.ensures ∙ ap (installed_id st.holding.coord) c.originator.ensures)
