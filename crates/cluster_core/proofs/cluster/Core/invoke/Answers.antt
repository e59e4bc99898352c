-- The call is there.
use Rattle.std.proofs.Common.{ap, ◌∙◌}
use Rattle.grid_event.specs.declared.event.Event.TheVariants as events
use Rattle.grid_event.specs.declared.request.Request.{Request}
use Rattle.cluster_model.specs.Calls.{new_call}
use Rattle.cluster_calls.specs.Calling.{puts_call}
use Rattle.cluster_model.specs.State.{Calling, State, call_of}
use Rattle.cluster_core.proofs.RoundRows.{invoke_fresh, invoke_seen}
use Rattle.cluster_core.proofs.Rows.{core_next}
use Rattle.cluster_core.proofs.cluster.Core.invoke.Goals as goal

pub invoke-requires : goal.invoke-requires
invoke-requires c = ap (λ (st : State). call_of st.calling c.args.invoke.now.call) c.self.view_is ∙ invoke_fresh c.args.self.now c.args.invoke.now c.requires

pub invariant_of-self-2 : goal.invariant_of-self-2
invariant_of-self-2 c =
    let i = c.args.invoke.now in
    let is = c.in_ok-invoke.ensures.ok ∙ ap (λ (request : Request). puts_call i.call (new_call i.node request) c.self.inside.calls) c.in_ok-request.ensures in
    core_next c.self.inside (record c.self.inside { calls = c.invoke.new.self }) c.args.self.now (events.Invoke i) c.self.invariant c.self.view_is c.requires
    (invoke_seen c.self.inside c.args.self.now i c.invoke.new.self c.self.view_is is)
    (ap (λ (calls : Calling). calls.segments) is)

pub returns-clause-ok : goal.returns-clause-ok
returns-clause-ok c =
    let i = c.args.invoke.now in
    let is = c.in_ok-invoke.ensures.ok ∙ ap (λ (request : Request). puts_call i.call (new_call i.node request) c.self.inside.calls) c.in_ok-request.ensures in
    invoke_seen c.self.inside c.args.self.now i c.invoke.new.self c.self.view_is is
