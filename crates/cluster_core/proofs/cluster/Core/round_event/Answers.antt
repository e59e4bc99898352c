-- The next round of a call is there where it is due.
use Rattle.std.proofs.Common.{ℕ, ◌+◌, length, Some, ap, sym, ◌∙◌}
use Rattle.topology_coord.specs.Coordination.{installed_id}
use Rattle.grid_event.specs.declared.call_events.RoundEvent.{RoundEvent}
use Rattle.grid_event.specs.declared.event.Event.TheVariants as events
use Rattle.cluster_model.specs.Calls.{asks_from, incomplete}
use Rattle.cluster_core.proofs.RoundRows.{round_early, round_over, round_there}
use Rattle.cluster_core.proofs.cluster.Core.round_event.Goals as goal

pub returns-then-not-call_goes_on : goal.returns-then-not-call_goes_on
returns-then-not-call_goes_on c = sym (round_over c.args.self.now c.args.number c.in-Some.call.now (sym c.in-Some.ensures) (sym c.if-not-call_goes_on.ensures))

pub returns-then-not-is_due : goal.returns-then-not-is_due
returns-then-not-is_due c =
    sym (round_early c.args.self.now c.args.number c.in-Some.call.now (sym c.in-Some.ensures) (sym c.if-not-call_goes_on.ensures) (sym c.if-not-is_due.ensures))

pub returns : goal.returns
returns c =
    let st = c.args.self.now in
    let number = c.args.number in
    let id = c.installed_id.ensures ∙ ap (installed_id st.holding.coord) c.originator-2.ensures in
    let asks = c.in_ok-asks.ensures ∙ ap (λ (node : ℕ). asks_from st.holding node (length st.calling.units + 1) (incomplete st.calling number)) c.originator.ensures in
    ap (λ (r : RoundEvent). Some (events.Round r)) (c.in_ok-round.ensures ∙ (λ i. record { call = number; id = id i; asks = asks i }))
    ∙ sym (round_there st number c.in-Some.call.now (sym c.in-Some.ensures) (sym c.if-not-call_goes_on.ensures) (sym c.if-not-is_due.ensures))
