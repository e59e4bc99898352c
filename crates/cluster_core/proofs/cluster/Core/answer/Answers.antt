-- The call has its outcome.
use Rattle.std.proofs.Common.{Some, ap, ◌∙◌}
use Rattle.grid_event.specs.declared.event.Event.TheVariants as events
use Rattle.grid_event.specs.declared.outcome.Outcome.{Outcome}
use Rattle.cluster_calls.specs.Calling.{changes_call}
use Rattle.cluster_model.specs.State.{Call, Calling}
use Rattle.cluster_core.proofs.AnswerRows.{answer_seen}
use Rattle.cluster_core.proofs.Rows.{core_next}
use Rattle.cluster_core.proofs.cluster.Core.answer.Goals as goal

pub invariant_of-self : goal.invariant_of-self
invariant_of-self c =
    let a = c.args.answer.now in
    let is = c.answer.ensures ∙ ap (λ (outcome : Outcome). changes_call a.call (λ (call : Call). record call { outcome = Some outcome }) c.self.inside.calls) c.in_ok-outcome.ensures in
    core_next c.self.inside (record c.self.inside { calls = c.answer.new.self }) c.args.self.now (events.Answer a) c.self.invariant c.self.view_is c.requires
    (answer_seen c.self.inside c.args.self.now a c.answer.new.self c.self.view_is is)
    (ap (λ (calls : Calling). calls.segments) is)

pub returns-clause-ok : goal.returns-clause-ok
returns-clause-ok c =
    let a = c.args.answer.now in
    let is = c.answer.ensures ∙ ap (λ (outcome : Outcome). changes_call a.call (λ (call : Call). record call { outcome = Some outcome }) c.self.inside.calls) c.in_ok-outcome.ensures in
    answer_seen c.self.inside c.args.self.now a c.answer.new.self c.self.view_is is
