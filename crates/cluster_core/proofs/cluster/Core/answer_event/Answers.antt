-- The answer of a call is there where it has an outcome.
use Rattle.std.proofs.Common.{Some, ap, sym, ◌∙◌}
use Rattle.grid_event.specs.declared.call_events.AnswerEvent.{AnswerEvent}
use Rattle.grid_event.specs.declared.event.Event.TheVariants as events
use Rattle.cluster_core.proofs.AnswerRows.{answer_over, answer_there}
use Rattle.cluster_core.proofs.cluster.Core.answer_event.Goals as goal

pub returns-then-not-is_unanswered : goal.returns-then-not-is_unanswered
returns-then-not-is_unanswered c = sym (answer_over c.args.self.now c.args.number c.in-Some.call.now (sym c.in-Some.ensures) (sym c.if-not-is_unanswered.ensures))

pub returns : goal.returns
returns c =
    ap (λ (a : AnswerEvent). Some (events.Answer a)) c.in_ok-answer.ensures
    ∙ sym (answer_there c.args.self.now c.args.number c.in-Some.call.now c.in-Some-2.outcome (sym c.in-Some.ensures) (sym c.if-not-is_unanswered.ensures) (sym c.in_ok-outcome.ensures ∙ c.in-Some-2.is))
