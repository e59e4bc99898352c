-- The calls finish the answer of the evidence of the state.
use Rattle.std.proofs.Common.{◌≡◌, false, not, ◌&&◌, ◌||◌, if◌then◌else◌, sym, ap, ◌∙◌}
use Rattle.grid_event.specs.declared.outcome.Outcome.TheVariants.{Ended, Value}
use Rattle.pipeline_eval.specs.Pipes.{pipe}
use Rattle.cluster_calls.specs.Calling.{is_one}
use Rattle.cluster_calls.specs.Parts.{is_parted}
use Rattle.cluster_model.specs.Answers.{evidence_of}
use Rattle.cluster_model.specs.Calls.{has_open}
use Rattle.cluster_model.specs.State.{State, call_of, is_walk}
use Rattle.cluster_core.proofs.AnswerRows.{evidence_seen, whole_one}
use Rattle.cluster_core.proofs.SegmentRows.{all_seen}
use Rattle.cluster_core.proofs.cluster.Core.whole_outcome.Goals as goal

pub answer_of-requires-clause-parted : goal.answer_of-requires-clause-parted
answer_of-requires-clause-parted c =
    let call = c.args.call.now in
    let reduces : is_walk call.request ≡ false = sym c.if-is_walk.ensures in
    ap (λ (x : State). is_one is_parted (call_of x.calling c.args.number)) c.self.view_is
    ∙ ap (is_one is_parted) c.requires.there
    ∙ ap (λ b. b && not (is_walk call.request)) c.requires.unanswered
    ∙ ap not reduces

pub answer_of-requires-clause-whole : goal.answer_of-requires-clause-whole
answer_of-requires-clause-whole c =
    let st = c.args.self.now in
    (λ i. all_seen c.self.inside st c.self.invariant c.self.view_is c.args.number i || not (has_open (c.self.view_is i).calling c.args.number))
    ∙ whole_one st c.args.number c.args.call.now c.requires.whole

pub returns : goal.returns
returns c =
    let st = c.args.self.now in
    let call = c.args.call.now in
    let reduces : is_walk call.request ≡ false = sym c.if-is_walk.ensures in
    let there = ap (λ (x : State). call_of x.calling c.args.number) c.self.view_is ∙ c.requires.there in
    ap (λ answer. Value answer) (c.in_ok-answer.ensures call there ∙ ap (pipe call.request.pipeline) (evidence_seen c.self.inside st c.self.invariant c.self.view_is c.args.number call))
    ∙ sym (ap (λ b. if b then Ended else Value (pipe call.request.pipeline (evidence_of st.calling c.args.number call))) reduces)
