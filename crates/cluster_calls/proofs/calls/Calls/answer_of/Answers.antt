use Rattle.std.proofs.Common.{◌≡◌, ◌||◌, true, not, length, sym, subst, ap, ◌∙◌}
use Rattle.std.proofs.lemmas.List.{length-map}
use Rattle.std.proofs.lemmas.Result.{IfOk-weaker}
use Rattle.std.specs.List.{range_with_len}
use Rattle.std.specs.Option.{option_map}
use Rattle.pipeline_eval.specs.Pipes.{pipe}
use Rattle.pipeline_split.specs.Pieces.{finished}
use Rattle.pipeline_split.specs.declared.piece.Piece.TheVariants.{Nothing}
use Rattle.cluster_model.specs.State.{Call, Calling, call_of}
use Rattle.cluster_model.specs.Calls.{all_complete, any_open}
use Rattle.cluster_model.specs.Answers.{evidence_of}
use Rattle.cluster_calls.specs.Insides.{calling_of}
use Rattle.cluster_calls.specs.Parts.{all_joined, part_on}
use Rattle.cluster_calls.specs.declared.row.Row.{Row}
use Rattle.cluster_calls.proofs.AnswerLaws.{booked_answer}
use Rattle.cluster_calls.proofs.ListLaws.{same_some}
use Rattle.cluster_calls.proofs.PartQueries.{all_shut, parts_of_row}
use Rattle.cluster_calls.proofs.RoundLaws.{length-range}
use Rattle.cluster_calls.proofs.RowTables.{get-calls_in}
use Rattle.cluster_calls.proofs.calls.Calls.answer_of.Goals as goal

pub answer-requires-clause-long : goal.answer-requires-clause-long
answer-requires-clause-long c =
    let units = c.self.inside.units.items in
    let n = c.args.number in
    let row = c.in-Some.row.now in
    let has = parts_of_row c.self.inside.segments units c.self.inside.table n row c.in-Some-parts.parts c.self.invariant.pieced (sym c.in-Some.ensures) c.in-Some-parts.is in
    ap length has.booked ∙ length-map (range_with_len 0 c.self.inside.segments) (part_on units n row.call) ∙ length-range 0 c.self.inside.segments

pub returns-in-Some-parts : goal.returns-in-Some-parts
returns-in-Some-parts c =
    let units = c.self.inside.units.items in
    let rows = c.self.inside.table in
    let n = c.args.number in
    let row = c.in-Some.row.now in
    let has = parts_of_row c.self.inside.segments units rows n row c.in-Some-parts.parts c.self.invariant.pieced (sym c.in-Some.ensures) c.in-Some-parts.is in
    let whole = subst (λ (x : Calling). (all_complete x n || not (any_open x.units n)) ≡ true) (sym c.self.view_is) c.requires.whole in
    let shut = all_shut c.self.inside.segments units rows n row c.self.invariant.right (sym c.in-Some.ensures) whole in
    IfOk-weaker c.answer.result _ _ (λ answer is call called.
    let same : row.call ≡ call =
    same_some row.call call
    (sym (get-calls_in rows n ∙ ap (option_map (λ (r : Row). r.call)) (sym c.in-Some.ensures)) ∙ ap (λ (x : Calling). call_of x n) c.self.view_is ∙ called) in
    is
    ∙ (λ i. finished (has.local i) (all_joined Nothing (has.booked i)))
    ∙ booked_answer c.self.inside.segments units n row.call shut c.self.invariant.pieced.unread
    ∙ ap (λ (k : Call). pipe k.request.pipeline (evidence_of (calling_of c.self.inside) n k)) same
    ∙ ap (λ (x : Calling). pipe call.request.pipeline (evidence_of x n call)) c.self.view_is)
    c.answer.ensures
