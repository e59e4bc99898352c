use Rattle.std.proofs.Common.{◌∙◌, ap, arith, ◌&&◌, not, filter, if◌then◌else◌}
use Rattle.std.proofs.lemmas.List.{take_all}
use Rattle.grid_base.specs.declared.entry.Entry.{Entry}
use Rattle.local_publisher.specs.Work.{Work}
use Rattle.cluster_model.specs.State.{is_exact}
use Rattle.cluster_model.specs.Units.{was_taken}
use Rattle.cluster_calls.proofs.CallLaws.{passing_is}
use Rattle.cluster_calls.proofs.call.Call.passing.Goals as goal

pub returns : goal.returns
returns c =
    let call = c.args.self.now in
    c.loop-entry.invariant
    ∙ ap (filter (λ (e : Entry). not (is_exact call.request.guarantee && was_taken call.taken _ e.key))) (take_all c.loop-entry.entry-index c.args.batch.now (omega arith))
    ∙ passing_is call _ c.args.batch.now
    ∙ ap (λ (work : Work). if is_exact call.request.guarantee then filter (λ (e : Entry). not (was_taken call.taken work.segment e.key)) c.args.batch.now else c.args.batch.now)
    (c.behind-unit.view_is ∙ c.work.ensures)
