-- The journal of the book is a run with settings in their limits, and one that serves its script has answered all calls.
use Rattle.std.proofs.Common.{◌≡◌, Result, OnOk, ap, subst, sym, ◌∙◌}
use Rattle.grid_event.specs.Configs.{is_config}
use Rattle.cluster_laws.specs.RightRuns.{IsRightAndCaused}
use Rattle.cluster_laws.proofs.RightRuns.{right_run}
use Rattle.grid_book.specs.Booked.{history_of}
use Rattle.grid_book.specs.declared.act_fault.ActFault.{ActFault}
use Rattle.step_run.specs.Finished.{IsFinished}
use Rattle.live_run.specs.Serving.{IsServed}
use Rattle.live_run.proofs.Answering.{served_finished}
use Rattle.live_run.proofs.runs.run_live.Goals as goal

pub returns-in-Ok-ended-clause-right : goal.returns-in-Ok-ended-clause-right
returns-in-Ok-ended-clause-right g c =
    let book = c.serve-book.result.0 in
    subst IsRightAndCaused (sym c.into_journal.ensures.history)
    (right_run (history_of book) (λ config is. let same : book.config ≡ config = cc in ap is_config (sym same) ∙ c.into_journal.ensures.limits) c.into_journal.ensures.run)

pub returns-in-Ok-ended-clause-finished : goal.returns-in-Ok-ended-clause-finished
returns-in-Ok-ended-clause-finished g c =
    let book = c.serve-book.result.0 in
    let script = c.args.script.now in
    subst IsFinished (sym c.into_journal.ensures.history)
    (served_finished script (history_of book)
    (subst (λ (r : Result _ ActFault). OnOk r (IsServed script (history_of book))) c.in-Ok-ended.is c.serve-book.ensures.ok))

pub returns-in-Err-Full-clause-right : goal.returns-in-Err-Full-clause-right
returns-in-Err-Full-clause-right g c =
    let book = c.serve-book.result.0 in
    subst IsRightAndCaused (sym c.into_journal.ensures.history)
    (right_run (history_of book) (λ config is. let same : book.config ≡ config = cc in ap is_config (sym same) ∙ c.into_journal.ensures.limits) c.into_journal.ensures.run)

pub returns-in-Err-NoMemory-clause-right : goal.returns-in-Err-NoMemory-clause-right
returns-in-Err-NoMemory-clause-right g c =
    let book = c.serve-book.result.0 in
    subst IsRightAndCaused (sym c.into_journal.ensures.history)
    (right_run (history_of book) (λ config is. let same : book.config ≡ config = cc in ap is_config (sym same) ∙ c.into_journal.ensures.limits) c.into_journal.ensures.run)
