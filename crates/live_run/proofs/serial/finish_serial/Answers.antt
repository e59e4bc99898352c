-- Changes, sessions and topology are at their ends.
use Rattle.std.proofs.Common.{◌+◌, ◌∙◌}
use Rattle.cluster_laws.proofs.stuck.StuckRuns.{never_stuck}
use Rattle.live_run.proofs.Ends.{served_by}
use Rattle.live_run.proofs.Staying.{finished_stays}
use Rattle.live_run.proofs.serial.finish_serial.Goals as goal

pub returns-clause-ok : goal.returns-clause-ok
returns-clause-ok c =
    let script = c.args.script.now in
    let is = c.repeat.new.book in
    served_by script is c.requires.live c.repeat.ensures.begun
    (c.repeat.ensures.changes ∙ c.finish_sessions.ensures.changes ∙ c.in_ok-finish_changes.ensures.done)
    (λ k below. finished_stays script c.finish_sessions.new.book is (k + 1) (c.in_ok-finish_sessions.ensures.done k below) (c.repeat.ensures.stays (k + 1)))
    (never_stuck is.config is.events c.kept.ensures.limits c.kept.ensures.run c.kept.ensures.fits) c.in_ok-repeat.ensures.done
