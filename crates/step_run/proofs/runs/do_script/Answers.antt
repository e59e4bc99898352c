-- The run is that of the lines, and then of all calls.
use Rattle.std.proofs.Common.{refl, sym, subst, ◌∙◌, Err}
use Rattle.step_run.specs.Outcomes.{Leaves, LeavesAt, running}
use Rattle.step_run.specs.StepRuns.{Progress, after_lines, begin, ended, run_of}
use Rattle.step_run.proofs.Fronts.{ended-grows, ended-stays, leaves_on}
use Rattle.step_run.proofs.Kept.{begun_with, leaves_run, run_of-parts}
use Rattle.step_run.proofs.runs.do_script.Goals as goal

pub returns-in-Ok-do_lines-clause-leaves : goal.returns-in-Ok-do_lines-clause-leaves
returns-in-Ok-do_lines-clause-leaves c =
    let script = c.args.script.now in
    let run = running c.do_lines.new.core c.do_lines.new.journal.history in
    let lines =
    begun_with (record { config = c.script.inside.config; lines = c.script.inside.lines }) script c.in-Ok.core c.start.new.self.history c.as_slice.result.now
    c.script.view_is c.in-Ok.ensures c.start.ensures.started c.as_slice.ensures in
    leaves_run c.end_all.result c.end_all.new.core c.end_all.new.journal.history (run_of script)
    (subst (λ (target : Progress). Leaves c.end_all.result c.end_all.new.core c.end_all.new.journal.history target)
    (sym (run_of-parts script run (lines ∙ c.in-Ok-do_lines.ensures.leaves)))
    c.end_all.ensures.leaves)

pub returns-clause-leaves : goal.returns-clause-leaves
returns-clause-leaves c =
    let script = c.args.script.now in
    let first = after_lines script.lines (begin script.config) in
    let lines =
    begun_with (record { config = c.script.inside.config; lines = c.script.inside.lines }) script c.in-Ok.core c.start.new.self.history c.as_slice.result.now
    c.script.view_is c.in-Ok.ensures c.start.ensures.started c.as_slice.ensures in
    leaves_run {A = Unit {0}} (Err c.in-Err.fault) c.do_lines.new.core c.do_lines.new.journal.history (run_of script)
    (subst (λ (target : Progress). LeavesAt c.in-Err.fault c.do_lines.new.core c.do_lines.new.journal.history target)
    (sym (run_of-parts script first refl))
    (leaves_on c.in-Err.fault c.do_lines.new.core c.do_lines.new.journal.history first ended ended-stays ended-grows
    (subst (λ (target : Progress). LeavesAt c.in-Err.fault c.do_lines.new.core c.do_lines.new.journal.history target) (sym lines) c.in-Err.ensures.leaves)))
