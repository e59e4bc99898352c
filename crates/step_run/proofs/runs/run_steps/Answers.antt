-- What is left of the script's run tells its settings, and that it is a right run.
use Rattle.step_run.proofs.Kept.{left_is_run, settings_left}
use Rattle.step_run.proofs.Finishing.{left_is_finished}
use Rattle.step_run.proofs.RightRuns.{left_is_right}
use Rattle.step_run.proofs.runs.run_steps.Goals as goal

pub returns-clause-settings : goal.returns-clause-settings
returns-clause-settings c = settings_left c.do_script.result c.do_script.new.journal.history c.args.script.now c.do_script.ensures.leaves

pub returns-clause-run : goal.returns-clause-run
returns-clause-run c = left_is_run c.do_script.result c.do_script.new.journal.history c.args.script.now c.do_script.ensures.leaves

pub returns-clause-right : goal.returns-clause-right
returns-clause-right c =
    left_is_right c.do_script.result c.do_script.new.journal.history c.args.script.now c.do_script.ensures.limits c.do_script.ensures.leaves

pub returns-clause-finished : goal.returns-clause-finished
returns-clause-finished c =
    left_is_finished c.do_script.result c.do_script.new.journal.history c.args.script.now c.do_script.ensures.limits c.do_script.ensures.leaves
