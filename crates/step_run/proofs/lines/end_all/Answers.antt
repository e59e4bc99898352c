-- The calls are finished, and then the topology is settled.
use Rattle.grid_base.specs.declared.limits.TheConstants.{LAST_CALL}
use Rattle.step_run.specs.Outcomes.{running}
use Rattle.step_run.specs.StepRuns.{all_finished, settled}
use Rattle.step_run.proofs.Fronts.{leaves_on, settled-grows, settled-stays}
use Rattle.step_run.proofs.Resuming.{leaves_from}
use Rattle.step_run.proofs.lines.end_all.Goals as goal

pub returns-in-Ok-clause-leaves : goal.returns-in-Ok-clause-leaves
returns-in-Ok-clause-leaves c =
    leaves_from c.repeat.result c.repeat.new.core c.repeat.new.journal.history (all_finished LAST_CALL 1 (running c.args.core.now c.args.journal.now.history))
    c.finish_all.new.core c.finish_all.new.journal.history settled c.in-Ok.ensures.leaves c.repeat.ensures.leaves

pub returns-in-Err-clause-leaves : goal.returns-in-Err-clause-leaves
returns-in-Err-clause-leaves c =
    leaves_on c.in-Err.fault c.finish_all.new.core c.finish_all.new.journal.history (all_finished LAST_CALL 1 (running c.args.core.now c.args.journal.now.history))
    settled settled-stays settled-grows c.in-Err.ensures.leaves
