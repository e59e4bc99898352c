-- The calls that are left name the rest of the run.
use Rattle.std.proofs.Common.{◌≡◌, ◌+◌, ◌-◌}
use Rattle.grid_base.specs.declared.limits.TheConstants.{LAST_CALL}
use Rattle.step_run.specs.Outcomes.{running}
use Rattle.step_run.specs.StepRuns.{all_finished}
use Rattle.step_run.proofs.lines.finish_all.Given as goal

abbrev pub invariant-loop-number : goal.invariant-loop-number
invariant-loop-number l = record {
  left :
      all_finished (LAST_CALL - l.number) (l.number + 1) (running l.core l.journal.history)
      ≡ all_finished LAST_CALL 1 (running l.initial.core l.initial.journal.history);
  config : l.journal.history.config ≡ l.initial.journal.history.config;
}
