-- The lines that are left name the rest of the run.
use Rattle.std.proofs.Common.{◌≡◌, drop}
use Rattle.step_run.specs.Outcomes.{running}
use Rattle.step_run.specs.StepRuns.{after_lines}
use Rattle.step_run.proofs.lines.do_lines.Given as goal

abbrev pub invariant-loop-line : goal.invariant-loop-line
invariant-loop-line l = record {
  left :
      after_lines (drop l.line-index l.lines) (running l.core l.journal.history)
      ≡ after_lines l.lines (running l.initial.core l.initial.journal.history);
  config : l.journal.history.config ≡ l.initial.journal.history.config;
}
