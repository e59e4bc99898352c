-- What is left to repeat is what there was to repeat.
use Rattle.std.proofs.Common.{◌≡◌, ◌-◌}
use Rattle.step_run.specs.Outcomes.{running}
use Rattle.step_run.specs.StepRuns.{ENOUGH, repeated}
use Rattle.step_run.proofs.repeats.repeat.Given as goal

abbrev pub invariant-loop-time : goal.invariant-loop-time
invariant-loop-time l = record {
  left :
      repeated (ENOUGH - l._time) l.line l.command (running l.core l.journal.history)
      ≡ repeated ENOUGH l.line l.command (running l.initial.core l.initial.journal.history);
  config : l.journal.history.config ≡ l.initial.journal.history.config;
}
