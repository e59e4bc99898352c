-- The line's first event and those that follow it, or its note.
use Rattle.cluster_model.specs.Commands.{chosen}
use Rattle.step_run.specs.Outcomes.{running}
use Rattle.step_run.specs.StepRuns.{ENOUGH, noted, repeated}
use Rattle.step_run.proofs.Fronts.{repeated-grows}
use Rattle.step_run.proofs.Resuming.{by_event-fault}
use Rattle.step_run.proofs.lines.do_all.Goals as goal

pub returns-in-Err-clause-leaves : goal.returns-in-Err-clause-leaves
returns-in-Err-clause-leaves c =
    by_event-fault c.args.line (repeated ENOUGH c.args.line c.args.command.now) (noted c.args.line) (repeated-grows ENOUGH c.args.line c.args.command.now)
    (chosen c.args.core.now c.args.command.now) (running c.args.core.now c.args.journal.now.history) c.in-Err.fault c.do_first.new.core c.do_first.new.journal.history c.in-Err.ensures.leaves
