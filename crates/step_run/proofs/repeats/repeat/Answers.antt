-- Each time is one step of what is repeated.
use Rattle.std.proofs.Common.{◌≡◌, ◌<◌, ◌+◌, ◌-◌, ap, sym, subst, ◌∙◌, arith}
use Rattle.cluster_model.specs.Commands.{chosen}
use Rattle.step_run.specs.Outcomes.{LeavesAt, running}
use Rattle.step_run.specs.StepRuns.{ENOUGH, Progress, repeated}
use Rattle.step_run.proofs.Resuming.{after_step, after_step-none, after_step-some, repeated-end, repeated-leaves, repeated-next}
use Rattle.step_run.proofs.repeats.repeat.Goals as goal

pub returns-in-Err-clause-leaves : goal.returns-in-Err-clause-leaves
returns-in-Err-clause-leaves c =
    let left : 0 < ENOUGH - c.loop-time._time = omega (arith, c.loop-time-test.true) in
    subst (λ (target : Progress). LeavesAt c.in-Err.fault c.step.new.core c.step.new.journal.history target) c.loop-time.invariant.left
    (repeated-leaves (ENOUGH - c.loop-time._time) c.args.line c.args.command.now (running c.loop-time.core c.loop-time.journal.history)
    c.in-Err.fault c.step.new.core c.step.new.journal.history left c.in-Err.ensures.leaves)

pub returns-then-not-moved-clause-leaves : goal.returns-then-not-moved-clause-leaves
returns-then-not-moved-clause-leaves c =
    let left : 0 < ENOUGH - c.loop-time._time = omega (arith, c.loop-time-test.true) in
    let run = running c.loop-time.core c.loop-time.journal.history in
    let found = chosen c.loop-time.core c.args.command.now in
    let rest = repeated (ENOUGH - c.loop-time._time - 1) c.args.line c.args.command.now in
    sym c.loop-time.invariant.left
    ∙ repeated-next (ENOUGH - c.loop-time._time) c.args.line c.args.command.now run left
    ∙ ap (after_step rest found) c.in-Ok.ensures.leaves
    ∙ after_step-none rest found (running c.step.new.core c.step.new.journal.history) (sym c.if-not-moved.true ∙ c.in-Ok.ensures.moved)

pub loop-time-preserved : goal.loop-time-preserved
loop-time-preserved c =
    let left : 0 < ENOUGH - c.loop-time._time = omega (arith, c.loop-time-test.true) in
    let run = running c.loop-time.core c.loop-time.journal.history in
    let found = chosen c.loop-time.core c.args.command.now in
    let rest = repeated (ENOUGH - c.loop-time._time - 1) c.args.line c.args.command.now in
    let less : ENOUGH - (c.loop-time._time + 1) ≡ ENOUGH - c.loop-time._time - 1 = omega arith in
    record {
      left =
          ap (λ n. repeated n c.args.line c.args.command.now (running c.step.new.core c.step.new.journal.history)) less
          ∙ sym (after_step-some rest found c.step.new.core c.step.new.journal.history (sym c.if-not-moved.false ∙ c.in-Ok.ensures.moved))
          ∙ ap (after_step rest found) (sym c.in-Ok.ensures.leaves)
          ∙ sym (repeated-next (ENOUGH - c.loop-time._time) c.args.line c.args.command.now run left)
          ∙ c.loop-time.invariant.left;
      config = c.in-Ok.ensures.config ∙ c.loop-time.invariant.config;
    }

pub returns-clause-leaves : goal.returns-clause-leaves
returns-clause-leaves c =
    let none : 0 ≡ ENOUGH - c.loop-time._time = omega (arith, c.loop-time-test.false) in
    sym c.loop-time.invariant.left
    ∙ ap (λ n. repeated n c.args.line c.args.command.now (running c.loop-time.core c.loop-time.journal.history)) (sym none)
    ∙ repeated-end c.args.line c.args.command.now (running c.loop-time.core c.loop-time.journal.history)
