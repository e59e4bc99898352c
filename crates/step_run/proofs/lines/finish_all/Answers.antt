-- Each call is finished, and then the others.
use Rattle.std.proofs.Common.{◌≡◌, ℕ, ◌<◌, ◌+◌, ◌-◌, ap, sym, subst, ◌∙◌, arith}
use Rattle.grid_base.specs.declared.limits.TheConstants.{LAST_CALL}
use Rattle.grid_event.specs.declared.command.Command.TheVariants.{Drive}
use Rattle.step_run.specs.Outcomes.{LeavesAt, running}
use Rattle.step_run.specs.StepRuns.{ENOUGH, Progress, all_finished, repeated}
use Rattle.step_run.proofs.Fronts.{all_finished-grows, all_finished-stays, leaves_on}
use Rattle.step_run.proofs.Resuming.{all_finished-end, all_finished-next}
use Rattle.step_run.proofs.lines.finish_all.Goals as goal

pub returns-in-Err-clause-leaves : goal.returns-in-Err-clause-leaves
returns-in-Err-clause-leaves c =
    let n = c.loop-number.number in
    let more : 0 < LAST_CALL - n = omega (arith, c.loop-number-test.true) in
    let run = running c.loop-number.core c.loop-number.journal.history in
    let left =
    subst (λ (call : ℕ). LeavesAt c.in-Err.fault c.repeat.new.core c.repeat.new.journal.history (repeated ENOUGH 0 (Drive call) run)) c.new.ensures c.in-Err.ensures.leaves in
    subst (λ (target : Progress). LeavesAt c.in-Err.fault c.repeat.new.core c.repeat.new.journal.history target)
    (sym (all_finished-next (LAST_CALL - n) (n + 1) c.loop-number.core c.loop-number.journal.history more) ∙ c.loop-number.invariant.left)
    (leaves_on c.in-Err.fault c.repeat.new.core c.repeat.new.journal.history (repeated ENOUGH 0 (Drive (n + 1)) run) (all_finished (LAST_CALL - n - 1) (n + 1 + 1))
    (all_finished-stays (LAST_CALL - n - 1) (n + 1 + 1)) (all_finished-grows (LAST_CALL - n - 1) (n + 1 + 1)) left)

pub loop-number-preserved : goal.loop-number-preserved
loop-number-preserved c =
    let n = c.loop-number.number in
    let more : 0 < LAST_CALL - n = omega (arith, c.loop-number-test.true) in
    let less : LAST_CALL - (n + 1) ≡ LAST_CALL - n - 1 = omega arith in
    let run = running c.loop-number.core c.loop-number.journal.history in
    record {
      left =
          ap (λ (calls : ℕ). all_finished calls (n + 1 + 1) (running c.repeat.new.core c.repeat.new.journal.history)) less
          ∙ ap (all_finished (LAST_CALL - n - 1) (n + 1 + 1)) (sym (ap (λ (call : ℕ). repeated ENOUGH 0 (Drive call) run) (sym c.new.ensures) ∙ c.in-Ok.ensures.leaves))
          ∙ sym (all_finished-next (LAST_CALL - n) (n + 1) c.loop-number.core c.loop-number.journal.history more)
          ∙ c.loop-number.invariant.left;
      config = c.in-Ok.ensures.config ∙ c.loop-number.invariant.config;
    }

pub returns-clause-leaves : goal.returns-clause-leaves
returns-clause-leaves c =
    let none : 0 ≡ LAST_CALL - c.loop-number.number = omega (arith, c.loop-number-test.false) in
    let run = running c.loop-number.core c.loop-number.journal.history in
    sym c.loop-number.invariant.left
    ∙ ap (λ (calls : ℕ). all_finished calls (c.loop-number.number + 1) run) (sym none)
    ∙ all_finished-end (c.loop-number.number + 1) run
