-- The chosen event happened, or the journal is full for it.
use Rattle.std.proofs.Common.{Some, Err, ap, sym, subst, ◌∙◌}
use Rattle.grid_event.specs.Histories.{History}
use Rattle.cluster_model.specs.Commands.{chosen}
use Rattle.step_run.specs.Outcomes.{IsFront, running}
use Rattle.step_run.specs.StepRuns.{by_event}
use Rattle.step_run.proofs.Fronts.{step-grows}
use Rattle.step_run.proofs.Taken.{any_config, filled, taken}
use Rattle.step_run.proofs.steps.step.Goals as goal

pub returns-in-Ok-clause-leaves : goal.returns-in-Ok-clause-leaves
returns-in-Ok-clause-leaves c =
    taken c.args.line c.args.core.now c.args.journal.now.history (chosen c.args.core.now c.args.command.now) c.step.new.core c.step.new.journal.history
    c.in-Ok.ensures.did c.in-Ok.ensures.told c.in-Ok.ensures.room

pub returns-in-Ok-clause-config : goal.returns-in-Ok-clause-config
returns-in-Ok-clause-config c =
    ap (λ (h : History). h.config) c.in-Ok.ensures.told ∙ any_config c.args.journal.now.history (chosen c.args.core.now c.args.command.now)

pub returns-in-Err-Full-clause-leaves : goal.returns-in-Err-Full-clause-leaves
returns-in-Err-Full-clause-leaves c =
    filled c.args.line c.args.core.now c.args.journal.now.history (chosen c.args.core.now c.args.command.now)
    (c.in-Err-Full.ensures.full (ap Err c.in-Err-Full.field-0-is))
    ∙ (λ i. record { state = sym c.in-Err-Full.ensures.err i; history = sym c.in-Err-Full.ensures.untold i; stopped = Some c.args.line })

pub returns-in-Err-NoMemory-clause-leaves : goal.returns-in-Err-NoMemory-clause-leaves
returns-in-Err-NoMemory-clause-leaves c =
    subst
    (λ (h : History). IsFront h (by_event c.args.line (λ same. same) (λ same. same) (chosen c.args.core.now c.args.command.now) (running c.args.core.now c.args.journal.now.history)).history)
    (sym c.in-Err-NoMemory.ensures.untold)
    (step-grows c.args.line (chosen c.args.core.now c.args.command.now) (running c.args.core.now c.args.journal.now.history))
