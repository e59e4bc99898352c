-- The line's event, or its note.
use Rattle.std.proofs.Common.{refl, ap, sym, subst, ◌∙◌}
use Rattle.grid_event.specs.Histories.{History}
use Rattle.cluster_model.specs.Commands.{chosen}
use Rattle.step_run.specs.Outcomes.{IsFront, running}
use Rattle.step_run.specs.StepRuns.{Progress, noted}
use Rattle.step_run.proofs.Fronts.{noted-grows, on_err, on_ok, same_front, same_running}
use Rattle.step_run.proofs.Resuming.{after_step, after_step-some, by_event-leaves, by_event-none, by_event-or, noted-running, one_step-none}
use Rattle.step_run.proofs.lines.do_first.Goals as goal

pub returns-in-Err-clause-leaves : goal.returns-in-Err-clause-leaves
returns-in-Err-clause-leaves c =
    by_event-leaves c.args.line (λ same. same) (noted c.args.line) (λ run. same_front run.history) (noted-grows c.args.line)
    (chosen c.args.core.now c.args.command.now) c.args.core.now c.args.journal.now.history c.in-Err.fault c.step.new.core c.step.new.journal.history c.in-Err.ensures.leaves

pub returns-then-moved-clause-leaves : goal.returns-then-moved-clause-leaves
returns-then-moved-clause-leaves c =
    let found = chosen c.args.core.now c.args.command.now in
    by_event-or c.args.line (λ same. same) (noted c.args.line) found (running c.args.core.now c.args.journal.now.history) (sym c.if-moved.true ∙ c.in-Ok.ensures.moved)
    ∙ ap (after_step (λ same. same) found) c.in-Ok.ensures.leaves
    ∙ after_step-some (λ same. same) found c.step.new.core c.step.new.journal.history (sym c.if-moved.true ∙ c.in-Ok.ensures.moved)

pub returns-then-is_err-clause-leaves : goal.returns-then-is_err-clause-leaves
returns-then-is_err-clause-leaves c =
    let found = chosen c.args.core.now c.args.command.now in
    let none = sym c.if-moved.false ∙ c.in-Ok.ensures.moved in
    let run = running c.args.core.now c.args.journal.now.history in
    let here = running c.step.new.core c.step.new.journal.history in
    subst (λ (target : Progress). IsFront c.note_idle.new.self.history target.history)
    (sym (by_event-none c.args.line (λ same. same) (noted c.args.line) found run none
    ∙ ap (noted c.args.line) (sym (one_step-none c.args.line found run none) ∙ c.in-Ok.ensures.leaves)))
    (subst (λ (h : History). IsFront h (noted c.args.line here).history) (sym (on_err c.note_idle.result c.if-is_err.ensures.value c.note_idle.ensures.err))
    (noted-grows c.args.line here))

pub returns-else-is_err-clause-leaves : goal.returns-else-is_err-clause-leaves
returns-else-is_err-clause-leaves c =
    let found = chosen c.args.core.now c.args.command.now in
    let none = sym c.if-moved.false ∙ c.in-Ok.ensures.moved in
    let run = running c.args.core.now c.args.journal.now.history in
    by_event-none c.args.line (λ same. same) (noted c.args.line) found run none
    ∙ ap (noted c.args.line) (sym (one_step-none c.args.line found run none) ∙ c.in-Ok.ensures.leaves)
    ∙ noted-running c.args.line c.step.new.core c.step.new.journal.history
    ∙ same_running refl (sym (on_ok c.note_idle.result c.if-is_err.ensures.value c.note_idle.ensures.ok))
