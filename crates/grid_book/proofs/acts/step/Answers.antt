-- The chosen event may happen.
use Rattle.std.proofs.Common.{sym, ◌∙◌}
use Rattle.cluster_model.proofs.ChosenSteps.{chosen_may}
use Rattle.grid_book.proofs.acts.step.Goals as goal

pub happen-requires-clause-may : goal.happen-requires-clause-may
happen-requires-clause-may c = chosen_may c.args.core.now c.args.command.now c.in-Some.event (sym c.in_ok-event.ensures ∙ c.in-Some.is)
