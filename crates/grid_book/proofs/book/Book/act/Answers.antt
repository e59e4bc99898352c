-- The chosen event may happen, and then the core is the cluster after the journal's events.
use Rattle.std.proofs.Common.{sym, ◌∙◌}
use Rattle.cluster_model.proofs.ChosenSteps.{chosen_may}
use Rattle.grid_book.proofs.Growing.{grown}
use Rattle.grid_book.proofs.book.Book.act.Goals as goal

pub happen-requires-clause-may : goal.happen-requires-clause-may
happen-requires-clause-may c = chosen_may c.self.inside.core c.args.command.now c.in-Some.event (sym c.in_ok-event.ensures ∙ c.in-Some.is)

pub invariant_of-self-2 : goal.invariant_of-self-2
invariant_of-self-2 c =
    let h = c.self.invariant in
    let kept = grown c.self.inside.config c.self.inside.journal c.happen.new.journal c.self.inside.core c.happen.new.core c.in-Some.event
    (record { history = h.history; run = h.run; cluster = h.cluster })
    (chosen_may c.self.inside.core c.args.command.now c.in-Some.event (sym c.in_ok-event.ensures ∙ c.in-Some.is))
    c.in_ok-happen.ensures.did c.in_ok-happen.ensures.told in
    record { limits = h.limits; history = kept.history; run = kept.run; cluster = kept.cluster }
