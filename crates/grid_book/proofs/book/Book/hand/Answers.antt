-- The core did Done of the unit, and the journal has it behind the others.
use Rattle.std.proofs.Common.{ap, sym, ◌∙◌}
use Rattle.grid_event.specs.Histories.{History, with_event}
use Rattle.grid_event.specs.declared.event.Event.TheVariants as events
use Rattle.grid_book.proofs.Growing.{grown}
use Rattle.grid_book.proofs.book.Book.hand.Goals as goal

pub invariant_of-self-2 : goal.invariant_of-self-2
invariant_of-self-2 c =
    let h = c.self.invariant in
    let kept = grown c.self.inside.config c.self.inside.journal c.push_reserved.new.self c.self.inside.core c.end.new.core (events.Done c.args.made.unit)
    (record { history = h.history; run = h.run; cluster = h.cluster }) (sym c.in_ok-allows.ensures ∙ c.if-not-branch.false) c.in_ok-end.ensures.ok
    (c.push_reserved.ensures ∙ ap (λ (past : History). with_event past (events.Done c.args.made.unit)) c.prepare.ensures.same) in
    record { limits = h.limits; history = kept.history; run = kept.run; cluster = kept.cluster }
