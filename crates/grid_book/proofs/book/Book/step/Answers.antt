-- The core is the cluster after the journal's events, also with the one that the command chooses.
use Rattle.grid_book.proofs.Growing.{stepped}
use Rattle.grid_book.proofs.book.Book.step.Goals as goal

pub invariant_of-self-2 : goal.invariant_of-self-2
invariant_of-self-2 c =
    let h = c.self.invariant in
    let kept = stepped c.self.inside.config c.self.inside.journal c.step.new.journal c.self.inside.core c.step.new.core c.args.command.now
    (record { history = h.history; run = h.run; cluster = h.cluster }) c.in_ok-moved.ensures.did c.in_ok-moved.ensures.told in
    record { limits = h.limits; history = kept.history; run = kept.run; cluster = kept.cluster }
