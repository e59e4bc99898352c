use Rattle.std.proofs.Common.{sym, ap, ◌∙◌}
use Rattle.grid_journal.specs.Standing.{stands_live}
use Rattle.grid_journal.proofs.Telling.{any_at}
use Rattle.grid_journal.proofs.membership.Membership.has_live.Goals as goal

pub returns-then-is_live : goal.returns-then-is_live
returns-then-is_live c =
    let lives = stands_live c.args.self.now in
    sym (any_at lives c.args.owners.now c.loop-place.place c.in-Some.owner (sym c.get.ensures ∙ c.in-Some.is)
    (ap lives (sym c.number.ensures) ∙ sym c.is_live.ensures ∙ c.if-is_live.true))
