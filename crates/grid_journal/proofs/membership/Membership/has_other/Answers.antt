use Rattle.std.proofs.Common.{◌≡◌, true, sym, ap, ◌∙◌, ◌&&◌, not, ◌==◌}
use Rattle.std.proofs.lemmas.Bool.{ne_eqb}
use Rattle.grid_journal.specs.Standing.{stands_live}
use Rattle.grid_journal.proofs.Telling.{any_at}
use Rattle.grid_journal.proofs.membership.Membership.has_other.Goals as goal

pub returns-then-number : goal.returns-then-number
returns-then-number c =
    let lives = stands_live c.args.self.now in
    let live : lives c.in-Some.owner ≡ true = ap lives (sym c.number.ensures) ∙ sym c.is_live.ensures ∙ c.if-is_live.true in
    let other : not (c.in-Some.owner == c.args.node) ≡ true =
    (λ i. not (sym c.number-then-is_live.ensures i == sym c.number-then-is_live-2.ensures i)) ∙ ap not (ne_eqb _ _ c.if-number.true) in
    sym (any_at (λ node. lives node && not (node == c.args.node)) c.args.owners.now c.loop-place.place c.in-Some.owner (sym c.get.ensures ∙ c.in-Some.is)
    (λ i. live i && other i))
