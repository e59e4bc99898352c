-- The segments of the set are forgotten one after another.
use Rattle.std.proofs.Common.{◌≡◌, ◌==◌, true, arith, ap, sym, ◌∙◌}
use Rattle.std.specs.FinSet as set_of
use Rattle.state_transfer.specs.Copying.{Copying}
use Rattle.state_transfer.specs.Leaving.{forgets}
use Rattle.cluster_store.proofs.LeftCopies.{forgets_all, forgets_first, forgets_next, forgets_none}
use Rattle.cluster_store.proofs.store.members.forget_all.Goals as goal

pub returns-then-is_none : goal.returns-then-is_none
returns-then-is_none c =
    let before = c.args.copies.now in
    let none = c.next_from.ensures.none.0 c.if-is_none.ensures in
    ap (λ (left : Copying). record before { copying = left })
    (sym (forgets_none (set_of.contains c.args.segments.now) before.copying (λ s. none s (omega (arith, c.new.ensures)))))

pub loop-number-init : goal.loop-number-init
loop-number-init c =
    let before = c.args.copies.now in
    ap (λ (left : Copying). record before { copying = left }) (forgets_first (set_of.contains c.args.segments.now) before.copying)

pub loop-number-preserved : goal.loop-number-preserved
loop-number-preserved c =
    let before = c.args.copies.now in
    let test = set_of.contains c.args.segments.now in
    let passes : test c.loop-number.number ≡ true = ap test (sym c.new-segment.ensures) ∙ sym c.if-not-has.ensures in
    c.forget.ensures
    ∙ (λ i. record (c.loop-number.invariant i) { copying = forgets (λ s. s == c.new-segment.ensures i) (c.loop-number.invariant i).copying })
    ∙ ap (λ (left : Copying). record before { copying = left }) (forgets_next test c.loop-number.number before.copying passes)

pub returns : goal.returns
returns c =
    let before = c.args.copies.now in
    c.loop-number.invariant
    ∙ ap (λ (left : Copying). record before { copying = left })
    (forgets_all (set_of.contains c.args.segments.now) c.loop-number.number before.copying (λ k past. c.next_from.ensures.bounded k (omega (arith, past, c.loop-number-test.false))))
