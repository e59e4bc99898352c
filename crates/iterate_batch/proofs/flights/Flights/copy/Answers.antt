use Rattle.std.proofs.Common.{◌∙◌, ap, sym}
use Rattle.std.specs.FinMap as map
use Rattle.iterate_batch.proofs.FlyingLaws.{with_all, with_all-last, with_all-empty}
use Rattle.iterate_batch.proofs.flights.Flights.copy.Goals as goal

pub loop-unit-init : goal.loop-unit-init
loop-unit-init c = (λ i. with_all (c.iter-left.ensures.rest i) (c.new-copied.ensures i)) ∙ with_all-empty c.self.inside.batches.entries ∙ c.self.view_is

pub loop-unit-preserved : goal.loop-unit-preserved
loop-unit-preserved c =
    ap (with_all c.next_back.new.self) (c.in_ok-put.ensures.ok ∙ ap (map.insert c.loop-unit.copied c.in-Some.unit.now) c.in_ok-copy.ensures)
    ∙ sym (with_all-last c.next_back.new.self (c.in-Some.unit.now, c.in-Some.flying.now) c.loop-unit.copied)
    ∙ ap (λ batches. with_all batches c.loop-unit.copied) (sym c.in-Some.ensures.steps)
    ∙ c.loop-unit.invariant
