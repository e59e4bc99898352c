use Rattle.std.proofs.Common.{ap, ◌∙◌, arith}
use Rattle.std.specs.FinSet as set_of
use Rattle.cluster_calls.proofs.ListedLaws.{contains_next}
use Rattle.cluster_calls.proofs.calls.losses.all_segments.Goals as goal

pub loop-number-init : goal.loop-number-init
loop-number-init c = λ s l. absurd (omega (arith, l))

pub loop-number-preserved : goal.loop-number-preserved
loop-number-preserved c = λ s l. ap (λ set. set_of.contains set s) (c.add.ensures ∙ ap (set_of.insert c.loop-number.segments) c.new.ensures) ∙ contains_next c.loop-number.segments c.loop-number.number s c.loop-number.invariant l

pub returns : goal.returns
returns c = λ s l. c.loop-number.invariant s (omega (arith, l))
