use Rattle.std.proofs.Common.{ap, sym, ◌∙◌}
use Rattle.container_seg.proofs.StoredLaws.{with_all, with_all-empty}
use Rattle.container_seg.proofs.segment_map.SegmentMap.copy.Goals as goal

pub loop-key-init : goal.loop-key-init
loop-key-init c = (λ i. with_all (c.all-range.ensures i) (c.new-copied.ensures i)) ∙ with_all-empty c.args.self.now

pub returns : goal.returns
returns c = ap (λ es. with_all es c.loop-key.copied) (sym c.in_default.ensures.steps.0) ∙ c.loop-key.invariant
