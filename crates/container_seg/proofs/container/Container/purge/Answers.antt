use Rattle.std.proofs.Common.{◌<◌, length, ap, arith, ◌∙◌}
use Rattle.container_seg.specs.Stored.{part_at, left_of}
use Rattle.container_seg.proofs.StoredLaws as laws
use Rattle.container_seg.proofs.container.Container.purge.Goals as goal

pub returns : goal.returns
returns c =
    let clock = c.self.inside.clock in
    let parts = c.self.inside.segments.items in
    let more = c.purge_in.new.segments.items in
    let within : c.from-at.result < length parts = omega arith in
    let purged = ap (left_of clock) c.purge_in.ensures.others ∙ laws.left_purged clock parts c.from-at.result (part_at more c.from-at.result) within c.purge_in.ensures.alike in
    (λ i. record { node = c.self.inside.node; clock = clock; entries = purged i }) ∙ c.self.view_is
