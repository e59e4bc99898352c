use Rattle.std.proofs.Common.{◌<◌, length, ap, arith, ◌∙◌}
use Rattle.container_seg.specs.Stored.{part_at, left_of}
use Rattle.container_seg.proofs.StoredLaws as laws
use Rattle.container_seg.proofs.parts.free_in.Goals as goal

pub returns : goal.returns
returns c =
    let clock = c.args.clock in
    let parts = c.args.segments.now.items in
    let more = c.free_at.new.segments.items in
    let within : c.from-at.result < length parts = omega arith in
    ap (left_of clock) c.free_at.ensures.others ∙ laws.left_purged clock parts c.from-at.result (part_at more c.from-at.result) within c.free_at.ensures.alike
