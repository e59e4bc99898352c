use Rattle.std.proofs.Common.{ap, ◌∙◌, arith}
use Rattle.seen_keys.specs.Passed.{without_segment}
use Rattle.seen_keys.specs.Places.{passed_from}
use Rattle.seen_keys.proofs.PlaceLemmas.{without_segment-emptied, without_segment-past}
use Rattle.seen_keys.proofs.places.forget.Goals as goal

pub returns-then-place-len : goal.returns-then-place-len
returns-then-place-len c =
    without_segment-emptied c.args.places.now.items c.from-place.result (omega arith)
    ∙ ap (without_segment (passed_from 0 c.args.places.now.items)) (c.from-place.ensures ∙ c.number.ensures)

pub returns-else-place-len : goal.returns-else-place-len
returns-else-place-len c = without_segment-past c.args.places.now.items c.args.segment (omega arith)
