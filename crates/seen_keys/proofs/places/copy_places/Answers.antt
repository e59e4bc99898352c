use Rattle.std.proofs.Common.{arith}
use Rattle.seen_keys.proofs.PlaceLemmas.{copied_more, passed_from-all_copied}
use Rattle.seen_keys.proofs.places.copy_places.Goals as goal

pub loop-place-preserved : goal.loop-place-preserved
loop-place-preserved c =
    copied_more c.deref-place-items.result.now c.loop-place.copied.items c.push.new.self.items c.loop-place.place-index c.place-item.result c.in_ok-copy_place.field-0 (omega arith) c.place-item.is
    c.loop-place.invariant c.in_ok-copy_place.ensures c.in_ok-push.ensures.items

pub returns : goal.returns
returns c =
    passed_from-all_copied c.args.places.now.items c.deref-place-items.result.now c.loop-place.copied.items c.loop-place.place-index c.deref-place-items.ensures.value (omega arith) c.loop-place.invariant
