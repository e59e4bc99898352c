use Rattle.std.proofs.Common.{ap, ◌∙◌}
use Rattle.seen_keys.specs.Places.{passed_from}
use Rattle.seen_keys.proofs.PlaceLemmas.{passed_from-push}
use Rattle.seen_keys.proofs.places.grow.Goals as goal

pub loop-places-preserved : goal.loop-places-preserved
loop-places-preserved c = ap (passed_from 0) c.in_ok-push.ensures.items ∙ passed_from-push 0 c.loop-places.places.items ∙ c.loop-places.invariant
