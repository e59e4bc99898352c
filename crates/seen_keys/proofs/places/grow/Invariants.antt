use Rattle.std.proofs.Common.{◌≡◌, ◌-◌, vec_len}
use Rattle.seen_keys.specs.Places.{passed_from}
use Rattle.seen_keys.proofs.places.grow.Given as goal

abbrev pub invariant-loop-places : goal.invariant-loop-places
invariant-loop-places l = passed_from 0 l.places.items ≡ passed_from 0 l.initial.places.items

abbrev pub decreases-loop-places : goal.decreases-loop-places
decreases-loop-places l = l.len - vec_len l.places
