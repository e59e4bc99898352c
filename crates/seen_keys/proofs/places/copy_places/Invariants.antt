use Rattle.std.proofs.Common.{take}
use Rattle.std.specs.List.{AllZip}
use Rattle.seen_keys.proofs.PlaceLemmas.{HasSameKeys}
use Rattle.seen_keys.proofs.places.copy_places.Given as goal

abbrev pub invariant-loop-place : goal.invariant-loop-place
invariant-loop-place l = AllZip HasSameKeys (take l.place-index l.place-items) l.copied.items
