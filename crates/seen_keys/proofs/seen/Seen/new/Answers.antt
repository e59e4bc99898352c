use Rattle.std.proofs.Common.{ap}
use Rattle.seen_keys.specs.Places.{passed_from}
use Rattle.seen_keys.proofs.seen.Seen.new.Goals as goal

pub returns : goal.returns
unfolding passed_from
returns c = ap (passed_from 0) c.new.ensures.items
