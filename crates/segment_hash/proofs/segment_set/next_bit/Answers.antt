use Rattle.std.proofs.Common.{arith}
use Rattle.segment_hash.proofs.MarkedSets.{rest-none, lowest-from, lowest-set, lowest-least}
use Rattle.segment_hash.proofs.segment_set.next_bit.Goals as goal

pub returns-then-rest-eq0-clause-none : goal.returns-then-rest-eq0-clause-none
returns-then-rest-eq0-clause-none c = rest-none c.args.word c.args.first c.requires c.if-rest-eq0.true

pub returns-clause-from : goal.returns-clause-from
returns-clause-from c = lowest-from c.args.word c.args.first c.requires c.ranges.word.fits (omega (arith, c.if-rest-eq0.false))

pub returns-clause-set : goal.returns-clause-set
returns-clause-set c = lowest-set c.args.word c.args.first c.requires c.ranges.word.fits (omega (arith, c.if-rest-eq0.false))

pub returns-clause-least : goal.returns-clause-least
returns-clause-least c = lowest-least c.args.word c.args.first c.requires c.ranges.word.fits (omega (arith, c.if-rest-eq0.false))
