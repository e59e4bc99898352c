use Rattle.std.proofs.Common.{arith, ◌∙◌}
use Rattle.hash_factory.proofs.Counting.{moved_all}
use Rattle.hash_factory.proofs.loads.moved.Goals as goal

pub returns-clause-moved : goal.returns-clause-moved
returns-clause-moved c = c.loop-segment.invariant.counted ∙ moved_all c.args.current.now c.args.next.now c.loop-segment.segment (omega arith)

pub returns-clause-within : goal.returns-clause-within
returns-clause-within c = omega (arith, c.loop-segment.invariant.counted, c.loop-segment.invariant.few, moved_all c.args.current.now c.args.next.now c.loop-segment.segment (omega arith))
