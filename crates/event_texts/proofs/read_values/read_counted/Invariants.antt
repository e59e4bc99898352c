use Rattle.std.proofs.Common.{◌≡◌}
use Rattle.event_texts.specs.Reading.{counted_in, times}
use Rattle.event_texts.proofs.read_values.read_counted.Given as goal

-- the texts left stand behind those that are read already
abbrev pub invariant-loop-left : goal.invariant-loop-left
invariant-loop-left g l = counted_in g.T.Field.reads l.text ≡ times g.T.Field.reads l.left l.list.list l.rest

abbrev pub decreases-loop-left : goal.decreases-loop-left
decreases-loop-left g l = l.left
