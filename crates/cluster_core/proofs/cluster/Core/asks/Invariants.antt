-- The segments before the place are asked for.
use Rattle.std.proofs.Common.{◌≡◌, ◌+◌, ◌++◌, length}
use Rattle.cluster_model.specs.Calls.{asks_from, incomplete}
use Rattle.cluster_core.proofs.SegmentRows.{rest_of}
use Rattle.cluster_core.proofs.cluster.Core.asks.Given as goal

abbrev pub invariant-loop-place : goal.invariant-loop-place
invariant-loop-place l =
    l.asks.items ++ asks_from l.self.holding l.originator (l.unit + 1) (rest_of l.self l.number l.place)
    ≡ asks_from l.self.holding l.originator (length l.self.calling.units + 1) (incomplete l.self.calling l.number)
