use Rattle.std.proofs.Common.{◌&&◌, not}
use Rattle.std.specs.List.{list_any}
use Rattle.topology_phase.specs.Owners.{among}
use Rattle.topology_phase.specs.Topologies.{holders}
use Rattle.topology_coord.proofs.SoFar.{IsSoFar}
use Rattle.topology_coord.proofs.lost.lost_segments.Given as goal

-- the lost ones among the segments so far
abbrev pub invariant-loop-number : goal.invariant-loop-number
invariant-loop-number l =
    IsSoFar (λ q. list_any (λ n. among n l.fn.live) (holders l.fn.topology q) && not (list_any (λ n. among n l.fn.left) (holders l.fn.topology q))) l.number l.lost
