use Rattle.std.proofs.Common.{◌≡◌}
use Rattle.topology_phase.specs.Owners.{owners_at, tabulated}
use Rattle.topology_phase.specs.Following.{mended}
use Rattle.topology_phase.proofs.next.mended_hash.Given as goal

-- the segments so far are mended
abbrev pub invariant-loop-segment : goal.invariant-loop-segment
invariant-loop-segment l = l.hash ≡ tabulated l.segment (λ s. mended l.live s (owners_at l.mine s) (owners_at l.other s))
