use Rattle.std.proofs.Common.{◌≡◌, take}
use Rattle.std.specs.List.{filter}
use Rattle.topology_phase.specs.Owners.{among}
use Rattle.topology_phase.proofs.owners.Owners.pruned.Given as goal

-- the owners so far that live
abbrev pub invariant-loop-number : goal.invariant-loop-number
invariant-loop-number l = l.kept ≡ filter (λ n. among n l.live) (take l.number-index l.number-items)
