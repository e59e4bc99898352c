use Rattle.std.proofs.Common.{◌≡◌, ◌++◌, not, take}
use Rattle.std.specs.List.{filter}
use Rattle.topology_phase.specs.Owners.{among}
use Rattle.topology_phase.proofs.owners.Owners.joined.Given as goal

-- the first owners, and those of the second list so far that aren't among them
abbrev pub invariant-loop-number : goal.invariant-loop-number
invariant-loop-number l = l.all ≡ l.self ++ filter (λ n. not (among n l.self)) (take l.number-index l.number-items)
