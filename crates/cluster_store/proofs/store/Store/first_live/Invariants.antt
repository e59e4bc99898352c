-- None before the place lives.
use Rattle.std.proofs.Common.{◌≡◌, drop}
use Rattle.std.specs.List.{find}
use Rattle.topology_coord.specs.Coordination.{first_live, lives}
use Rattle.cluster_store.proofs.store.Store.first_live.Given as goal

abbrev pub invariant-loop-place : goal.invariant-loop-place
invariant-loop-place l = find (lives l.self.coord) (drop l.place l.owners) ≡ first_live l.self.coord l.owners
