-- All owners before the place have their copies.
use Rattle.std.proofs.Common.{◌≡◌, drop}
use Rattle.std.specs.List.{list_all}
use Rattle.cluster_store.specs.Receivers.{has_copies, is_copied}
use Rattle.cluster_store.proofs.store.Store.is_copied.Given as goal

abbrev pub invariant-loop-place : goal.invariant-loop-place
invariant-loop-place l = list_all (has_copies l.self l.segment) (drop l.place l.owners) ≡ is_copied l.self l.segment
