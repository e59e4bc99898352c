-- The receivers of all segments so far have their copies.
use Rattle.std.proofs.Common.{◌≡◌, drop}
use Rattle.std.specs.List.{list_all}
use Rattle.cluster_model.specs.State.{segments_of}
use Rattle.cluster_model.specs.Topologies.{all_copied}
use Rattle.cluster_store.specs.Receivers.{is_copied}
use Rattle.cluster_store.proofs.store.Store.all_copied.Given as goal

abbrev pub invariant-loop-number : goal.invariant-loop-number
invariant-loop-number l = list_all (is_copied l.self) (drop l.number (segments_of l.self)) ≡ all_copied l.self
