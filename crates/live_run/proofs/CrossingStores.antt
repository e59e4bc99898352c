-- That what a cluster holds may go to another thread.
use denote.Param.Send.{IsSend, sendable}
use Rattle.std.proofs.Crossing as std
use Rattle.std.proofs.MapsCrossing as maps
use Rattle.std.proofs.MapsCrossingOver as sets
use Rattle.live_run.proofs.CrossingValues.{Key-send, Stamped-kept-send, StampedEntry-kept-send}
use Rattle.topology_phase.specs.contracts.hash.Hash as Hash
use Rattle.topology_phase.specs.contracts.topology.Topology as Topology
use Rattle.topology_coord.specs.contracts.coord.Coord as Coord
use Rattle.container_seg.specs.contracts.container.Container as Container
use Rattle.state_transfer.specs.contracts.copies.Copies as Copies

-- a hash may go to another thread
pub Hash-send : IsSend (Hash.the_field).row
Hash-send = search (std.crosses, sendable) depth 20

-- a topology may go to another thread
pub Topology-send : IsSend (Topology.the_field).row
Topology-send = let h = Hash-send in search sendable depth 20

-- a coordinator may go to another thread
pub Coord-send : IsSend (Coord.the_field).row
Coord-send = let t = Topology-send in search sendable depth 20

-- a container may go to another thread
pub Container-send : IsSend (Container.the_field).row
Container-send = let k = Key-send in let s = Stamped-kept-send in search (maps.BTreeMap-send, sets.BTreeSet-send, std.crosses, sendable) depth 20

-- a container may go to another thread, as a list or a map holds it
Container-kept-send : IsSend Container.the_row
Container-kept-send = let c = Container-send in search sendable

-- the copies at nodes may go to another thread
pub Copies-send : IsSend (Copies.the_field).row
Copies-send = let k = Key-send in let s = Stamped-kept-send in let e = StampedEntry-kept-send in let c = Container-kept-send in search (maps.BTreeMap-send, sets.BTreeSet-send, std.crosses, sendable) depth 40
