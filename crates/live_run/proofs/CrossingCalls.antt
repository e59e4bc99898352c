-- That the calls of a run and its book may go to another thread.
use denote.Param.Send.{IsSend, sendable, struct_send}
use denote.Struct.Declared.{shape}
use Rattle.std.proofs.Crossing as std
use Rattle.std.proofs.MapsCrossing as maps
use Rattle.std.proofs.MapsCrossingOver as sets
use Rattle.live_run.proofs.CrossingValues.{Key-send, Datum-kept-send, Entry-send, Entry-kept-send, Item-kept-send, Op-kept-send, Items-send, Sequence-send}
use Rattle.live_run.proofs.CrossingStores.{Coord-send, Copies-send}
use Rattle.live_run.proofs.CrossingEvents.{Request-send, Outcome-kept-send, Config-send, Journal-send}
use Rattle.segment_hash.specs.contracts.segment_set.SegmentSet as SegmentSet
use Rattle.local_publisher.specs.contracts.unit_state.UnitState as UnitState
use Rattle.local_publisher.specs.contracts.unit.Unit as Work
use Rattle.local_publisher.specs.contracts.unit.Unit.TheInside as work
use Rattle.seen_keys.specs.contracts.seen.Seen as Seen
use Rattle.pipeline_feed.specs.contracts.feed.Feed as Feed
use Rattle.pipeline_split.specs.contracts.elements.Elements as Elements
use Rattle.pipeline_split.specs.contracts.piece.Piece as Piece
use Rattle.pipeline_split.specs.contracts.halves.Remote as Remote
use Rattle.pipeline_split.specs.contracts.halves.Local as Local
use Rattle.loss_listener.specs.contracts.listeners.Listeners as Listeners
use Rattle.cluster_calls.specs.contracts.taken.Taken as Taken
use Rattle.cluster_calls.specs.contracts.unit.Unit as Unit'
use Rattle.cluster_calls.specs.contracts.call.Call as Call
use Rattle.cluster_calls.specs.contracts.call.Call.TheInside as call
use Rattle.cluster_calls.specs.contracts.parts.Parts as Parts
use Rattle.cluster_calls.specs.contracts.tally.Tally as Tally
use Rattle.cluster_calls.specs.contracts.row.Row as Row
use Rattle.cluster_calls.specs.contracts.table.Table as Table
use Rattle.cluster_calls.specs.contracts.calls.Calls as Calls
use Rattle.cluster_calls.specs.contracts.calls.Calls.TheInside as calls
use Rattle.cluster_store.specs.contracts.store.Store as Store
use Rattle.cluster_store.specs.contracts.store.Store.TheInside as store
use Rattle.cluster_core.specs.contracts.cluster.Core as Core
use Rattle.grid_book.specs.contracts.book.Book as Book

-- a segment set may go to another thread
SegmentSet-send : IsSend (SegmentSet.the_field).row
SegmentSet-send = search sendable depth 20

-- a unit state may go to another thread
UnitState-send : IsSend (UnitState.the_field).row
UnitState-send = search sendable depth 20

-- the work of a unit may go to another thread
Work-send : IsSend (Work.the_field).row
Work-send = let s = UnitState-send in let e = Sequence-send _ Entry-kept-send in let fields : IsSend (work.the_field).row = struct_send (shape work.the_type) (search sendable depth 20, (search sendable depth 20, (search sendable depth 20, (search sendable depth 20, (search sendable depth 20, (search sendable depth 20, (search sendable depth 20, (search sendable depth 20, tt)))))))) in let inside : IsSend work.the_row = search sendable in search sendable depth 20

-- a unit may go to another thread
Unit-send : IsSend (Unit'.the_field).row
Unit-send = let w = Work-send in search sendable depth 20

-- a unit may go to another thread, as a list or a map holds it
Unit-kept-send : IsSend Unit'.the_row
Unit-kept-send = let u = Unit-send in search sendable

-- the keys that a call has seen may go to another thread
Seen-send : IsSend (Seen.the_field).row
Seen-send = let k = Key-send in search (std.crosses, sendable) depth 40

-- what a pipeline was fed may go to another thread
Feed-send : IsSend (Feed.the_field).row
Feed-send = let i = Item-kept-send in search (maps.BTreeMap-send, sets.BTreeSet-send, std.crosses, sendable) depth 40

-- a taken entry may go to another thread
Taken-send : IsSend (Taken.the_field).row
Taken-send = let e = Entry-send in search sendable depth 20

-- a taken entry may go to another thread, as a list or a map holds it
Taken-kept-send : IsSend Taken.the_row
Taken-kept-send = let e = Taken-send in search sendable

-- a call may go to another thread
Call-send : IsSend (Call.the_field).row
Call-send =
    let r = Request-send in let t = Sequence-send _ Taken-kept-send in let s = Seen-send in let f = Feed-send in let o = Outcome-kept-send in let l = SegmentSet-send in
    let fields : IsSend (call.the_field).row = struct_send (shape call.the_type) (search sendable depth 20, (search sendable depth 20, (search sendable depth 20, (search sendable depth 20, (search sendable depth 20, (search sendable depth 20, (search sendable depth 20, (search sendable depth 20, (search sendable depth 20, (search sendable depth 20, (search sendable depth 20, (search sendable depth 20, (search sendable depth 20, tt))))))))))))) in let inside : IsSend call.the_row = search sendable in search sendable depth 20

-- elements may go to another thread
Elements-send : IsSend (Elements.the_field).row
Elements-send = let i = Item-kept-send in search (std.crosses, sendable) depth 20

-- a piece may go to another thread
Piece-send : IsSend (Piece.the_field).row
Piece-send = let d = Datum-kept-send in let e = Elements-send in search sendable depth 20

-- a piece may go to another thread, as a list or a map holds it
Piece-kept-send : IsSend Piece.the_row
Piece-kept-send = let p = Piece-send in search sendable

-- the half of a pipeline at a node may go to another thread
Remote-send : IsSend (Remote.the_field).row
Remote-send = let o = Items-send _ Op-kept-send in search sendable depth 20

-- the half of a pipeline at the caller may go to another thread
Local-send : IsSend (Local.the_field).row
Local-send = let o = Items-send _ Op-kept-send in search sendable depth 20

-- listeners may go to another thread
Listeners-send : IsSend (Listeners.the_field).row
Listeners-send = search (maps.BTreeMap-send, sets.BTreeSet-send, std.crosses, sendable) depth 40

-- the booked pieces of a call may go to another thread
Parts-send : IsSend (Parts.the_field).row
Parts-send = let p = Piece-kept-send in let r = Remote-send in let o = Local-send in search (std.crosses, sendable) depth 20

-- the booked pieces of a call may go to another thread, as a list or a map holds it
Parts-kept-send : IsSend Parts.the_row
Parts-kept-send = let p = Parts-send in search sendable

-- a tally may go to another thread
Tally-send : IsSend (Tally.the_field).row
Tally-send = let l = SegmentSet-send in search (std.crosses, sendable) depth 20

-- a row of the calls may go to another thread
Row-send : IsSend (Row.the_field).row
Row-send = let c = Call-send in let t = Tally-send in let p = Parts-kept-send in search sendable depth 20

-- a row of the calls may go to another thread, as a list or a map holds it
Row-kept-send : IsSend Row.the_row
Row-kept-send = let r = Row-send in search sendable

-- the table of the calls may go to another thread
Table-send : IsSend (Table.the_field).row
Table-send = let r = Row-kept-send in search (std.crosses, sendable) depth 40

-- calls may go to another thread
Calls-send : IsSend (Calls.the_field).row
Calls-send =
    let u = Unit-kept-send in let t = Table-send in let n = Listeners-send in
    let fields : IsSend (calls.the_field).row = struct_send (shape calls.the_type) (search sendable depth 20, (search (std.crosses, sendable) depth 20, (search sendable depth 20, (search sendable depth 20, (search sendable depth 20, (search sendable depth 20, tt)))))) in
    let inside : IsSend calls.the_row = search sendable in search sendable depth 20

-- a store may go to another thread
Store-send : IsSend (Store.the_field).row
Store-send = let g = Config-send in let c = Coord-send in let k = Copies-send in let fields : IsSend (store.the_field).row = struct_send (shape store.the_type) (search sendable depth 20, (search sendable depth 20, (search sendable depth 20, (search sendable depth 20, tt)))) in let inside : IsSend store.the_row = search sendable in search sendable depth 20

-- a core may go to another thread
Core-send : IsSend (Core.the_field).row
Core-send = let s = Store-send in let c = Calls-send in search sendable depth 20

-- a book may go to another thread
pub Book-send : IsSend (Book.the_field).row
Book-send = let g = Config-send in let c = Core-send in let j = Journal-send in search sendable depth 20
