-- That the events of a run may go to another thread.
use denote.Param.Send.{IsSend, IsSync, sendable, enum_send}
use denote.Enum.Declared.{shape}
use Rattle.live_run.proofs.CrossingValues.{Key-send, Datum-send, Datum-kept-send, StampedEntry-kept-send, Entry-kept-send, Item-kept-send, Pipeline-send, Pipeline-sync, Items-send, Sequence-send, BoxedField-send}
use Rattle.live_run.proofs.CrossingStores.{Topology-send}
use Rattle.grid_base.specs.contracts.batch.Batch as Batch
use Rattle.grid_base.specs.contracts.chunk.Chunk as Chunk
use Rattle.topology_phase.specs.contracts.topology.Topology as Topology
use Rattle.pipeline_expr.specs.contracts.answer.Answer as Answer
use Rattle.grid_event.specs.contracts.config.Config as Config
use Rattle.grid_event.specs.contracts.request.Request as Request
use Rattle.grid_event.specs.contracts.outcome.Outcome as Outcome
use Rattle.grid_event.specs.contracts.store_events.WriteEvent as WriteEvent
use Rattle.grid_event.specs.contracts.store_events.EraseEvent as EraseEvent
use Rattle.grid_event.specs.contracts.store_events.CopyEvent as CopyEvent
use Rattle.grid_event.specs.contracts.call_events.Ask as Ask
use Rattle.grid_event.specs.contracts.call_events.InvokeEvent as InvokeEvent
use Rattle.grid_event.specs.contracts.call_events.RoundEvent as RoundEvent
use Rattle.grid_event.specs.contracts.call_events.AnswerEvent as AnswerEvent
use Rattle.grid_event.specs.contracts.unit_events.ScanEvent as ScanEvent
use Rattle.grid_event.specs.contracts.unit_events.FetchEvent as FetchEvent
use Rattle.grid_event.specs.contracts.unit_events.TakeEvent as TakeEvent
use Rattle.grid_event.specs.contracts.event.Event as Event
use Rattle.grid_event.specs.contracts.journal.Journal as Journal

-- a request may go to another thread
pub Request-send : IsSend (Request.the_field).row
Request-send = let p = Pipeline-send in search sendable depth 20

-- several threads may look at a request
pub Request-sync : IsSync (Request.the_field).row
Request-sync = let p = Pipeline-sync in search sendable depth 20

-- an answer may go to another thread
Answer-send : IsSend (Answer.the_field).row
Answer-send = let d = Datum-kept-send in let i = Items-send _ Item-kept-send in search sendable depth 20

-- an outcome may go to another thread
pub Outcome-send : IsSend (Outcome.the_field).row
Outcome-send = let a = Answer-send in search sendable depth 20

-- an outcome may go to another thread, as a list or a map holds it
pub Outcome-kept-send : IsSend Outcome.the_row
Outcome-kept-send = let o = Outcome-send in search sendable

-- a config may go to another thread
pub Config-send : IsSend (Config.the_field).row
Config-send = search sendable depth 20

-- a config may go to another thread, as a list or a map holds it
pub Config-kept-send : IsSend Config.the_row
Config-kept-send = let c = Config-send in search sendable

-- several threads may look at a config
pub Config-sync : IsSync (Config.the_field).row
Config-sync = search sendable depth 20

-- a topology may go to another thread, as a list or a map holds it
Topology-kept-send : IsSend Topology.the_row
Topology-kept-send = let t = Topology-send in search sendable

-- a write event may go to another thread, as a list or a map holds it
WriteEvent-kept-send : IsSend WriteEvent.the_row
WriteEvent-kept-send = let k = Key-send in let d = Datum-send in search sendable depth 20

-- an erase event may go to another thread, as a list or a map holds it
EraseEvent-kept-send : IsSend EraseEvent.the_row
EraseEvent-kept-send = let k = Key-send in search sendable depth 20

-- a chunk may go to another thread
Chunk-send : IsSend (Chunk.the_field).row
Chunk-send = let e = Sequence-send _ StampedEntry-kept-send in search sendable depth 20

-- a copy event may go to another thread, as a list or a map holds it
CopyEvent-kept-send : IsSend CopyEvent.the_row
CopyEvent-kept-send = let c = Chunk-send in search sendable depth 20

-- an invoke event may go to another thread, as a list or a map holds it
InvokeEvent-kept-send : IsSend InvokeEvent.the_row
InvokeEvent-kept-send = let r = Request-send in search sendable depth 20

-- an ask may go to another thread
Ask-send : IsSend (Ask.the_field).row
Ask-send = search sendable depth 20

-- an ask may go to another thread, as a list or a map holds it
Ask-kept-send : IsSend Ask.the_row
Ask-kept-send = let a = Ask-send in search sendable

-- a round event may go to another thread, as a list or a map holds it
RoundEvent-kept-send : IsSend RoundEvent.the_row
RoundEvent-kept-send = let i = Items-send _ Ask-kept-send in search sendable depth 20

-- an answer event may go to another thread, as a list or a map holds it
AnswerEvent-kept-send : IsSend AnswerEvent.the_row
AnswerEvent-kept-send = let o = Outcome-send in search sendable depth 20

-- a batch may go to another thread
Batch-send : IsSend (Batch.the_field).row
Batch-send = let e = Sequence-send _ Entry-kept-send in search sendable depth 20

-- a scan event may go to another thread, as a list or a map holds it
ScanEvent-kept-send : IsSend ScanEvent.the_row
ScanEvent-kept-send = let b = Batch-send in search sendable depth 20

-- a fetch event may go to another thread, as a list or a map holds it
FetchEvent-kept-send : IsSend FetchEvent.the_row
FetchEvent-kept-send = let b = Batch-send in search sendable depth 20

-- a take event may go to another thread, as a list or a map holds it
TakeEvent-kept-send : IsSend TakeEvent.the_row
TakeEvent-kept-send = let e = Sequence-send _ Entry-kept-send in let i = Sequence-send _ Item-kept-send in search sendable depth 20

-- an event may go to another thread
Event-send : IsSend (Event.the_field).row
Event-send =
    let w = WriteEvent-kept-send in let e = EraseEvent-kept-send in let t = Topology-kept-send in let c = CopyEvent-kept-send in let i = InvokeEvent-kept-send in
    let r = RoundEvent-kept-send in let a = AnswerEvent-kept-send in let s = ScanEvent-kept-send in let f = FetchEvent-kept-send in let k = TakeEvent-kept-send in
    let bw = BoxedField-send _ w in let be = BoxedField-send _ e in let bt = BoxedField-send _ t in let bc = BoxedField-send _ c in let bi = BoxedField-send _ i in
    let br = BoxedField-send _ r in let ba = BoxedField-send _ a in let bs = BoxedField-send _ s in let bf = BoxedField-send _ f in let bk = BoxedField-send _ k in
    enum_send (shape Event.the_type) ((bw, tt), ((be, tt), ((search sendable depth 20, tt), ((search sendable depth 20, tt), ((search sendable depth 20, tt), ((bt, tt), ((search sendable depth 20, (search sendable depth 20, tt)), ((bc, tt), ((search sendable depth 20, (search sendable depth 20, tt)), ((bi, tt), ((br, tt), ((search sendable depth 20, (search sendable depth 20, tt)), ((bs, tt), ((bf, tt), ((bk, tt), ((search sendable depth 20, tt), ((ba, tt), tt)))))))))))))))))

-- an event may go to another thread, as a list or a map holds it
Event-kept-send : IsSend Event.the_row
Event-kept-send = let e = Event-send in search sendable

-- a journal may go to another thread
pub Journal-send : IsSend (Journal.the_field).row
Journal-send = let c = Config-kept-send in let e = Sequence-send _ Event-kept-send in search (Sequence-send, sendable) depth 20
