-- The chunk that is sent is that of the event.
use Rattle.std.proofs.Common.{refl}
use Rattle.cluster_store.specs.Insides.{holding_of}
use Rattle.cluster_store.proofs.Rows.{copy_row, passed_row}
use Rattle.cluster_store.proofs.SendingLaws.{copy_ready, copy_sends}
use Rattle.cluster_store.proofs.store.Store.copy.Goals as goal

pub copy_chunk-requires-clause-receiver : goal.copy_chunk-requires-clause-receiver
copy_chunk-requires-clause-receiver c = (copy_ready c.self.inside c.args.self.now c.args.copy.now c.self.invariant c.self.view_is c.requires).receiver

pub copy_chunk-requires-clause-provider : goal.copy_chunk-requires-clause-provider
copy_chunk-requires-clause-provider c = (copy_ready c.self.inside c.args.self.now c.args.copy.now c.self.invariant c.self.view_is c.requires).provider

pub copy_chunk-requires-clause-differ : goal.copy_chunk-requires-clause-differ
copy_chunk-requires-clause-differ c = (copy_ready c.self.inside c.args.self.now c.args.copy.now c.self.invariant c.self.view_is c.requires).differ

pub copy_chunk-requires-clause-most : goal.copy_chunk-requires-clause-most
copy_chunk-requires-clause-most c = (copy_ready c.self.inside c.args.self.now c.args.copy.now c.self.invariant c.self.view_is c.requires).most

pub copy_chunk-requires-clause-goes_on : goal.copy_chunk-requires-clause-goes_on
copy_chunk-requires-clause-goes_on c = (copy_ready c.self.inside c.args.self.now c.args.copy.now c.self.invariant c.self.view_is c.requires).going

pub copy_chunk-requires-clause-no_provider : goal.copy_chunk-requires-clause-no_provider
copy_chunk-requires-clause-no_provider c = (copy_ready c.self.inside c.args.self.now c.args.copy.now c.self.invariant c.self.view_is c.requires).no_provider

pub copy_chunk-requires-clause-no_receiver : goal.copy_chunk-requires-clause-no_receiver
copy_chunk-requires-clause-no_receiver c = (copy_ready c.self.inside c.args.self.now c.args.copy.now c.self.invariant c.self.view_is c.requires).no_receiver

pub invariant_of-self-2 : goal.invariant_of-self-2
invariant_of-self-2 c =
    let sent =
    copy_sends c.self.inside c.args.self.now c.args.copy.now c.copy_chunk.new.self c.in_ok-copy_chunk.field-0 c.self.invariant c.self.view_is c.requires c.in_ok-copy_chunk.ensures.sent
    c.in_ok-copy_chunk.ensures.chunk c.in_ok-copy_chunk.ensures.ok in
    (copy_row c.self.inside c.args.self.now c.args.copy.now c.copy_chunk.new.self c.send.new.self c.self.invariant c.self.view_is c.requires sent c.send.ensures).store

pub invariant_of-self-3 : goal.invariant_of-self-3
invariant_of-self-3 c =
    let sent =
    copy_sends c.self.inside c.args.self.now c.args.copy.now c.copy_chunk.new.self c.in_ok-copy_chunk.field-0 c.self.invariant c.self.view_is c.requires c.in_ok-copy_chunk.ensures.sent
    c.in_ok-copy_chunk.ensures.chunk c.in_ok-copy_chunk.ensures.ok in
    let later = record c.self.inside { copies = c.copy_chunk.new.self; hints = c.send.new.self } in
    (passed_row later (holding_of later) c.place_up_to-from.result
    (copy_row c.self.inside c.args.self.now c.args.copy.now c.copy_chunk.new.self c.send.new.self c.self.invariant c.self.view_is c.requires sent c.send.ensures).store refl c.place_up_to-from.ensures).store

pub returns-clause-ok : goal.returns-clause-ok
returns-clause-ok c =
    let sent =
    copy_sends c.self.inside c.args.self.now c.args.copy.now c.copy_chunk.new.self c.in_ok-copy_chunk.field-0 c.self.invariant c.self.view_is c.requires c.in_ok-copy_chunk.ensures.sent
    c.in_ok-copy_chunk.ensures.chunk c.in_ok-copy_chunk.ensures.ok in
    (copy_row c.self.inside c.args.self.now c.args.copy.now c.copy_chunk.new.self c.send.new.self c.self.invariant c.self.view_is c.requires sent c.send.ensures).seen
