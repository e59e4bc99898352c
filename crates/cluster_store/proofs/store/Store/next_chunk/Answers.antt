-- What the copies ask for holds where a node sends.
use Rattle.std.proofs.Common.{is_some, ap, sym, ◌∙◌}
use Rattle.std.proofs.lemmas.Bool.{true≢false}
use Rattle.cluster_store.proofs.SendingLaws.{sender_ready}
use Rattle.cluster_store.proofs.store.Store.next_chunk.Goals as goal

pub next_chunk-requires-clause-receiver : goal.next_chunk-requires-clause-receiver
next_chunk-requires-clause-receiver c = (sender_ready c.self.inside c.args.self.now c.self.invariant c.self.view_is c.args.receiver c.args.segment c.args.provider c.requires).receiver

pub next_chunk-requires-clause-provider : goal.next_chunk-requires-clause-provider
next_chunk-requires-clause-provider c = (sender_ready c.self.inside c.args.self.now c.self.invariant c.self.view_is c.args.receiver c.args.segment c.args.provider c.requires).provider

pub next_chunk-requires-clause-differ : goal.next_chunk-requires-clause-differ
next_chunk-requires-clause-differ c = (sender_ready c.self.inside c.args.self.now c.self.invariant c.self.view_is c.args.receiver c.args.segment c.args.provider c.requires).differ

pub next_chunk-requires-clause-most : goal.next_chunk-requires-clause-most
next_chunk-requires-clause-most c = (sender_ready c.self.inside c.args.self.now c.self.invariant c.self.view_is c.args.receiver c.args.segment c.args.provider c.requires).most

pub next_chunk-requires-clause-goes_on : goal.next_chunk-requires-clause-goes_on
next_chunk-requires-clause-goes_on c = (sender_ready c.self.inside c.args.self.now c.self.invariant c.self.view_is c.args.receiver c.args.segment c.args.provider c.requires).going

pub next_chunk-requires-clause-no_provider : goal.next_chunk-requires-clause-no_provider
next_chunk-requires-clause-no_provider c = (sender_ready c.self.inside c.args.self.now c.self.invariant c.self.view_is c.args.receiver c.args.segment c.args.provider c.requires).no_provider

pub next_chunk-requires-clause-no_receiver : goal.next_chunk-requires-clause-no_receiver
next_chunk-requires-clause-no_receiver c = (sender_ready c.self.inside c.args.self.now c.self.invariant c.self.view_is c.args.receiver c.args.segment c.args.provider c.requires).no_receiver

pub unreachable-requires : goal.unreachable-requires
unreachable-requires c =
    true≢false (sym (sender_ready c.self.inside c.args.self.now c.self.invariant c.self.view_is c.args.receiver c.args.segment c.args.provider c.requires).may ∙ sym c.in_ok-chunk.ensures.sent ∙ ap is_some c.in-None.is)
