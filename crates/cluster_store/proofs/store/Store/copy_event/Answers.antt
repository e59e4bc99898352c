-- The event of a copy is that of the sender.
use Rattle.std.proofs.Common.{ap, sym, ◌∙◌, Some}
use Rattle.std.specs.Option.{option_map}
use Rattle.grid_base.specs.Portion.{Portion}
use Rattle.grid_base.specs.declared.stamped_entry.StampedEntry.{StampedEntry}
use Rattle.grid_event.specs.declared.event.Event.TheVariants as events
use Rattle.grid_event.specs.declared.store_events.CopyEvent.{CopyEvent}
use Rattle.cluster_model.specs.Commands.{copy_of}
use Rattle.cluster_store.proofs.SendingLaws.{copy_event-sender}
use Rattle.cluster_store.proofs.store.Store.copy_event.Goals as goal

pub returns-in_default : goal.returns-in_default
returns-in_default c =
    ap (option_map (λ node. events.Copy (copy_of c.args.self.now c.args.receiver c.args.segment node))) c.in_default.ensures
    ∙ sym (copy_event-sender c.args.self.now c.args.receiver c.args.segment)

pub returns : goal.returns
returns c =
    ap (λ (e : CopyEvent). Some (events.Copy e)) c.in_ok-copy.ensures
    ∙ ap (λ (batch : Portion StampedEntry). Some (events.Copy (record { receiver = c.args.receiver; segment = c.args.segment; provider = c.in-Some.provider; batch = batch }))) c.in_ok-batch.ensures
    ∙ ap (option_map (λ node. events.Copy (copy_of c.args.self.now c.args.receiver c.args.segment node))) c.in-Some.ensures
    ∙ sym (copy_event-sender c.args.self.now c.args.receiver c.args.segment)
