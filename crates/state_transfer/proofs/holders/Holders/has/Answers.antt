use Rattle.std.proofs.Common.{ap, is_some, sym, ◌∙◌}
use Rattle.std.specs.FinSet as set
use Rattle.state_transfer.specs.Slots.{Holdings, slot_at}
use Rattle.state_transfer.proofs.SlotLaws as laws
use Rattle.state_transfer.proofs.holders.Holders.has.Goals as goal

pub returns : goal.returns
returns c =
    let slots = c.self.inside.slots.items in
    c.is_some.ensures
    ∙ laws.some_lent c.lent.result
    ∙ ap is_some (c.lent.ensures ∙ (λ i. slot_at (c.deref.ensures.value i) ((c.from.ensures ∙ c.number.ensures) i)))
    ∙ sym (laws.contains-nodes_in slots c.args.node)
    ∙ ap (λ (x : Holdings). set.contains x.nodes c.args.node) c.self.view_is
