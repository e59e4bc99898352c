use Rattle.std.proofs.Common.{ap, is_some, sym, ◌∙◌}
use Rattle.std.specs.FinSet as set
use Rattle.state_transfer.specs.Copying.{copy_at}
use Rattle.state_transfer.specs.Slots.{Holdings, slot_at}
use Rattle.state_transfer.proofs.SlotLaws as laws
use Rattle.state_transfer.proofs.holders.Holders.get.Goals as goal

pub returns-clause-there : goal.returns-clause-there
returns-clause-there c =
    let slots = c.self.inside.slots.items in
    laws.some_lent c.lent.result
    ∙ ap is_some (c.lent.ensures ∙ (λ i. slot_at (c.deref.ensures.value i) ((c.from.ensures ∙ c.number.ensures) i)))
    ∙ sym (laws.contains-nodes_in slots c.args.node)
    ∙ ap (λ (x : Holdings). set.contains x.nodes c.args.node) c.self.view_is

pub returns-clause-copies : goal.returns-clause-copies
returns-clause-copies c =
    let slots = c.self.inside.slots.items in
    laws.lent_facts c.lent.result (slot_at slots c.args.node) (c.lent.ensures ∙ (λ i. slot_at (c.deref.ensures.value i) ((c.from.ensures ∙ c.number.ensures) i))) _
    (λ d is s k. laws.copy_there slots c.args.node d is s k ∙ ap (λ (x : Holdings). copy_at x.cells c.args.node s k) c.self.view_is)
