use Rattle.std.proofs.Common.{ap, ◌∙◌}
use Rattle.std.specs.FinMap as map
use Rattle.container_seg.specs.Lifespans.{is_fresh}
use Rattle.state_transfer.specs.Slots.{Holdings}
use Rattle.state_transfer.proofs.SlotLaws as laws
use Rattle.state_transfer.proofs.holders.Holders.tick.Goals as goal

pub returns : goal.returns
returns c =
    let slots = c.self.inside.slots.items in
    let more = c.tick_all.new.slots.items in
    (λ i. record { nodes = laws.nodes_all_ticked slots more c.args.clock c.tick_all.ensures i; clock = c.args.clock; cells = laws.held_all_ticked slots more c.args.clock c.tick_all.ensures i })
    ∙ ap (λ (x : Holdings). record { nodes = x.nodes; clock = c.args.clock; cells = map.retain_keys x.cells (λ cell. is_fresh c.args.clock (map.get x.cells cell)) }) c.self.view_is
