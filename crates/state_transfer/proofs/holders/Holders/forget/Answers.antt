use Rattle.std.proofs.Common.{◌==◌, not, ap, ◌∙◌}
use Rattle.std.specs.FinMap as map
use Rattle.state_transfer.specs.Slots.{Holdings}
use Rattle.state_transfer.proofs.SlotLaws as laws
use Rattle.state_transfer.proofs.holders.Holders.forget.Goals as goal

pub returns : goal.returns
returns c =
    let slots = c.self.inside.slots.items in
    let more = c.clear_all.new.slots.items in
    (λ i. record { nodes = laws.nodes_all_cleared slots more c.args.segment c.clear_all.ensures i; clock = c.self.inside.clock; cells = laws.held_all_cleared slots more c.args.segment c.clear_all.ensures i })
    ∙ ap (λ (x : Holdings). record { nodes = x.nodes; clock = x.clock; cells = map.retain_keys x.cells (λ cell. not (cell.segment == c.args.segment)) }) c.self.view_is
