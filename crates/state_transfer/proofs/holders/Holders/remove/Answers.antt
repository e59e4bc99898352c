use Rattle.std.proofs.Common.{◌≡◌, ◌<◌, ◌≤◌, length, sym, ap, arith, ◌∙◌}
use Rattle.std.specs.FinMap as map
use Rattle.state_transfer.specs.Slots.{Holdings, held, nodes_in}
use Rattle.state_transfer.proofs.SlotLaws as laws
use Rattle.state_transfer.proofs.holders.Holders.remove.Goals as goal

pub returns-then-at-len : goal.returns-then-at-len
returns-then-at-len c =
    let slots = c.self.inside.slots.items in
    let past : length slots ≤ c.args.node = omega arith in
    sym c.self.view_is
    ∙ (λ i. record { nodes = nodes_in slots; clock = c.self.inside.clock; cells = laws.held_remove_past slots c.args.node past c.args.segment c.args.key.now i })
    ∙ ap (λ (x : Holdings). record { nodes = x.nodes; clock = x.clock; cells = map.remove x.cells (record { node = c.args.node; segment = c.args.segment; key = c.args.key.now }) }) c.self.view_is

pub returns : goal.returns
returns c =
    let slots = c.self.inside.slots.items in
    let at : c.from-at.result ≡ c.args.node = c.from-at.ensures ∙ c.number.ensures in
    let within : c.from-at.result < length slots = omega arith in
    let cells = ap held c.remove_in.ensures ∙ laws.held_remove slots c.from-at.result within c.args.segment c.args.key.now
    ∙ ap (λ n. map.remove (held slots) (record { node = n; segment = c.args.segment; key = c.args.key.now })) at in
    (λ i. record { nodes = (ap nodes_in c.remove_in.ensures ∙ laws.nodes_kept slots c.from-at.result within _) i; clock = c.self.inside.clock; cells = cells i })
    ∙ ap (λ (x : Holdings). record { nodes = x.nodes; clock = x.clock; cells = map.remove x.cells (record { node = c.args.node; segment = c.args.segment; key = c.args.key.now }) }) c.self.view_is
