use Rattle.std.proofs.Common.{◌≡◌, ◌<◌, ◌≤◌, ◌==◌, ◌&&◌, true, not, length, sym, ap, arith, ◌∙◌}
use Rattle.std.specs.FinMap as map
use Rattle.std.specs.FinSet as set
use Rattle.state_transfer.specs.Slots.{Holdings, held, nodes_in}
use Rattle.state_transfer.proofs.SlotLaws as laws
use Rattle.state_transfer.proofs.holders.Holders.leave.Goals as goal

pub returns-then-at-len : goal.returns-then-at-len
returns-then-at-len c =
    let slots = c.self.inside.slots.items in
    let past : length slots ≤ c.args.node = omega arith in
    sym c.self.view_is
    ∙ (λ i. record { nodes = laws.nodes_left_past slots c.args.node past i; clock = c.self.inside.clock; cells = laws.held_kept_past slots c.args.node past (λ _. true) i })
    ∙ ap (λ (x : Holdings). record { nodes = set.remove x.nodes c.args.node; clock = x.clock; cells = map.retain_keys x.cells (λ cell. not ((cell.node == c.args.node) && true)) }) c.self.view_is

pub returns : goal.returns
returns c =
    let slots = c.self.inside.slots.items in
    let at : c.from-at.result ≡ c.args.node = c.from-at.ensures ∙ c.number.ensures in
    let within : c.from-at.result < length slots = omega arith in
    let cells = ap held c.set_in.ensures ∙ laws.held_left slots c.from-at.result within ∙ ap (λ n. map.retain_keys (held slots) (λ cell. not ((cell.node == n) && true))) at in
    let nodes = ap nodes_in c.set_in.ensures ∙ laws.nodes_left slots c.from-at.result within ∙ ap (set.remove (nodes_in slots)) at in
    (λ i. record { nodes = nodes i; clock = c.self.inside.clock; cells = cells i })
    ∙ ap (λ (x : Holdings). record { nodes = set.remove x.nodes c.args.node; clock = x.clock; cells = map.retain_keys x.cells (λ cell. not ((cell.node == c.args.node) && true)) }) c.self.view_is
