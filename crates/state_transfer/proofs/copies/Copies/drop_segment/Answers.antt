use Rattle.std.proofs.Common.{◌==◌, ap, ◌∙◌}
use Rattle.state_transfer.specs.Copying.{Stores}
use Rattle.state_transfer.specs.Leaving.{drops}
use Rattle.state_transfer.specs.Slots.{Holdings}
use Rattle.state_transfer.proofs.copies.Copies.drop_segment.Goals as goal

pub returns : goal.returns
unfolding drops
returns c =
    (λ i. let h : Holdings = c.drop_segment.ensures i in record { nodes = h.nodes; copying = record { clock = h.clock; cells = h.cells; transfers = c.self.inside.transfers } })
    ∙ ap (λ (x : Stores). record x { copying = drops c.args.node (λ s. s == c.args.segment) x.copying }) c.self.view_is
