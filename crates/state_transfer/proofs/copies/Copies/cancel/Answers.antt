use Rattle.std.proofs.Common.{◌==◌, not, sym, ap, subst, ◌∙◌}
use Rattle.state_transfer.specs.Calls.{AreSound}
use Rattle.state_transfer.specs.Copying.{Stores}
use Rattle.state_transfer.specs.Leaving.{cancels}
use Rattle.state_transfer.specs.Cells.{Destination}
use Rattle.state_transfer.proofs.CellLaws.{exact_destinations}
use Rattle.state_transfer.proofs.SoundLaws.{sound_kept}
use Rattle.state_transfer.proofs.copies.Copies.cancel.Goals as goal

pub returns : goal.returns
unfolding cancels
returns c =
    let h = c.self.inside.holders in
    (λ i. record { nodes = h.nodes; copying = record { clock = h.clock; cells = h.cells; transfers = c.cancel.ensures i } })
    ∙ ap (λ (x : Stores). record x { copying = cancels c.args.receiver x.copying }) c.self.view_is

pub invariant_of-self : goal.invariant_of-self
invariant_of-self c =
    let h = c.self.inside.holders in
    subst (AreSound h.nodes h.clock) (sym c.cancel.ensures)
    (sound_kept h.nodes h.clock c.self.inside.transfers (λ to. not (to.receiver == c.args.receiver)) (λ to x e. ap (λ (d : Destination). not (d.receiver == c.args.receiver)) (sym (exact_destinations to x e))) c.self.invariant)
