use Rattle.std.proofs.Common.{sym, ap, subst, ◌∙◌}
use Rattle.state_transfer.specs.Calls.{AreSound}
use Rattle.state_transfer.specs.Copying.{Stores}
use Rattle.state_transfer.specs.Leaving.{closes}
use Rattle.state_transfer.proofs.SoundLaws.{sound_none}
use Rattle.state_transfer.proofs.copies.Copies.close_all.Goals as goal

pub returns : goal.returns
unfolding closes
returns c =
    let h = c.self.inside.holders in
    (λ i. record { nodes = h.nodes; copying = record { clock = h.clock; cells = h.cells; transfers = c.close.ensures i } })
    ∙ ap (λ (x : Stores). record x { copying = closes x.copying }) c.self.view_is

pub invariant_of-self : goal.invariant_of-self
invariant_of-self c =
    let h = c.self.inside.holders in
    subst (AreSound h.nodes h.clock) (sym c.close.ensures) (sound_none h.nodes h.clock)
