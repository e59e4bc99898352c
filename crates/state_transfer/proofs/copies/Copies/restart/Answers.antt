use Rattle.std.proofs.Common.{sym, ap, subst, ◌∙◌}
use Rattle.std.specs.FinMap as map
use Rattle.state_transfer.specs.Calls.{AreSound}
use Rattle.state_transfer.specs.Copying.{Stores}
use Rattle.state_transfer.specs.Leaving.{outlives, restarts}
use Rattle.state_transfer.proofs.CellLaws.{destinations_total}
use Rattle.state_transfer.proofs.SoundLaws.{sound_kept}
use Rattle.state_transfer.proofs.copies.Copies.restart.Goals as goal

pub returns : goal.returns
unfolding restarts
returns c =
    let h = c.self.inside.holders in
    (λ i. record { nodes = h.nodes; copying = record { clock = h.clock; cells = h.cells; transfers = c.restart.ensures i } })
    ∙ ap (λ (x : Stores). record x { copying = restarts c.args.provider x.copying }) c.self.view_is

pub invariant_of-self : goal.invariant_of-self
invariant_of-self c =
    let h = c.self.inside.holders in
    let ts = c.self.inside.transfers in
    subst (AreSound h.nodes h.clock) (sym c.restart.ensures)
    (sound_kept h.nodes h.clock ts (λ to. outlives c.args.provider (map.get ts to)) (λ to x e. ap (outlives c.args.provider) (map.get_tied destinations_total ts to x e)) c.self.invariant)
