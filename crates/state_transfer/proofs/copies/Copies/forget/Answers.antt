use Rattle.std.proofs.Common.{◌==◌, not, sym, ap, subst, ◌∙◌}
use Rattle.state_transfer.specs.Calls.{AreSound}
use Rattle.state_transfer.specs.Cells.{Destination}
use Rattle.state_transfer.specs.Copying.{Stores, Transfers}
use Rattle.state_transfer.specs.Leaving.{forgets}
use Rattle.state_transfer.specs.Slots.{Holdings}
use Rattle.state_transfer.proofs.CellLaws.{exact_destinations}
use Rattle.state_transfer.proofs.SoundLaws.{sound_kept}
use Rattle.state_transfer.proofs.copies.Copies.forget.Goals as goal

pub returns : goal.returns
unfolding forgets
returns c =
    (λ i. let h : Holdings = c.forget.ensures i in record { nodes = h.nodes; copying = record { clock = h.clock; cells = h.cells; transfers = c.forget-2.ensures i } })
    ∙ ap (λ (x : Stores). record x { copying = forgets (λ s. s == c.args.segment) x.copying }) c.self.view_is

pub invariant_of-self : goal.invariant_of-self
invariant_of-self c =
    let h = c.self.inside.holders in
    subst (λ (p : Holdings × Transfers). AreSound p.0.nodes p.0.clock p.1) (λ i. (sym c.forget.ensures i, sym c.forget-2.ensures i))
    (sound_kept h.nodes h.clock c.self.inside.transfers (λ to. not (to.segment == c.args.segment)) (λ to x e. ap (λ (d : Destination). not (d.segment == c.args.segment)) (sym (exact_destinations to x e))) c.self.invariant)
