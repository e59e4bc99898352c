use Rattle.std.proofs.Common.{sym, ap, subst, ◌∙◌}
use Rattle.state_transfer.specs.Calls.{AreSound}
use Rattle.state_transfer.specs.Changes.{ticks}
use Rattle.state_transfer.specs.Copying.{Stores, Transfers}
use Rattle.state_transfer.specs.Slots.{Holdings}
use Rattle.state_transfer.proofs.SoundLaws.{sound_ticked}
use Rattle.state_transfer.proofs.copies.Copies.tick.Goals as goal

pub returns : goal.returns
unfolding ticks
returns c =
    (λ i. let h : Holdings = c.tick.ensures i in record { nodes = h.nodes; copying = record { clock = h.clock; cells = h.cells; transfers = c.tick-2.ensures i } })
    ∙ ap (λ (x : Stores). record x { copying = ticks c.args.clock x.copying }) c.self.view_is

pub invariant_of-self : goal.invariant_of-self
invariant_of-self c =
    let h = c.self.inside.holders in
    subst (λ (p : Holdings × Transfers). AreSound p.0.nodes p.0.clock p.1) (λ i. (sym c.tick.ensures i, sym c.tick-2.ensures i))
    (sound_ticked h.nodes h.clock c.args.clock c.self.inside.transfers c.self.invariant)
