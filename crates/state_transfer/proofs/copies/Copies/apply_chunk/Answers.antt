use Rattle.std.proofs.Common.{sym, ap, subst, ◌∙◌}
use Rattle.state_transfer.specs.Calls.{AreSound}
use Rattle.state_transfer.specs.Cells.{Destination}
use Rattle.state_transfer.specs.Chunks.{lands}
use Rattle.state_transfer.specs.Copying.{Stores, Transfers}
use Rattle.state_transfer.specs.Slots.{Holdings}
use Rattle.state_transfer.proofs.SoundLaws.{sound_landed}
use Rattle.state_transfer.proofs.copies.Copies.apply_chunk.Goals as goal

pub invariant_of-self-2 : goal.invariant_of-self-2
invariant_of-self-2 c =
    let h = c.self.inside.holders in
    let at : Destination = record { receiver = c.args.receiver; segment = c.args.segment } in
    subst (λ (p : Holdings × Transfers). AreSound p.0.nodes p.0.clock p.1) (λ i. (sym c.in_ok-land_flying.ensures.ok i, sym c.land.ensures i))
    (sound_landed h.nodes h.clock c.self.inside.transfers at c.self.invariant)

pub returns-clause-ok : goal.returns-clause-ok
unfolding lands
returns-clause-ok c =
    (λ i. let x : Holdings = c.in_ok-land_flying.ensures.ok i in record { nodes = x.nodes; copying = record { clock = x.clock; cells = x.cells; transfers = c.land.ensures i } })
    ∙ ap (λ (x : Stores). record x { copying = lands c.args.receiver c.args.segment x.copying }) c.self.view_is
