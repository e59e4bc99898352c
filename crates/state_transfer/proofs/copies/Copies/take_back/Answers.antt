use Rattle.std.proofs.Common.{sym, subst}
use Rattle.state_transfer.specs.Calls.{AreSound}
use Rattle.state_transfer.specs.Cells.{Destination}
use Rattle.state_transfer.specs.Copying.{Transfers}
use Rattle.state_transfer.specs.Slots.{Holdings}
use Rattle.state_transfer.proofs.SoundLaws.{sound_restored}
use Rattle.state_transfer.proofs.copies.Copies.take_back.Goals as goal

pub invariant_of-self : goal.invariant_of-self
invariant_of-self c =
    let h = c.self.inside.holders in
    let at : Destination = record { receiver = c.args.node; segment = c.args.segment } in
    subst (λ (p : Holdings × Transfers). AreSound p.0.nodes p.0.clock p.1) (λ i. (sym c.restore.ensures i, sym c.restore-2.ensures i))
    (sound_restored h.nodes h.clock c.self.inside.transfers at c.args.key.now c.args.before.marked c.self.invariant)
