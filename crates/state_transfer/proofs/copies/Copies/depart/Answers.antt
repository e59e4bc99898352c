use Rattle.std.proofs.Common.{true, sym, ap, subst, ◌∙◌}
use Rattle.std.specs.FinSet as set
use Rattle.state_transfer.specs.Calls.{AreSound}
use Rattle.state_transfer.specs.Copying.{Stores, transfer_to}
use Rattle.state_transfer.specs.Leaving.{drops}
use Rattle.state_transfer.specs.Slots.{Holdings}
use Rattle.state_transfer.proofs.SoundLaws.{sound_departed}
use Rattle.state_transfer.proofs.copies.Copies.depart.Goals as goal

pub returns : goal.returns
unfolding drops
returns c =
    (λ i. let h : Holdings = c.leave.ensures i in record { nodes = h.nodes; copying = record { clock = h.clock; cells = h.cells; transfers = c.self.inside.transfers } })
    ∙ ap (λ (x : Stores). record { nodes = set.remove x.nodes c.args.node; copying = drops c.args.node (λ _. true) x.copying }) c.self.view_is

pub invariant_of-self : goal.invariant_of-self
invariant_of-self c =
    let h = c.self.inside.holders in
    let ts = c.self.inside.transfers in
    subst (λ (x : Holdings). AreSound x.nodes x.clock ts) (sym c.leave.ensures)
    (sound_departed h.nodes h.clock ts c.args.node (λ s. ap (λ (x : Stores). transfer_to x.copying.transfers c.args.node s) c.self.view_is ∙ c.requires.no_receiver s) c.self.invariant)
