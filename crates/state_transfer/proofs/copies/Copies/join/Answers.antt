use Rattle.std.proofs.Common.{sym, subst}
use Rattle.state_transfer.specs.Calls.{AreSound}
use Rattle.state_transfer.specs.Slots.{Holdings}
use Rattle.state_transfer.proofs.SlotLaws.{both_ways}
use Rattle.state_transfer.proofs.SoundLaws.{sound_joined}
use Rattle.state_transfer.proofs.copies.Copies.join.Goals as goal

pub invariant_of-self : goal.invariant_of-self
invariant_of-self c =
    let h = c.self.inside.holders in
    let ts = c.self.inside.transfers in
    both_ways (AreSound c.join.new.self.nodes c.join.new.self.clock ts) c.join.result c.join.ensures.ok c.join.ensures.err
    (λ is. subst (λ (x : Holdings). AreSound x.nodes x.clock ts) (sym is) (sound_joined h.nodes h.clock ts c.args.node c.self.invariant))
    (λ is. subst (λ (x : Holdings). AreSound x.nodes x.clock ts) (sym is) c.self.invariant)
