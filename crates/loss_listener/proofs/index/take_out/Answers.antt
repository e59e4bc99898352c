use Rattle.std.proofs.Common.{ap, refl, IsSome, subst}
use Rattle.loss_listener.specs.Index.{set_has}
use Rattle.loss_listener.proofs.IndexLaws.{index_has-taken}
use Rattle.loss_listener.proofs.index.take_out.Goals as goal

pub returns-in-Some : goal.returns-in-Some
returns-in-Some c =
    let found : IsSome _ = subst IsSome c.in-Some.ensures.value refl in
    index_has-taken c.args.index.now.entries (c.get_mut.follows.lender c.remove.new.self).entries c.args.place c.args.unit c.in-Some.units.now c.remove.new.self
    ((c.get_mut.follows.holds c.remove.new.self).3 found).0
    (λ u. ap (λ o. set_has o u) c.in-Some.ensures.value)
    c.remove.ensures.updates.0
