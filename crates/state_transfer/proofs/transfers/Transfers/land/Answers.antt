use Rattle.std.proofs.Common.{cond, refl, IsSome, None, sym, subst, ap, ◌∙◌}
use Rattle.state_transfer.specs.Calls.{landing}
use Rattle.state_transfer.specs.Copying.{each_changed}
use Rattle.state_transfer.proofs.TransferTrees.{rows_changed_at, rows_in, rows_unchanged}
use Rattle.state_transfer.proofs.transfers.Transfers.land.Goals as goal

pub returns-in-Some : goal.returns-in-Some
returns-in-Some c =
    let found : IsSome _ = subst IsSome c.in-Some.ensures.value refl in
    let was = c.in-Some.transfer.now in
    rows_changed_at c.self.inside.tree.entries (c.get_mut.follows.lender c.land.new.self).entries c.args.to was c.land.new.self (landing c.args.to)
    (sym c.in-Some.ensures.value) ((c.get_mut.follows.holds c.land.new.self).3 found).0
    (λ yes. (λ i. record was { flying = cond (yes i) None was.flying }) ∙ sym c.land.ensures)
    (λ q no t i. record t { flying = cond (no i) None t.flying })
    ∙ ap (each_changed (landing c.args.to)) c.self.view_is

pub returns : goal.returns
returns c =
    ap (λ m. rows_in m.entries) c.get_mut.follows.holds-at-none
    ∙ rows_unchanged c.self.inside.tree.entries c.args.to (landing c.args.to) (sym c.in_default.ensures.value) (λ q no t i. record t { flying = cond (no i) None t.flying })
    ∙ ap (each_changed (landing c.args.to)) c.self.view_is
