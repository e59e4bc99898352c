use Rattle.std.proofs.Common.{cond, refl, IsSome, sym, subst, ap, ◌∙◌}
use Rattle.std.specs.FinSet as set
use Rattle.state_transfer.specs.Calls.{unmarks_at}
use Rattle.state_transfer.specs.Copying.{each_changed}
use Rattle.state_transfer.proofs.TransferTrees.{rows_changed_at, rows_in, rows_unchanged}
use Rattle.state_transfer.proofs.transfers.Transfers.unmark.Goals as goal

pub returns-in-Some : goal.returns-in-Some
returns-in-Some c =
    let found : IsSome _ = subst IsSome c.in-Some.ensures.value refl in
    let was = c.in-Some.transfer.now in
    let key = c.args.key.now in
    rows_changed_at c.self.inside.tree.entries (c.get_mut.follows.lender c.unmark.new.self).entries c.args.to was c.unmark.new.self (unmarks_at c.args.to key)
    (sym c.in-Some.ensures.value) ((c.get_mut.follows.holds c.unmark.new.self).3 found).0
    (λ yes. (λ i. record was { touched = cond (yes i) (set.remove was.touched key) was.touched }) ∙ sym c.unmark.ensures)
    (λ q no t i. record t { touched = cond (no i) (set.remove t.touched key) t.touched })
    ∙ ap (each_changed (unmarks_at c.args.to key)) c.self.view_is

pub returns : goal.returns
returns c =
    let key = c.args.key.now in
    ap (λ m. rows_in m.entries) c.get_mut.follows.holds-at-none
    ∙ rows_unchanged c.self.inside.tree.entries c.args.to (unmarks_at c.args.to key) (sym c.in_default.ensures.value) (λ q no t i. record t { touched = cond (no i) (set.remove t.touched key) t.touched })
    ∙ ap (each_changed (unmarks_at c.args.to key)) c.self.view_is
