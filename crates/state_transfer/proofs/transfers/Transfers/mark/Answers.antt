use Rattle.std.proofs.Common.{◌≡◌, cond, not, refl, IsSome, Some, sym, subst, ap, ◌∙◌}
use Rattle.std.proofs.lemmas.Result.{IfOk-weaker}
use Rattle.std.specs.FinMap as map
use Rattle.std.specs.FinSet as set
use Rattle.state_transfer.specs.Calls.{is_new_to, marks_at}
use Rattle.state_transfer.specs.Copying.{Transfers, each_changed}
use Rattle.state_transfer.proofs.SlotLaws.{on_err_weaker, on_ok_weaker}
use Rattle.state_transfer.proofs.TransferTrees.{get_rows, rows_changed_at, rows_in, rows_restored, rows_unchanged}
use Rattle.state_transfer.proofs.transfers.Transfers.mark.Goals as goal

pub returns-in-Some-clause-marked : goal.returns-in-Some-clause-marked
returns-in-Some-clause-marked c =
    let was = c.in-Some.transfer.now in
    IfOk-weaker c.mark.result (λ marked. marked ≡ not (set.contains was.touched c.args.key)) _
    (λ marked is.
    is
    ∙ ap (is_new_to c.args.key) (c.in-Some.ensures.value ∙ sym (get_rows c.self.inside.tree.entries c.args.to) ∙ ap (λ (x : Transfers). map.get x c.args.to) c.self.view_is))
    c.mark.ensures.marked

pub returns-in-Some-clause-ok : goal.returns-in-Some-clause-ok
returns-in-Some-clause-ok c =
    let found : IsSome _ = subst IsSome c.in-Some.ensures.value refl in
    let was = c.in-Some.transfer.now in
    let key = c.args.key in
    on_ok_weaker c.mark.result
    (λ is.
    rows_changed_at c.self.inside.tree.entries (c.get_mut.follows.lender c.mark.new.self).entries c.args.to was c.mark.new.self (marks_at c.args.to key)
    (sym c.in-Some.ensures.value) ((c.get_mut.follows.holds c.mark.new.self).3 found).0
    (λ yes. (λ i. record was { touched = cond (yes i) (set.insert was.touched key) was.touched }) ∙ sym is)
    (λ q no t i. record t { touched = cond (no i) (set.insert t.touched key) t.touched })
    ∙ ap (each_changed (marks_at c.args.to key)) c.self.view_is)
    c.mark.ensures.ok

pub returns-in-Some-clause-err : goal.returns-in-Some-clause-err
returns-in-Some-clause-err c =
    let found : IsSome _ = subst IsSome c.in-Some.ensures.value refl in
    let was = c.in-Some.transfer.now in
    on_err_weaker c.mark.result
    (λ is.
    rows_restored c.self.inside.tree.entries (c.get_mut.follows.lender c.mark.new.self).entries c.args.to c.mark.new.self
    (sym c.in-Some.ensures.value ∙ ap Some (sym is)) ((c.get_mut.follows.holds c.mark.new.self).3 found).0
    ∙ c.self.view_is)
    c.mark.ensures.err

pub returns-clause-marked : goal.returns-clause-marked
returns-clause-marked c =
    ap (is_new_to c.args.key) (c.in_default.ensures.value ∙ sym (get_rows c.self.inside.tree.entries c.args.to) ∙ ap (λ (x : Transfers). map.get x c.args.to) c.self.view_is)

pub returns-clause-ok : goal.returns-clause-ok
returns-clause-ok c =
    let key = c.args.key in
    ap (λ m. rows_in m.entries) c.get_mut.follows.holds-at-none
    ∙ rows_unchanged c.self.inside.tree.entries c.args.to (marks_at c.args.to key) (sym c.in_default.ensures.value) (λ q no t i. record t { touched = cond (no i) (set.insert t.touched key) t.touched })
    ∙ ap (each_changed (marks_at c.args.to key)) c.self.view_is
