use Rattle.std.proofs.Common.{Some, refl, sym, subst, ap, ◌∙◌}
use Rattle.std.specs.FinMap as map_of
use Rattle.cluster_model.specs.State.{Call}
use Rattle.cluster_calls.specs.Calling.{changes_call}
use Rattle.std.specs.Ordering.{nat_cmp}
use Rattle.cluster_calls.specs.Insides.{IsCalls, calling_of}
use Rattle.cluster_calls.specs.Rows.{Rows, calls_in, changes_row, with_outcome}
use Rattle.cluster_calls.proofs.CallsLaws.{rows_kept}
use Rattle.cluster_calls.proofs.PartLaws.{pieced_call}
use Rattle.cluster_calls.proofs.PastLaws.{past_row}
use Rattle.cluster_calls.proofs.RightLaws.{after_call}
use Rattle.cluster_calls.proofs.RowTables.{calls_in-changed}
use Rattle.cluster_calls.proofs.calls.Calls.answer.Goals as goal

pub invariant_of-self : goal.invariant_of-self
invariant_of-self c =
    let change = with_outcome c.args.outcome in
    subst (λ (t : Rows). IsCalls (record c.self.inside { table = t })) (sym c.answer.ensures)
    (rows_kept c.self.inside c.self.invariant (changes_row c.args.number change c.self.inside.table)
    (after_call c.self.inside.segments c.self.inside.units.items c.self.inside.table c.args.number change (λ row. refl) (λ row. refl) c.self.invariant.right)
    (pieced_call c.self.inside.segments c.self.inside.units.items c.self.inside.table c.args.number change c.self.invariant.pieced (λ row has. refl))
    (past_row c.self.inside.units.items c.self.inside.table c.self.inside.past c.args.number change (λ row over. refl) c.self.invariant.past))

pub returns : goal.returns
returns c =
    c.move_on.ensures
    ∙ ap (λ (calls : map_of.FinMap nat_cmp Call). record (calling_of c.self.inside) { calls = calls })
    (ap calls_in c.answer.ensures ∙ calls_in-changed c.self.inside.table c.args.number (with_outcome c.args.outcome) (λ call. record call { outcome = Some c.args.outcome }) (λ row. refl))
    ∙ ap (changes_call c.args.number (λ call. record call { outcome = Some c.args.outcome })) c.self.view_is
