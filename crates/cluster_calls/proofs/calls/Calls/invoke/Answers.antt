use Rattle.std.proofs.Common.{◌≡◌, None, sym, subst, ap, ◌∙◌}
use Rattle.std.specs.FinMap as map_of
use Rattle.std.specs.Ordering.{nat_cmp}
use Rattle.cluster_model.specs.State.{Call, Calling, call_of}
use Rattle.cluster_model.specs.Calls.{new_call}
use Rattle.cluster_calls.specs.Calling.{puts_call}
use Rattle.cluster_calls.specs.Insides.{IsCalls, calling_of}
use Rattle.cluster_calls.specs.Parts.{made_parts}
use Rattle.cluster_calls.specs.Rows.{Rows, calls_in}
use Rattle.cluster_calls.specs.Tallied.{nothing_tallied}
use Rattle.cluster_calls.specs.declared.row.Row.{Row}
use Rattle.cluster_calls.proofs.CallsLaws.{rows_kept}
use Rattle.cluster_calls.proofs.PartRounds.{pieced_invoke}
use Rattle.cluster_calls.proofs.PastLaws.{past_invoke}
use Rattle.cluster_calls.proofs.QueryLaws.{none_mapped}
use Rattle.cluster_calls.proofs.RoundLaws.{after_invoke}
use Rattle.cluster_calls.proofs.RowTables.{calls_in-insert, get-calls_in}
use Rattle.cluster_calls.proofs.calls.Calls.invoke.Goals as goal

pub invariant_of-self-2 : goal.invariant_of-self-2
invariant_of-self-2 c =
    let rows = c.self.inside.table in
    let n = c.args.number in
    let made : Row = record { call = new_call c.args.originator c.args.request; tally = nothing_tallied c.self.inside.segments; parts = made_parts c.self.inside.segments c.args.request } in
    let table : c.insert.new.self ≡ map_of.insert rows n made =
    c.in_ok-insert.ensures.ok ∙ (λ i. map_of.insert rows n (record { call = c.in_ok-call.ensures i; tally = c.in_ok-tally.ensures i; parts = c.in_ok-parts.ensures i })) in
    let absent : map_of.get rows n ≡ None =
    none_mapped (λ (r : Row). r.call) (map_of.get rows n) (sym (get-calls_in rows n) ∙ ap (λ (x : Calling). call_of x n) c.self.view_is ∙ c.requires) in
    subst (λ (t : Rows). IsCalls (record c.self.inside { table = t })) (sym table)
    (rows_kept c.self.inside c.self.invariant (map_of.insert rows n made)
    (after_invoke c.self.inside.segments c.self.inside.units.items rows n c.args.originator c.args.request made.parts c.self.invariant.right absent)
    (pieced_invoke c.self.inside.segments c.self.inside.units.items rows n c.args.originator c.args.request made.tally c.self.invariant.right c.self.invariant.pieced absent)
    (past_invoke c.self.inside.segments c.self.inside.units.items rows c.self.inside.past n made c.self.invariant.right absent c.self.invariant.past))

pub returns-clause-ok : goal.returns-clause-ok
returns-clause-ok c =
    let rows = c.self.inside.table in
    let n = c.args.number in
    let made : Row = record { call = new_call c.args.originator c.args.request; tally = nothing_tallied c.self.inside.segments; parts = made_parts c.self.inside.segments c.args.request } in
    let table : c.insert.new.self ≡ map_of.insert rows n made =
    c.in_ok-insert.ensures.ok ∙ (λ i. map_of.insert rows n (record { call = c.in_ok-call.ensures i; tally = c.in_ok-tally.ensures i; parts = c.in_ok-parts.ensures i })) in
    ap (λ (calls : map_of.FinMap nat_cmp Call). record (calling_of c.self.inside) { calls = calls }) (ap calls_in table ∙ calls_in-insert rows n made)
    ∙ ap (puts_call n (new_call c.args.originator c.args.request)) c.self.view_is
