use Rattle.std.proofs.Common.{refl, IsSome, sym, subst, ap, ◌∙◌}
use Rattle.std.proofs.lemmas.Result.{on_err_weaker, on_ok_weaker}
use Rattle.std.specs.FinMap as map_of
use Rattle.cluster_model.specs.State.{Call}
use Rattle.cluster_calls.specs.Rows.{Rows, changes_row, with_row_taken}
use Rattle.cluster_calls.proofs.RowTables.{get_rows, rows_changed, rows_in, rows_restored, rows_unchanged}
use Rattle.cluster_calls.proofs.table.Table.take.Goals as goal

pub returns-in-Some-clause-ok : goal.returns-in-Some-clause-ok
returns-in-Some-clause-ok c =
    let found : IsSome _ = subst IsSome c.in-Some.ensures.value refl in
    let es = c.self.inside.rows.entries in
    let was = c.in-Some.row.now in
    let change = with_row_taken c.args.segment c.args.entries.now c.args.given in
    let left = record was { call = c.take.new.self } in
    on_ok_weaker c.take.result
    (λ is.
    rows_changed es (c.get_mut.follows.lender left).entries c.number.result change was left c.in-Some.ensures.value
    (ap (λ (call : Call). record was { call = call }) is) ((c.get_mut.follows.holds left).3 found).0
    ∙ ap (λ n. changes_row n change (rows_in es)) c.number.ensures
    ∙ ap (changes_row c.args.number change) c.self.view_is)
    c.take.ensures.ok

pub returns-in-Some-clause-err : goal.returns-in-Some-clause-err
returns-in-Some-clause-err c =
    let found : IsSome _ = subst IsSome c.in-Some.ensures.value refl in
    let es = c.self.inside.rows.entries in
    let was = c.in-Some.row.now in
    let left = record was { call = c.take.new.self } in
    on_err_weaker c.take.result
    (λ is.
    rows_restored es (c.get_mut.follows.lender left).entries c.number.result was left c.in-Some.ensures.value
    (ap (λ (call : Call). record was { call = call }) is) ((c.get_mut.follows.holds left).3 found).0
    ∙ c.self.view_is)
    c.take.ensures.err

pub returns-clause-ok : goal.returns-clause-ok
returns-clause-ok c =
    let es = c.self.inside.rows.entries in
    let change = with_row_taken c.args.segment c.args.entries.now c.args.given in
    ap (λ m. rows_in m.entries) c.get_mut.follows.holds-at-none
    ∙ rows_unchanged es c.number.result change c.in_default.ensures.value
    ∙ ap (λ n. changes_row n change (rows_in es)) c.number.ensures
    ∙ ap (changes_row c.args.number change) c.self.view_is

pub take-requires : goal.take-requires
take-requires c =
    c.requires c.in-Some.row.now
    (sym (c.in-Some.ensures.value ∙ sym (get_rows c.self.inside.rows.entries c.number.result) ∙ ap (λ (x : Rows). map_of.get x c.number.result) c.self.view_is ∙ ap (map_of.get c.args.self.now) c.number.ensures))
