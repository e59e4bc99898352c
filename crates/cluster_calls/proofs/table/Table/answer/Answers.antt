use Rattle.std.proofs.Common.{refl, IsSome, None, subst, ap, ◌∙◌}
use Rattle.cluster_calls.specs.Rows.{changes_row, with_outcome}
use Rattle.cluster_model.specs.State.{Call}
use Rattle.cluster_calls.proofs.RowTables.{rows_changed, rows_in, rows_unchanged}
use Rattle.cluster_calls.proofs.table.Table.answer.Goals as goal

pub returns-in-Some : goal.returns-in-Some
returns-in-Some c =
    let found : IsSome _ = subst IsSome c.in-Some.ensures.value refl in
    let es = c.self.inside.rows.entries in
    let was = c.in-Some.row.now in
    let change = with_outcome c.args.outcome in
    let left = record was { call = c.answer.new.self; parts = None } in
    rows_changed es (c.get_mut.follows.lender left).entries c.number.result change was left c.in-Some.ensures.value
    (ap (λ (call : Call). record was { call = call; parts = None }) c.answer.ensures) ((c.get_mut.follows.holds left).3 found).0
    ∙ ap (λ n. changes_row n change (rows_in es)) c.number.ensures
    ∙ ap (changes_row c.args.number change) c.self.view_is

pub returns : goal.returns
returns c =
    let es = c.self.inside.rows.entries in
    let change = with_outcome c.args.outcome in
    ap (λ m. rows_in m.entries) c.get_mut.follows.holds-at-none
    ∙ rows_unchanged es c.number.result change c.in_default.ensures.value
    ∙ ap (λ n. changes_row n change (rows_in es)) c.number.ensures
    ∙ ap (changes_row c.args.number change) c.self.view_is
