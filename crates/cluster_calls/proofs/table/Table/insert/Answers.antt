use Rattle.std.proofs.Common.{ap, ◌∙◌}
use Rattle.std.specs.FinMap as map_of
use Rattle.cluster_calls.specs.Rows.{Rows}
use Rattle.cluster_calls.proofs.RowTables.{rows_in, rows_insert}
use Rattle.cluster_calls.proofs.table.Table.insert.Goals as goal

pub returns-clause-ok : goal.returns-clause-ok
returns-clause-ok c =
    let es = c.self.inside.rows.entries in
    rows_insert es c.insert.new.self.entries c.number.result c.args.row c.in_ok-insert.ensures.updates.0
    ∙ ap (λ n. map_of.insert (rows_in es) n c.args.row) c.number.ensures
    ∙ ap (λ (x : Rows). map_of.insert x c.args.number c.args.row) c.self.view_is
