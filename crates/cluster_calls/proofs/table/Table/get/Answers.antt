use Rattle.std.proofs.Common.{sym, ap, ◌∙◌}
use Rattle.std.specs.FinMap as map_of
use Rattle.cluster_calls.specs.Rows.{Rows}
use Rattle.cluster_calls.proofs.RowTables.{get_rows}
use Rattle.cluster_calls.proofs.table.Table.get.Goals as goal

pub returns : goal.returns
returns c =
    c.get.ensures.value
    ∙ sym (get_rows c.self.inside.rows.entries c.number.result)
    ∙ ap (λ (x : Rows). map_of.get x c.number.result) c.self.view_is
    ∙ ap (map_of.get c.args.self.now) c.number.ensures
