use Rattle.std.proofs.Common.{rules, ap, ◌∙◌}
use Rattle.std.proofs.lemmas.Map.Made.{map_same_pairs}
use Rattle.cluster_calls.specs.Rows.{each_row, notes}
use Rattle.cluster_calls.proofs.RowTables.{rows_mapped}
use Rattle.cluster_calls.proofs.table.Table.note.Goals as goal

pub returns : goal.returns
returns c =
    rows_mapped c.self.inside.rows.entries c.retain.new.self.entries (notes c.args.lost.now)
    (map_same_pairs _ (notes c.args.lost.now) _ (λ k v b w f' t. search rules) c.self.inside.rows.entries c.retain.new.self.entries c.retain.ensures.filtered)
    ∙ ap (each_row (notes c.args.lost.now)) c.self.view_is
