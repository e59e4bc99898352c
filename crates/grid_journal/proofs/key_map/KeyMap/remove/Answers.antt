use Rattle.std.proofs.Common.{◌∙◌, ap}
use Rattle.std.proofs.lemmas.Map.Lookups.{exact_bytes}
use Rattle.std.proofs.lemmas.Cmp.{nat_list_cmp_total}
use Rattle.std.specs.FinMap as map
use Rattle.grid_journal.specs.Lasting.{lasting, still_stands}
use Rattle.grid_journal.proofs.Trees.{tree_remove}
use Rattle.grid_journal.proofs.Lasting.{remove_kept}
use Rattle.grid_journal.proofs.key_map.KeyMap.remove.Goals as goal

pub returns : goal.returns
returns c =
    let reached = c.self.inside.reached in
    let before = c.self.inside.tree.entries in
    ap (lasting reached) (tree_remove nat_list_cmp_total exact_bytes before c.remove.new.self.entries c.args.key.now c.remove.ensures.updates.0)
    ∙ remove_kept nat_list_cmp_total exact_bytes (still_stands reached) (map.from_entries before) c.args.key.now
    ∙ ap (λ m. map.remove m c.args.key.now) c.self.view_is
