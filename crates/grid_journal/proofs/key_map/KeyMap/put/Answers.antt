use Rattle.std.proofs.Common.{◌∙◌, ap}
use Rattle.std.proofs.lemmas.Map.Lookups.{exact_bytes}
use Rattle.std.proofs.lemmas.Cmp.{nat_list_cmp_total}
use Rattle.std.specs.FinMap as map
use Rattle.grid_journal.specs.Lasting.{lasting, still_stands}
use Rattle.grid_journal.proofs.Trees.{tree_insert}
use Rattle.grid_journal.proofs.Lasting.{insert_kept}
use Rattle.grid_journal.proofs.key_map.KeyMap.put.Goals as goal

pub returns : goal.returns
returns c =
    let reached = c.make_way-self-inside.result in
    let before = c.make_way-self-inside.new.tree.entries in
    ap (lasting reached) (tree_insert nat_list_cmp_total exact_bytes before c.insert.new.self.entries c.args.key c.args.stamped c.in_ok-insert.ensures.updates.0)
    ∙ insert_kept nat_list_cmp_total exact_bytes (still_stands reached) (map.from_entries before) c.args.key c.args.stamped c.make_way-self-inside.ensures.lasts
    ∙ ap (λ m. map.insert m c.args.key c.args.stamped) (c.make_way-self-inside.ensures.same ∙ c.self.view_is)
