use Rattle.std.proofs.Common.{ℕ, List, not, ◌∙◌, ap, rules}
use Rattle.std.proofs.lemmas.Map.Lookups.{exact_bytes}
use Rattle.std.proofs.lemmas.Map.Made.{filter_same_pairs}
use Rattle.std.proofs.lemmas.Cmp.{nat_list_cmp_total}
use Rattle.std.specs.FinMap as map
use Rattle.grid_journal.specs.Lasting.{lasting, still_stands}
use Rattle.grid_journal.specs.Standing.{loses_key}
use Rattle.grid_journal.proofs.Trees.{tree_keys}
use Rattle.grid_journal.proofs.Lasting.{retain_kept}
use Rattle.grid_journal.proofs.key_map.KeyMap.drop_lost.Goals as goal

pub returns : goal.returns
returns c =
    let keep = λ (key : List ℕ). not (loses_key c.args.membership.now c.args.node key) in
    let kept = filter_same_pairs _ (λ e. keep e.0) _ (λ k v b w f' t. search rules) _ _ c.retain.ensures.filtered in
    let before = c.self.inside.tree.entries in
    ap (lasting c.self.inside.reached) (tree_keys nat_list_cmp_total exact_bytes before c.retain.new.self.entries keep kept)
    ∙ retain_kept nat_list_cmp_total exact_bytes (still_stands c.self.inside.reached) (map.from_entries before) keep
    ∙ ap (λ m. map.retain_keys m keep) c.self.view_is
