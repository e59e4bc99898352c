use Rattle.std.proofs.Common.{None, ◌∙◌, refl, rules}
use Rattle.std.proofs.lemmas.Map.Lookups.{exact_bytes}
use Rattle.std.proofs.lemmas.Map.Made.{filter_same_pairs}
use Rattle.std.proofs.lemmas.Cmp.{nat_list_cmp_total}
use Rattle.std.specs.FinMap as map
use Rattle.grid_base.specs.declared.stamped.Stamped.{Stamped}
use Rattle.grid_journal.specs.Lasting.{lasts, still_stands}
use Rattle.grid_journal.proofs.Trees.{tree_values}
use Rattle.grid_journal.proofs.Lasting.{all_kept}
use Rattle.grid_journal.proofs.key_map.make_way.Goals as goal

pub returns-clause-same : goal.returns-clause-same
returns-clause-same c =
    let keep = λ (v : Stamped). lasts c.args.reached v.until in
    let kept = filter_same_pairs _ (λ e. keep e.1) _ (λ k v b w f' t. search rules) _ _ c.retain.ensures.filtered in
    all_kept nat_list_cmp_total exact_bytes (still_stands None) (λ v. refl) (map.from_entries c.retain.new.self.entries)
    ∙ tree_values nat_list_cmp_total exact_bytes c.args.tree.now.entries c.retain.new.self.entries keep (still_stands c.args.reached) c.retain.ensures.was_ordered refl (λ v. refl) kept
