use Rattle.std.proofs.Common.{◌∙◌, ap, sym}
use Rattle.std.proofs.lemmas.Map.Lookups.{exact_unsigned}
use Rattle.std.specs.Cmp.{nat_cmp_total}
use Rattle.std.specs.FinMap as map
use Rattle.grid_journal.proofs.Trees.{entries_tree, filter_all}
use Rattle.grid_journal.proofs.numbered.Numbered.all.Goals as goal

pub returns : goal.returns
returns g c =
    c.range.ensures.between tt
    ∙ (filter_all c.self.inside.tree.entries
    ∙ (sym (entries_tree nat_cmp_total exact_unsigned c.self.inside.tree.entries c.range.ensures.ordered) ∙ ap map.entries c.self.view_is))
