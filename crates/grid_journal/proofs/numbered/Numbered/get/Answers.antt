use Rattle.std.proofs.Common.{◌∙◌, ap, sym}
use Rattle.std.proofs.lemmas.Map.Lookups.{exact_unsigned}
use Rattle.std.specs.Cmp.{nat_cmp_total}
use Rattle.std.specs.FinMap as map
use Rattle.grid_journal.proofs.Trees.{get_tree}
use Rattle.grid_journal.proofs.numbered.Numbered.get.Goals as goal

pub returns : goal.returns
returns g c = c.get.ensures.value ∙ sym (get_tree nat_cmp_total exact_unsigned c.self.inside.tree.entries c.args.number) ∙ ap (λ m. map.get m c.args.number) c.self.view_is
