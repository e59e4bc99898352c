use Rattle.std.proofs.Common.{◌∙◌, ap}
use Rattle.std.proofs.lemmas.Map.Lookups.{exact_unsigned}
use Rattle.std.specs.Cmp.{nat_cmp_total}
use Rattle.std.specs.FinMap as map
use Rattle.grid_journal.proofs.Trees.{tree_insert}
use Rattle.grid_journal.proofs.numbered.Numbered.put.Goals as goal

pub returns : goal.returns
returns g c =
    tree_insert nat_cmp_total exact_unsigned c.self.inside.tree.entries c.insert.new.self.entries c.args.number c.args.thing c.in_ok-insert.ensures.updates.0
    ∙ ap (λ m. map.insert m c.args.number c.args.thing) c.self.view_is
