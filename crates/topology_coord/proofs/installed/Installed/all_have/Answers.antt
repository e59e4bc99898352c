use Rattle.std.proofs.Common.{◌==◌, ◌||◌, ap, ◌∙◌}
use Rattle.std.specs.List.{list_all}
use Rattle.topology_coord.proofs.Slots.{all_slots}
use Rattle.topology_coord.proofs.installed.Installed.all_have.Goals as goal

pub returns : goal.returns
returns c =
    c.all_are.ensures
    ∙ ap (λ id. list_all (λ has. (has == 0) || (has == id)) c.self.inside.ids) c.number.ensures
    ∙ all_slots c.args.id c.self.inside.ids c.args.self.now c.self.view_is
