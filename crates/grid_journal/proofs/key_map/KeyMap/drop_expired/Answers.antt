use Rattle.std.proofs.Common.{Some, ◌∙◌, ap}
use Rattle.std.proofs.lemmas.Map.Lookups.{exact_bytes}
use Rattle.std.proofs.lemmas.Cmp.{nat_list_cmp_total}
use Rattle.std.specs.FinMap as map
use Rattle.grid_event.specs.Maps.{stays}
use Rattle.grid_journal.specs.Lasting.{still_stands}
use Rattle.grid_journal.proofs.Lasting.{twice_kept}
use Rattle.grid_journal.proofs.key_map.KeyMap.drop_expired.Goals as goal

pub returns : goal.returns
returns c =
    twice_kept nat_list_cmp_total exact_bytes (still_stands c.self.inside.reached) (stays c.args.clock) (still_stands (Some c.later.result))
    (λ v. c.later.ensures v.until) (map.from_entries c.self.inside.tree.entries)
    ∙ ap (λ m. map.retain_keys m (λ key. stays c.args.clock (map.get m key))) c.self.view_is
