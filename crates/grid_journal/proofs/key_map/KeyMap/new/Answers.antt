use Rattle.std.proofs.Common.{None, ◌∙◌, ap}
use Rattle.std.proofs.lemmas.Map.Lookups.{exact_bytes}
use Rattle.std.proofs.lemmas.Cmp.{nat_list_cmp_total}
use Rattle.std.specs.FinMap as map
use Rattle.grid_journal.specs.Lasting.{lasting, still_stands}
use Rattle.grid_journal.proofs.Lasting.{empty_kept}
use Rattle.grid_journal.proofs.key_map.KeyMap.new.Goals as goal

pub returns : goal.returns
returns c = ap (λ es. lasting None (map.from_entries es)) c.new.ensures.empty ∙ empty_kept nat_list_cmp_total exact_bytes (still_stands None)
