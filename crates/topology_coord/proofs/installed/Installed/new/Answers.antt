use Rattle.std.proofs.Common.{refl}
use Rattle.topology_coord.specs.Slots.{slots_from}
use Rattle.topology_coord.proofs.installed.Installed.new.Goals as goal

pub returns : goal.returns
unfolding slots_from
returns c = refl
