use Rattle.std.proofs.Common.{◌-◌, length}
use Rattle.state_transfer.proofs.copies.Copies.+erase_from.Given as goal

abbrev pub decreases-erase_from : goal.decreases-erase_from
decreases-erase_from l = length l.owners.now - l.from
