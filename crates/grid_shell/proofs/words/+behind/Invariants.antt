-- The texts get shorter.
use Rattle.std.proofs.Common.{length}
use Rattle.grid_shell.proofs.words.+behind.Given as goal

abbrev pub decreases-behind : goal.decreases-behind
decreases-behind l = length l.text.now
