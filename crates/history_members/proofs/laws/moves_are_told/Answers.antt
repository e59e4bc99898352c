use Rattle.history_members.proofs.Moves.{moves_told}
use Rattle.history_members.proofs.laws.moves_are_told.Goals as goal

pub returns : goal.returns
returns c = moves_told
