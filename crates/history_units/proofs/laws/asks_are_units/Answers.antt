use Rattle.history_units.proofs.AskLaws.{asks_known}
use Rattle.history_units.proofs.laws.asks_are_units.Goals as goal

pub returns : goal.returns
returns c = asks_known
