use Rattle.history_units.proofs.Gone.{gone_dated}
use Rattle.history_units.proofs.laws.gone_is_dated.Goals as goal

pub returns : goal.returns
returns c = gone_dated
