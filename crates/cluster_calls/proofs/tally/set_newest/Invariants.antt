use Rattle.std.proofs.Common.{◌≡◌, drop}
use Rattle.cluster_calls.specs.Tallied.{with_newest}
use Rattle.cluster_calls.proofs.tally.set_newest.Given as goal

abbrev pub invariant-loop-ask : goal.invariant-loop-ask
invariant-loop-ask l = with_newest l.newest (drop l.ask-index l.asks) ≡ with_newest l.initial.newest l.asks
