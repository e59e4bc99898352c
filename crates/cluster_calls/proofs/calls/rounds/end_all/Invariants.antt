use Rattle.std.proofs.Common.{◌≡◌, drop}
use Rattle.cluster_calls.specs.Listed.{without_asked}
use Rattle.cluster_calls.proofs.calls.rounds.end_all.Given as goal

abbrev pub invariant-loop-ask : goal.invariant-loop-ask
invariant-loop-ask l = without_asked l.listeners (drop l.ask-index l.asks) ≡ without_asked l.initial.listeners l.asks
