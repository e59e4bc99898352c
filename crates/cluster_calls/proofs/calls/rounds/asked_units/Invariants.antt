use Rattle.std.proofs.Common.{◌≡◌, map, take}
use Rattle.cluster_model.specs.Calls.{unit_made}
use Rattle.cluster_calls.proofs.calls.rounds.asked_units.Given as goal

abbrev pub invariant-loop-ask : goal.invariant-loop-ask
invariant-loop-ask l = l.units.items ≡ map (unit_made l.number l.id) (take l.ask-index l.asks)
