-- No unit before this one waits.
use Rattle.cluster_calls.specs.Calling.{NoneWaits}
use Rattle.cluster_calls.proofs.calls.Calls.first_waiting.Given as goal

abbrev pub invariant-loop-place : goal.invariant-loop-place
invariant-loop-place l = NoneWaits l.self l.place
