use Rattle.std.proofs.Common.{◌≡◌, ◌++◌}
use Rattle.loss_listener.proofs.listeners.listed.Given as goal

abbrev pub invariant-loop-unit : goal.invariant-loop-unit
invariant-loop-unit l = l.units.list ++ l.unit-iterator ≡ l.found.keys
