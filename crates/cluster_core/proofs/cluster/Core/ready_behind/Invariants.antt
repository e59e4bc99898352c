-- No unit before this one is ready with a number above the one given.
use Rattle.std.proofs.Common.{◌≡◌, drop, find}
use Rattle.cluster_core.specs.Parts.{is_ready_behind}
use Rattle.cluster_core.proofs.cluster.Core.ready_behind.Given as goal

abbrev pub invariant-loop-unit : goal.invariant-loop-unit
invariant-loop-unit l = find (is_ready_behind l.self l.node l.number) (drop l.unit-index l.units) ≡ find (is_ready_behind l.self l.node l.number) l.self.calling.units
