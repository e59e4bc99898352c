use Rattle.std.proofs.Common.{◌≡◌, drop, nat_le}
use Rattle.std.specs.List.{list_all}
use Rattle.suspect_retry.specs.Rounds.{closed_at}
use Rattle.cluster_model.specs.State.{Unit}
use Rattle.cluster_calls.proofs.calls.are_closed_by.Given as goal

abbrev pub invariant-loop-unit : goal.invariant-loop-unit
invariant-loop-unit l =
    list_all (λ (unit : Unit). nat_le (closed_at unit.work.state) l.installed) (drop l.unit-index l.units)
    ≡ list_all (λ (unit : Unit). nat_le (closed_at unit.work.state) l.installed) l.units
