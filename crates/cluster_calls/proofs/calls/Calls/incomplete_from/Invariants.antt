use Rattle.std.proofs.Common.{◌≡◌, ◌-◌}
use Rattle.cluster_model.specs.Answers.{first_of}
use Rattle.cluster_calls.specs.Calling.{incomplete_from}
use Rattle.cluster_calls.proofs.calls.Calls.incomplete_from.Given as goal

abbrev pub invariant-loop-place : goal.invariant-loop-place
invariant-loop-place l =
    first_of (incomplete_from l.place (l.self.segments - l.place) l.self.units l.number)
    ≡ first_of (incomplete_from l.fn.segment (l.self.segments - l.fn.segment) l.self.units l.number)
