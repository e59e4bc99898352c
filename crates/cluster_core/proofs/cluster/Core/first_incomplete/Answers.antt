-- The calls have the segments of the state.
use Rattle.std.proofs.Common.{ap, ◌∙◌, ◌-◌}
use Rattle.cluster_calls.specs.Calling.{incomplete_from}
use Rattle.cluster_model.specs.Answers.{first_of}
use Rattle.cluster_core.proofs.SegmentRows.{first_seen}
use Rattle.cluster_core.proofs.cluster.Core.first_incomplete.Goals as goal

pub returns : goal.returns
returns c =
    c.incomplete_from.ensures
    ∙ ap (λ s. first_of (incomplete_from s (c.self.inside.calls.segments - s) c.self.inside.calls.units c.args.number)) c.new.ensures
    ∙ first_seen c.self.inside c.args.self.now c.self.invariant c.self.view_is c.args.number
