-- The calls have the call and the units of the state.
use Rattle.std.proofs.Common.{ap, ◌∙◌}
use Rattle.cluster_model.specs.State.{State}
use Rattle.cluster_core.specs.Parts.{part_of}
use Rattle.cluster_core.proofs.cluster.Core.part.Goals as goal

pub returns : goal.returns
returns c = c.part.ensures ∙ ap (λ (st : State). part_of st c.args.call c.args.segment) c.self.view_is
