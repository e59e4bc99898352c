-- The calls have ended the unit.
use Rattle.std.proofs.Common.{ap, ◌∙◌}
use Rattle.cluster_model.specs.State.{State, unit_of}
use Rattle.cluster_calls.specs.Calling.{is_one, may_end}
use Rattle.cluster_core.proofs.UnitReads.{end_may}
use Rattle.cluster_core.proofs.UnitRows.{end_row}
use Rattle.cluster_core.proofs.cluster.Core.end.Goals as goal

pub end-requires : goal.end-requires
end-requires c = ap (λ (st : State). is_one may_end (unit_of st.calling c.args.number)) c.self.view_is ∙ end_may c.args.self.now c.args.number c.requires

pub invariant_of-self-2 : goal.invariant_of-self-2
invariant_of-self-2 c = (end_row c.self.inside c.args.self.now c.end.new.self c.args.number c.self.invariant c.self.view_is c.requires c.in_ok-end.ensures.ok).core

pub returns-clause-ok : goal.returns-clause-ok
returns-clause-ok c = (end_row c.self.inside c.args.self.now c.end.new.self c.args.number c.self.invariant c.self.view_is c.requires c.in_ok-end.ensures.ok).seen
