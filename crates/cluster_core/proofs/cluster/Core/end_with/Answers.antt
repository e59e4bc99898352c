-- The calls have ended the unit, of which the piece is booked.
use Rattle.std.proofs.Common.{ap, ◌∙◌}
use Rattle.cluster_model.specs.State.{State, unit_of}
use Rattle.cluster_calls.specs.Calling.{is_one, may_end}
use Rattle.cluster_core.specs.Insides.{state_of}
use Rattle.cluster_core.specs.Parts.{piece_of}
use Rattle.cluster_core.proofs.PieceRows.{piece_told}
use Rattle.cluster_core.proofs.UnitReads.{end_may}
use Rattle.cluster_core.proofs.UnitRows.{end_row}
use Rattle.cluster_core.proofs.cluster.Core.end_with.Goals as goal

pub end_with-requires-clause-may : goal.end_with-requires-clause-may
end_with-requires-clause-may c = ap (λ (st : State). is_one may_end (unit_of st.calling c.args.number)) c.self.view_is ∙ end_may c.args.self.now c.args.number c.requires.may

pub end_with-requires-clause-piece : goal.end_with-requires-clause-piece
end_with-requires-clause-piece c =
    piece_told (state_of c.self.inside) c.args.number c.args.piece (ap (λ (st : State). piece_of st c.args.number) c.self.view_is ∙ c.requires.piece)

pub invariant_of-self-2 : goal.invariant_of-self-2
invariant_of-self-2 c = (end_row c.self.inside c.args.self.now c.end_with.new.self c.args.number c.self.invariant c.self.view_is c.requires.may c.in_ok-end_with.ensures.ok).core

pub returns-clause-ok : goal.returns-clause-ok
returns-clause-ok c = (end_row c.self.inside c.args.self.now c.end_with.new.self c.args.number c.self.invariant c.self.view_is c.requires.may c.in_ok-end_with.ensures.ok).seen
