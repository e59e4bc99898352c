use Rattle.std.proofs.Common.{sym, ◌∙◌}
use Rattle.cluster_model.specs.State.{unit_in}
use Rattle.cluster_calls.specs.Calling.{may_end}
use Rattle.cluster_calls.proofs.CallsLaws.{one_at}
use Rattle.cluster_calls.proofs.ListLaws.{within_get}
use Rattle.cluster_calls.proofs.PartQueries.{one_some}
use Rattle.cluster_calls.proofs.calls.Calls.end_with.Goals as goal

pub placed-requires : goal.placed-requires
placed-requires c = one_some may_end (unit_in c.args.self.now.units c.args.unit) c.requires.may

pub booking_with-requires-clause-place : goal.booking_with-requires-clause-place
booking_with-requires-clause-place c =
    let h = one_at may_end (unit_in c.args.self.now.units c.args.unit) c.requires.may in
    within_get c.args.self.now.units c.placed.result h.0 (c.placed.ensures ∙ h.1)

pub booking_with-requires-clause-piece : goal.booking_with-requires-clause-piece
booking_with-requires-clause-piece c = λ u call g called. c.requires.piece u call (sym c.placed.ensures ∙ g) called

pub end_booked-requires-clause-made : goal.end_booked-requires-clause-made
end_booked-requires-clause-made c = λ u g. c.in_ok-made.ensures u (c.placed.ensures ∙ g)
