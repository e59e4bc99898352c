use Rattle.std.proofs.Common.{◌∙◌}
use Rattle.cluster_model.specs.State.{unit_in}
use Rattle.cluster_calls.specs.Calling.{may_end}
use Rattle.cluster_calls.proofs.CallsLaws.{one_at}
use Rattle.cluster_calls.proofs.ListLaws.{within_get}
use Rattle.cluster_calls.proofs.PartQueries.{one_some}
use Rattle.cluster_calls.proofs.calls.Calls.end.Goals as goal

pub placed-requires : goal.placed-requires
placed-requires c = one_some may_end (unit_in c.args.self.now.units c.args.unit) c.requires

pub booking-requires : goal.booking-requires
booking-requires c =
    let h = one_at may_end (unit_in c.args.self.now.units c.args.unit) c.requires in
    within_get c.args.self.now.units c.placed.result h.0 (c.placed.ensures ∙ h.1)

pub end_booked-requires-clause-made : goal.end_booked-requires-clause-made
end_booked-requires-clause-made c = λ u g. c.in_ok-made.ensures u (c.placed.ensures ∙ g)
