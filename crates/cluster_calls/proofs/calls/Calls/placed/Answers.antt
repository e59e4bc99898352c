use Rattle.std.proofs.Common.{◌≡◌, true, is_some, sym, subst, ap, ◌∙◌}
use Rattle.std.specs.Prelude.{slice_get}
use Rattle.cluster_model.specs.State.{Calling, unit_in}
use Rattle.cluster_calls.proofs.CallsLaws.{numbers}
use Rattle.cluster_calls.proofs.PartQueries.{some_one}
use Rattle.cluster_calls.proofs.RightLaws.{there}
use Rattle.cluster_calls.proofs.calls.Calls.placed.Goals as goal

pub returns : goal.returns
returns c =
    let units = c.self.inside.units.items in
    let here : is_some (unit_in units c.args.unit) ≡ true = subst (λ (x : Calling). is_some (unit_in x.units c.args.unit) ≡ true) (sym c.self.view_is) c.requires in
    let h = there units c.args.unit (λ u. true) (numbers c.self.inside c.self.invariant) (some_one (unit_in units c.args.unit) here) in
    subst (λ (x : Calling). slice_get x.units c.place_of.result ≡ unit_in x.units c.args.unit) c.self.view_is
    (ap (slice_get units) c.place_of.ensures ∙ h.at ∙ sym h.found)
