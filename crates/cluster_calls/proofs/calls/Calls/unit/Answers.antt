use Rattle.std.proofs.Common.{◌≡◌, ◌≤◌, ◌-◌, sym, subst, ap, ◌∙◌, arith}
use Rattle.std.specs.Prelude.{slice_get}
use Rattle.cluster_model.specs.State.{Calling, unit_in}
use Rattle.cluster_calls.proofs.CallsLaws.{IsFoundWithin, found_within, numbers}
use Rattle.cluster_calls.proofs.QueryLaws.{find_unit, find_zero, looked}
use Rattle.cluster_calls.proofs.calls.Calls.unit.Goals as goal

pub returns-then-number-eq0-clause-unit : goal.returns-then-number-eq0-clause-unit
returns-then-number-eq0-clause-unit c =
    let zero : c.args.number ≡ 0 = omega (arith, c.number.ensures) in
    sym (find_zero c.self.inside.units.items (numbers c.self.inside c.self.invariant))
    ∙ ap (unit_in c.self.inside.units.items) (sym zero)
    ∙ ap (λ (x : Calling). unit_in x.units c.args.number) c.self.view_is

pub returns-clause-unit : goal.returns-clause-unit
returns-clause-unit c =
    let units = c.self.inside.units.items in
    let at : slice_get c.as_slice-units.result.now c.place_of.result ≡ slice_get units (c.args.number - 1) = λ i. slice_get (c.as_slice-units.ensures.value i) (c.place_of.ensures i) in
    let some_ : 1 ≤ c.args.number = omega (arith, c.number.ensures, c.if-number-eq0.false) in
    looked c.get.result c.as_slice-units.result.now c.place_of.result (c.get.ensures.lookup.0, c.get.ensures.lookup.1)
    ∙ at
    ∙ sym (find_unit units c.args.number (numbers c.self.inside c.self.invariant) some_)
    ∙ ap (λ (x : Calling). unit_in x.units c.args.number) c.self.view_is

pub returns-then-number-eq0-clause-within : goal.returns-then-number-eq0-clause-within
returns-then-number-eq0-clause-within c = λ unit is. (subst (λ (x : Calling). IsFoundWithin x c.args.number) c.self.view_is (found_within c.self.inside c.self.invariant c.args.number) unit is).0

pub returns-then-number-eq0-clause-called : goal.returns-then-number-eq0-clause-called
returns-then-number-eq0-clause-called c = λ unit is. (subst (λ (x : Calling). IsFoundWithin x c.args.number) c.self.view_is (found_within c.self.inside c.self.invariant c.args.number) unit is).1

pub returns-clause-within : goal.returns-clause-within
returns-clause-within c = λ unit is. (subst (λ (x : Calling). IsFoundWithin x c.args.number) c.self.view_is (found_within c.self.inside c.self.invariant c.args.number) unit is).0

pub returns-clause-called : goal.returns-clause-called
returns-clause-called c = λ unit is. (subst (λ (x : Calling). IsFoundWithin x c.args.number) c.self.view_is (found_within c.self.inside c.self.invariant c.args.number) unit is).1
