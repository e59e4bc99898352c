-- Each unit of a core is found by its own number.
use Rattle.std.proofs.Common.{◌≡◌, ℕ, zero, suc, ◌+◌, ◌-◌, ◌==◌, true, List, [], ◌∷◌, Some, ap, subst, ◌∙◌, arith}
use Rattle.std.proofs.lemmas.Bool.{eqb-true}
use Rattle.std.specs.List.{AllByRecursion}
use Rattle.std.specs.Prelude.{slice_get}
use Rattle.grid_event.specs.Configs.{is_config}
use Rattle.grid_event.specs.declared.config.Config.{Config}
use Rattle.cluster_model.specs.Commands.{newest_unit}
use Rattle.cluster_model.specs.State.{State, Unit, is_on, unit_in, unit_of}
use Rattle.cluster_laws.proofs.Numbers.{NumberedFrom}
use Rattle.cluster_laws.proofs.units.StageRuns.{always_traced}
use Rattle.cluster_core.specs.Runs.{IsReached}
use Rattle.cluster_calls.specs.Calling.{AreNumbered}
use Rattle.cluster_calls.proofs.ListLaws.{find_place, not_some, same_some}
use Rattle.cluster_calls.proofs.QueryLaws.{find_unit, found_behind}
use Rattle.cluster_core.specs.Insides.{IsCore, state_of}
use Rattle.cluster_core.specs.declared.cluster.Core.TheInside.{Inside}

-- in a numbered list each unit is found by its own number
pub found_by_number : (units : List Unit) (i : ℕ) (unit : Unit) → AreNumbered units → slice_get units i ≡ Some unit → unit_in units unit.work.id ≡ Some unit
found_by_number units i unit numbers at =
    let id = numbers i unit at in
    let place : unit.work.id - 1 ≡ i = omega (arith, id) in
    find_unit units unit.work.id numbers (omega (arith, id)) ∙ ap (slice_get units) place ∙ at

-- what holds of each element holds of the one at a place
pub each_at : {A : Type 0} (P : A → Type 0) (xs : List A) (i : ℕ) (x : A) → AllByRecursion P xs → slice_get xs i ≡ Some x → P x
each_at P [] i x all at = not_some x at
each_at P (y ∷ ys) zero x all at = subst P (same_some y x at) all.0
each_at P (y ∷ ys) (suc i) x all at = each_at P ys i x all.1 at

-- at each place stands the unit of that number
number_at : (n : ℕ) (units : List Unit) (i : ℕ) (unit : Unit) → NumberedFrom n units → slice_get units i ≡ Some unit → unit.work.id ≡ n + i
number_at n [] i unit all at = not_some unit at
number_at n (u ∷ units) zero unit all at = let same = ap (λ (x : Unit). x.work.id) (same_some u unit at) in omega (arith, all.0, same)
number_at n (u ∷ units) (suc i) unit all at = let rest = number_at (suc n) units i unit all.1 at in omega (arith, rest)

-- in every cluster that a run leads to, units stand in the order of their numbers
pub units_numbered : (config : Config) (st : State) → is_config config ≡ true → IsReached config st → AreNumbered st.calling.units
units_numbered config st good h i unit at =
    let all : NumberedFrom 1 st.calling.units =
    subst (λ (s : State). NumberedFrom 1 s.calling.units) h.reaches (always_traced config h.events good h.is_run).units.numbered in
    let id = number_at 1 st.calling.units i unit all at in
    omega (arith, id)

-- the units of a core stand in the order of their numbers
pub core_numbered : (fields : Inside) (st : State) → IsCore fields → state_of fields ≡ st → AreNumbered st.calling.units
core_numbered fields st h view =
    subst (λ (s : State). AreNumbered s.calling.units) view (units_numbered fields.store.config (state_of fields) h.limits h.reached)

-- a unit that is found is found by its own number
pub found_itself : (st : State) (number : ℕ) (unit : Unit) → unit_of st.calling number ≡ Some unit → unit_of st.calling unit.work.id ≡ Some unit
found_itself st number unit is =
    let place = find_place (λ (u : Unit). u.work.id == number) st.calling.units unit is in
    ap (unit_of st.calling) (eqb-true unit.work.id number place.2) ∙ is

-- and so is the newest one of a call on a segment
pub newest_there : (fields : Inside) (st : State) (call segment : ℕ) (unit : Unit) → IsCore fields → state_of fields ≡ st → newest_unit st.calling call segment ≡ Some unit → unit_of st.calling unit.work.id ≡ Some unit
newest_there fields st call segment unit h view is =
    let place = found_behind (is_on call segment) st.calling.units unit is in
    found_by_number st.calling.units place.0 unit (core_numbered fields st h view) place.1
