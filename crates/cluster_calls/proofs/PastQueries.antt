-- The units of which none waits, in the questions.
use Rattle.std.proofs.Common.{◌≡◌, ℕ, ◌+◌, ◌-◌, ◌<◌, Bool, true, false, ◌&&◌, ◌==◌, List, take, drop, Option, Some, None, refl, sym, ap, ◌∙◌, arith}
use Rattle.std.proofs.lemmas.Bool.Decides.{nat_tests}
use Rattle.std.specs.FinMap as map_of
use Rattle.std.specs.Option.{option_map}
use Rattle.std.specs.Prelude.{slice_get}
use Rattle.cluster_model.specs.Commands.{is_unanswered}
use Rattle.cluster_model.specs.State.{Call, Calling, Unit, call_of, is_open_unit}
use Rattle.cluster_calls.specs.Calling.{NoneWaits, is_waiting, round_units}
use Rattle.cluster_calls.specs.Insides.{IsCalls, calling_of}
use Rattle.cluster_calls.specs.declared.calls.Calls.TheInside.{Inside}
use Rattle.cluster_calls.specs.declared.row.Row.{Row}
use Rattle.cluster_calls.proofs.CallsLaws.{numbers}
use Rattle.cluster_calls.proofs.ListLaws.{same_some}
use Rattle.cluster_calls.proofs.PastLaws.{none_waits}
use Rattle.cluster_calls.proofs.RoundQueries.{get-stretch, kept_is, round_stretch}
use Rattle.cluster_calls.proofs.RowTables.{equal, get-calls_in}

-- none waits as far as one more unit that doesn't
pub none_more : (x : Calling) (place : ℕ) (v : Unit) → NoneWaits x place → slice_get x.units place ≡ Some v → is_waiting x v ≡ false → NoneWaits x (place + 1)
none_more x place v before at closed i u here low =
    elim (i == place) as (λ b. (i == place) ≡ b → is_waiting x u ≡ false) [
      | true ↦ λ tie. ap (is_waiting x) (same_some u v (sym here ∙ ap (slice_get x.units) (equal i place tie) ∙ at)) ∙ closed
      | false ↦ λ apart. before i u here (grind (arith, nat_tests))
    ] refl

-- a call that isn't answered is there
unanswered_row : (o : Option Row) → is_unanswered (option_map (λ (r : Row). r.call) o) ≡ true → (row : Row) × (o ≡ Some row)
unanswered_row None h = absurd (cc)
unanswered_row (Some row) h = (row, refl)

-- a unit that doesn't wait, and whose call isn't answered, is closed
closed_by : (a b : Bool) → (a && b) ≡ false → b ≡ true → a ≡ false
closed_by true b h g = absurd (let w = sym g ∙ h in cc)
closed_by false b h g = refl

-- a unit of the last round of a call that isn't answered is closed where it is passed over
pub round_past : (fields : Inside) → IsCalls fields → (number : ℕ) (round : List Unit) (first : Unit) → is_unanswered (call_of (calling_of fields) number) ≡ true
    → ((call : Call) → call_of (calling_of fields) number ≡ Some call → round ≡ round_units fields.units.items call) → slice_get round 0 ≡ Some first
    → (i : ℕ) (u : Unit) → slice_get round i ≡ Some u → i < fields.past - (first.work.id - 1) → is_open_unit u ≡ false
round_past fields kept number round first open_ are head i u at low =
    let units = fields.units.items in
    let found = unanswered_row (map_of.get fields.table number) (ap is_unanswered (sym (get-calls_in fields.table number)) ∙ open_) in
    let right = (kept.right.kept number found.0 found.1).round in
    let stretch : round ≡ take right.count (drop (right.start - 1) units) =
    are found.0.call (get-calls_in fields.table number ∙ ap (option_map (λ (r : Row). r.call)) found.1)
    ∙ round_stretch units number found.0.call right.start right.count (numbers fields kept) (kept_is units number found.0.call right.start right.count right right.listed) in
    let front = get-stretch (right.start - 1) right.count units 0 first (sym (ap (λ (us : List Unit). slice_get us 0) stretch) ∙ head) in
    let here = get-stretch (right.start - 1) right.count units i u (sym (ap (λ (us : List Unit). slice_get us i) stretch) ∙ at) in
    let id = numbers fields kept ((right.start - 1) + 0) first front.0 in
    let own = right.own ((right.start - 1) + i) u here.0 (omega (arith, right.positive)) (omega (arith, here.1, right.positive)) in
    closed_by (is_open_unit u) (is_unanswered (call_of (calling_of fields) u.work.call))
    (none_waits fields fields.past kept.past ((right.start - 1) + i) u here.0 (omega (arith, id, low)))
    (ap (λ n. is_unanswered (call_of (calling_of fields) n)) own ∙ open_)
