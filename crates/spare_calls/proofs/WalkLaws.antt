-- How walks are of which no batch or one batch flies.
use Rattle.std.proofs.Common.{◌≡◌, ℕ, Bool, true, false, cond, refl, sym, ◌∙◌, ap, None, Some, Option, is_some, nat_cmp}
use Rattle.std.proofs.lemmas.Map.Lookups.{exact_unsigned}
use Rattle.std.specs.Cmp.{nat_cmp_total}
use Rattle.std.specs.FinMap as map
use Rattle.std.specs.Option.{option_map_or}
use Rattle.std.specs.Ordering.{eq_by_cmp}
use Rattle.std.specs.Prelude.{◌==◌}
use Rattle.iterate_batch.specs.Flights.{Flight, Flown}
use Rattle.iterate_batch.specs.Walks.{Walking, IsClear, has_flight}

-- where no batch flies, none of any unit does
pub none_flies : (walk : Walking) (unit : ℕ) → walk.flying ≡ map.empty → has_flight walk unit ≡ false
none_flies walk unit none = ap (λ (m : Flown). is_some (map.get m unit)) none ∙ ap is_some (map.get-empty nat_cmp unit)

-- where no batch flies, none of any segment does
pub none_clear : (walk : Walking) (segment : ℕ) → walk.flying ≡ map.empty → IsClear walk segment
none_clear walk segment none unit =
    let on : Option Flight → Bool = λ found. option_map_or (λ (flight : Flight). flight.segment == segment) found false in
    ap (λ (m : Flown). on (map.get m unit)) none ∙ ap on (map.get-empty nat_cmp unit)

-- where the only batch goes, none flies
pub only_one : (flown : Flown) (unit : ℕ) (flight : Flight) → flown ≡ map.empty → map.remove (map.insert flown unit flight) unit ≡ map.empty
only_one flown unit flight none =
    map.same_map nat_cmp_total exact_unsigned _ _
    (λ q. map.get-remove nat_cmp_total (map.insert flown unit flight) unit q
    ∙ ap (cond (eq_by_cmp nat_cmp q unit) None) (map.get-insert nat_cmp_total flown unit flight q ∙ ap (λ (m : Flown). cond (eq_by_cmp nat_cmp q unit) (Some flight) (map.get m q)) none)
    ∙ gone (eq_by_cmp nat_cmp q unit) (map.get map.empty q) (map.get-empty nat_cmp q))
  where
    gone : (b : Bool) (o : Option Flight) → o ≡ None → cond b None (cond b (Some flight) o) ≡ o
    gone true o e = sym e
    gone false o e = refl
