-- How the index says which units are at a place.
use Rattle.std.specs.Prelude.{◌≡◌, ℕ, Bool, false, List, Option}
use Rattle.std.specs.Borrow.{Bor}
use Rattle.std.specs.BTreeMap.{is_at}
use Rattle.std.specs.BTreeSet.{BTreeSet, contains}
use Rattle.std.specs.Map.{lookup}
use Rattle.std.specs.Option.{option_map_or}
use Rattle.std.specs.Ordering.{nat_cmp}
use Rattle.loss_listener.specs.declared.place.Place.{Place}
use Rattle.loss_listener.specs.Places.{place_cmp}
use Rattle.loss_listener.specs.Registered.{is_place}

-- whether a set, where there is one, has the unit
abbrev pub set_has : Option (BTreeSet ℕ) → ℕ → Bool
set_has units unit = option_map_or (λ units. contains nat_cmp units unit) units false

-- whether a set that was lent, where one was, has the unit
abbrev pub lent_has : Option (Bor (BTreeSet ℕ)) → ℕ → Bool
lent_has units unit = option_map_or (λ (units : Bor (BTreeSet ℕ)). contains nat_cmp units.now unit) units false

-- whether the index has the unit at the place
abbrev pub index_has : List (Place × BTreeSet ℕ) → Place → ℕ → Bool
index_has index place unit = set_has (lookup (is_at (place_cmp place)) index) unit

-- whether the list of the units' places has the unit at the place
abbrev pub list_has : List (ℕ × Place) → Place → ℕ → Bool
list_has units place unit = option_map_or (is_place place.node place.segment) (lookup (is_at (nat_cmp unit)) units) false

-- the index has each unit at its place, and no unit at another one
abbrev pub IsIndexed : List (ℕ × Place) → List (Place × BTreeSet ℕ) → Type 0
IsIndexed units index = (place : Place) (unit : ℕ) → index_has index place unit ≡ list_has units place unit
