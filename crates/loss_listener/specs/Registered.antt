-- Which units are registered, and where.
use Rattle.std.specs.Prelude.{ℕ, Bool, false, ◌&&◌, ◌==◌}
use Rattle.std.specs.FinMap as map
use Rattle.std.specs.FinSet as set
use Rattle.std.specs.Option.{option_map_or}
use Rattle.std.specs.Ordering.{nat_cmp}
use Rattle.loss_listener.specs.declared.place.Place.{Place}

-- the registered units, each with its place
abbrev pub Registered : Type 0
Registered = map.FinMap nat_cmp Place

-- whether the place is the one of that node and that segment
abbrev pub is_place : ℕ → ℕ → Place → Bool
is_place node segment place = (node == place.node) && (segment == place.segment)

-- whether the unit is registered at the node on the segment
abbrev pub is_registered : Registered → ℕ → ℕ → ℕ → Bool
is_registered units node segment unit = option_map_or (is_place node segment) (map.get units unit) false

-- whether the unit is registered at the node on one of the segments
abbrev pub is_lost : Registered → ℕ → set.FinSet nat_cmp → ℕ → Bool
is_lost units node segments unit = option_map_or (λ place. (node == place.node) && set.contains segments place.segment) (map.get units unit) false
