-- What a container is seen as.
use Rattle.std.specs.Prelude.{ℕ, ◌==◌, List, [], ◌∷◌, cond}
use Rattle.std.specs.FinMap as map
use Rattle.grid_base.specs.declared.stamped.Stamped.{Stamped}
use Rattle.container_seg.specs.Places.{Place, place_cmp, key_cmp}

-- the entries that haven't expired, by segment and key
abbrev pub Copies : Type 0
Copies = map.FinMap place_cmp Stamped

-- a node's number, its clock, and its entries
pub record Contents : Type 0 where
  pub node : ℕ
  pub clock : ℕ
  pub entries : Copies

-- the place of a key in a segment
abbrev pub place : ℕ → List ℕ → Place
place s k = record { segment = s; key = k }

-- the entries of one segment, of those in a list
abbrev pub in_segment : ℕ → List (Place × Stamped) → List (List ℕ × Stamped)
in_segment s [] = []
in_segment s (e ∷ es) = cond (e.0.segment == s) ((e.0.key, e.1) ∷ in_segment s es) (in_segment s es)

-- the finite map of one segment
abbrev pub part : Copies → ℕ → map.FinMap key_cmp Stamped
part entries s = map.from_entries (in_segment s (map.entries entries))

-- the entries of one segment, in ascending byte order of keys
unfoldable pub part_entries : Copies → ℕ → List (List ℕ × Stamped)
part_entries entries s = map.entries (part entries s)
