-- Lists of the nodes that own a segment, and the list of these lists for all segments.
use Rattle.std.specs.Prelude.{ℕ, Bool, true, false, not, ◌==◌, List, [], ◌∷◌, ◌++◌, map, slice_index_or}
use Rattle.std.specs.List.{list_any, filter, range_with_len}
use Rattle.std.specs.FinSet as set
use Rattle.grid_base.specs.Nodes.{Nodes}

-- whether a node is in a list
abbrev pub among : ℕ → List ℕ → Bool
among n nodes = list_any (λ m. m == n) nodes

-- the first list, followed by the members of the second that aren't in the first
unfoldable pub joined : List ℕ → List ℕ → List ℕ
joined first second = first ++ filter (λ n. not (among n first)) second

-- the members that live
abbrev pub pruned : (ℕ → Bool) → List ℕ → List ℕ
pruned lives nodes = filter lives nodes

-- whether there is no node
abbrev pub is_ownerless : List ℕ → Bool
is_ownerless [] = true
is_ownerless (n ∷ nodes) = false

-- the owners of the segments, the first segment first
abbrev pub Hash : Type 0
Hash = List (List ℕ)

-- the owners of a segment; a segment that isn't there has none
abbrev pub owners_at : Hash → ℕ → List ℕ
owners_at hash s = slice_index_or hash s []

-- the hash of so many segments, each with the owners that the function gives it
abbrev pub tabulated : ℕ → (ℕ → List ℕ) → Hash
tabulated segments owners = map owners (range_with_len 0 segments)

-- the nodes of a set, in ascending order
unfoldable pub members : Nodes → List ℕ
members nodes = filter (set.contains nodes) (range_with_len 0 16)
