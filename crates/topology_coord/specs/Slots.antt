-- How the numbers of installed topologies lie in sixteen places: 0, which is no topology, where the node isn't live.
use Rattle.std.specs.Prelude.{◌≡◌, ℕ, suc, ◌==◌, cond, List, [], ◌∷◌, length}
use Rattle.std.specs.FinMap as map_of
use Rattle.std.specs.Ordering.{nat_cmp}
use Rattle.topology_coord.specs.declared.installed.Installed.TheInside.{Inside}

-- the nodes whose place isn't 0 with what stands there, where the first place is that of node n
unfoldable pub slots_from : ℕ → List ℕ → map_of.FinMap nat_cmp ℕ
slots_from n [] = map_of.empty
slots_from n (id ∷ ids) = cond (id == 0) (slots_from (suc n) ids) (map_of.insert (slots_from (suc n) ids) n id)

-- there is a place for each of sixteen nodes
abbrev pub HasSlots : Inside → Type 0
HasSlots a = length a.ids ≡ 16

-- the live nodes with the numbers of their topologies
abbrev pub installed_in : Inside → map_of.FinMap nat_cmp ℕ
installed_in a = slots_from 0 a.ids
