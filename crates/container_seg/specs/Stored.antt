-- How the entries of a container lie: one finite map a segment, with those that have expired and aren't freed yet.
use Rattle.std.specs.Prelude.{ℕ, suc, List, [], ◌∷◌, ◌++◌, map, slice_index_or}
use Rattle.std.specs.FinMap as maps
use Rattle.grid_base.specs.declared.stamped.Stamped.{Stamped}
use Rattle.container_seg.specs.Places.{Place, key_cmp}
use Rattle.container_seg.specs.Lifespans.{is_fresh}
use Rattle.container_seg.specs.Contents.{Copies, place}

-- the stored entries of a segment, by key
abbrev pub Part : Type 0
Part = maps.FinMap key_cmp Stamped

-- the part of a segment; a segment that has none yet has no entries
abbrev pub part_at : List Part → ℕ → Part
part_at parts s = slice_index_or parts s maps.empty

-- all stored entries with their places, where the first part is that of segment n
unfoldable pub stored_from : ℕ → List Part → List (Place × Stamped)
stored_from n [] = []
stored_from n (p ∷ parts) = map (λ e. (place n e.0, e.1)) (maps.entries p) ++ stored_from (suc n) parts

-- all stored entries
unfoldable pub stored : List Part → Copies
stored parts = maps.from_entries (stored_from 0 parts)

-- the stored entries that haven't expired
unfoldable pub left_of : ℕ → List Part → Copies
left_of clock parts = maps.retain_keys (stored parts) (λ p. is_fresh clock (maps.get (stored parts) p))
