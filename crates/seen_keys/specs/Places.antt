-- How the keys that have passed lie in one set for each segment.
use Rattle.std.specs.Prelude.{ℕ, suc, Bool, false, List, [], ◌∷◌, Option, Some, None}
use Rattle.std.specs.List.{list_any}
use Rattle.std.specs.FinSet as set
use Rattle.indexmap.specs.IndexSet.{IndexSet}
use Rattle.grid_base.specs.Datum.{same_bytes}
use Rattle.seen_keys.specs.Passed.{Passed}

-- whether a set has the key
abbrev pub has_key : {S : Type 0} → IndexSet (List ℕ) S → List ℕ → Bool
has_key keys key = list_any (same_bytes key) keys.keys

-- whether a place has the key
abbrev pub place_has : {S : Type 0} → Option (IndexSet (List ℕ) S) → List ℕ → Bool
place_has None key = false
place_has (Some keys) key = has_key keys key

-- these keys have passed in the segment too
unfoldable pub keys_with : ℕ → List (List ℕ) → Passed → Passed
keys_with segment [] passed = passed
keys_with segment (key ∷ keys) passed = set.insert (keys_with segment keys passed) (segment, key)

-- the keys that have passed, where the first place is that of segment n
unfoldable pub passed_from : {S : Type 0} → ℕ → List (Option (IndexSet (List ℕ) S)) → Passed
passed_from n [] = set.empty
passed_from n (None ∷ places) = passed_from (suc n) places
passed_from n (Some keys ∷ places) = keys_with n keys.keys (passed_from (suc n) places)
