-- Places by nodes and segments.
use Rattle.std.specs.Prelude.{ℕ, List, [], slice_index_or}

-- the place of a node and a segment, by rows of the segments; 0 where there is none
abbrev pub place_in : List (List ℕ) → ℕ → ℕ → ℕ
place_in rows node segment = slice_index_or (slice_index_or rows segment []) node 0
