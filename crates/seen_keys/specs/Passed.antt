-- Which keys a call has delivered in its incomplete segments.
use Rattle.std.specs.Prelude.{ℕ, Bool, not, ◌==◌, List, [], ◌∷◌, filter}
use Rattle.std.specs.declared.cmp.Ordering.{Ordering}
use Rattle.std.specs.Ordering.{nat_cmp, ordering_then}
use Rattle.std.specs.Cmp.Lexicographic.{slice_cmp}
use Rattle.std.specs.FinSet as set
use Rattle.grid_base.specs.declared.entry.Entry.{Entry}

-- pairs of a segment and a key are ordered by segment, and then by key
abbrev pub delivery_cmp : ℕ × List ℕ → ℕ × List ℕ → Ordering
delivery_cmp a b = ordering_then (nat_cmp a.0 b.0) (slice_cmp nat_cmp a.1 b.1)

-- the keys that have passed, each with its segment
abbrev pub Passed : Type 0
Passed = set.FinSet delivery_cmp

-- whether the key has passed in the segment
abbrev pub has_passed : Passed → ℕ → List ℕ → Bool
has_passed passed segment key = set.contains passed (segment, key)

-- the key passes in the segment
abbrev pub with_key : Passed → ℕ → List ℕ → Passed
with_key passed segment key = set.insert passed (segment, key)

-- the keys of these entries pass in the segment, one after another
abbrev pub all_passed : Passed → ℕ → List Entry → Passed
all_passed passed segment [] = passed
all_passed passed segment (entry ∷ entries) = all_passed (with_key passed segment entry.key) segment entries

-- those of the entries whose keys haven't passed in the segment
abbrev pub passing : Passed → ℕ → List Entry → List Entry
passing passed segment entries = filter (λ entry. not (has_passed passed segment entry.key)) entries

-- the keys of the segment are forgotten
abbrev pub without_segment : Passed → ℕ → Passed
without_segment passed segment = set.retain passed (λ delivery. not (delivery.0 == segment))
