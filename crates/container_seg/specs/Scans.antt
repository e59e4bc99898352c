-- The order in which a node scans a segment, and what comes next in it.
use Rattle.std.specs.Prelude.{ℕ, ◌%◌, ◌==◌, Bool, true, cond, List, map, reverse, length, take, nat_le, Option, Some, None}
use Rattle.std.specs.List.{filter}
use Rattle.std.specs.Ordering.{is_lt, is_gt}
use Rattle.grid_base.specs.Portion.{Portion}
use Rattle.grid_base.specs.declared.entry.Entry.{Entry}
use Rattle.grid_base.specs.declared.stamped.Stamped.{Stamped}
use Rattle.grid_base.specs.declared.stamped_entry.StampedEntry.{StampedEntry}
use Rattle.container_seg.specs.Places.{key_cmp}

-- a node with an even number scans in ascending byte order of keys, one with an odd number in descending order
abbrev pub ascends : ℕ → Bool
ascends node = node % 2 == 0

-- whether a key comes after another one in the node's order; where there is no other one, each does
abbrev pub comes_after : ℕ → Option (List ℕ) → List ℕ → Bool
comes_after node None key = true
comes_after node (Some after) key = cond (ascends node) (is_lt (key_cmp after key)) (is_gt (key_cmp after key))

-- those of a segment's entries, in ascending order, that come after a key, in the node's order
abbrev pub beyond : ℕ → Option (List ℕ) → List (List ℕ × Stamped) → List (List ℕ × Stamped)
beyond node after entries = cond (ascends node) (filter (λ e. comes_after node after e.0) entries) (reverse (filter (λ e. comes_after node after e.0) entries))

-- an entry with its deadline, and without
abbrev pub stamped_entry : List ℕ × Stamped → StampedEntry
stamped_entry e = record { key = e.0; stamped = e.1 }

abbrev pub plain_entry : StampedEntry → Entry
plain_entry e = record { key = e.key; value = e.stamped.value }

-- the first of some entries, at most so many, and whether they are all of them
abbrev pub first_chunk : ℕ → List (List ℕ × Stamped) → Portion StampedEntry
first_chunk most entries = record { entries = map stamped_entry (take most entries); last = nat_le (length entries) most }

-- the next entries of a segment after a key, at most so many, with their deadlines
abbrev pub next_chunk : ℕ → Option (List ℕ) → ℕ → List (List ℕ × Stamped) → Portion StampedEntry
next_chunk node after most entries = first_chunk most (beyond node after entries)

-- the same without deadlines
abbrev pub without_deadlines : Portion StampedEntry → Portion Entry
without_deadlines chunk = record { entries = map plain_entry chunk.entries; last = chunk.last }
