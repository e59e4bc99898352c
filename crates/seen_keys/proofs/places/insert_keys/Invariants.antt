use Rattle.std.proofs.Common.{◌≡◌, ℕ, ◌+◌, ◌≤◌, ◌||◌, List, length, take}
use Rattle.std.specs.List.{list_any}
use Rattle.indexmap.specs.IndexSet.{spare}
use Rattle.grid_base.specs.Datum.{same_bytes}
use Rattle.seen_keys.specs.Places.{has_key}
use Rattle.seen_keys.proofs.places.insert_keys.Given as goal

abbrev pub invariant-loop-entry : goal.invariant-loop-entry
invariant-loop-entry l = record {
  members : (q : List ℕ) → has_key l.keys q ≡ (has_key l.fn.keys q || list_any (λ entry. same_bytes q entry.key) (take l.entry-index l.entries));
  room : length l.entries ≤ spare l.keys + l.entry-index;
}
