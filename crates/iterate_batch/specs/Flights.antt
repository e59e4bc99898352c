-- The batches that fly.
use Rattle.std.specs.Prelude.{ℕ, List}
use Rattle.std.specs.FinMap as map_of
use Rattle.std.specs.Ordering.{nat_cmp}
use Rattle.grid_base.specs.declared.entry.Entry.{Entry}

-- a batch that was fetched and is not taken yet: the segment that it was read from, and its entries
pub record Flight : Type 0 where
  pub segment : ℕ
  pub entries : List Entry

-- the flying batches, each of another unit
abbrev pub Flown : Type 0
Flown = map_of.FinMap nat_cmp Flight
