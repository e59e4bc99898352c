-- What a walk is at one moment, and what its calls make of it.
use Rattle.std.specs.Prelude.{◌≡◌, ℕ, ◌==◌, Bool, true, false, not, List, length, replicate, slice_set, slice_index_or, Option}
use Rattle.std.specs.FinMap as map_of
use Rattle.std.specs.FinSet as set
use Rattle.std.specs.List.{position}
use Rattle.std.specs.Option.{option_map, option_map_or}
use Rattle.delivery_mode.specs.declared.guarantee.Guarantee.{Guarantee}
use Rattle.delivery_mode.specs.declared.guarantee.Guarantee.TheVariants.{Exact, AtLeast, AtMost}
use Rattle.grid_base.specs.declared.entry.Entry.{Entry}
use Rattle.iterate_batch.specs.Flights.{Flight, Flown}
use Rattle.seen_keys.specs.Passed.{Passed, passing, all_passed, without_segment}

-- the guarantee, the flying batch of each unit that has one, the keys that were delivered of incomplete
-- segments where no key may come twice, and for each segment whether it is complete
pub record Walking : Type 0 where
  pub guarantee : Guarantee
  pub flying : Flown
  pub delivered : Passed
  pub complete : List Bool

-- the start of a walk over so many segments: nothing flies, nothing was delivered, no segment is complete
abbrev pub walk_start : Guarantee → ℕ → Walking
walk_start guarantee segments =
    record { guarantee = guarantee; flying = map_of.empty; delivered = set.empty; complete = replicate segments false }

-- how many segments the walk has
abbrev pub segments_of : Walking → ℕ
segments_of walk = length walk.complete

-- whether the segment is complete
abbrev pub is_complete : Walking → ℕ → Bool
is_complete walk segment = slice_index_or walk.complete segment false

-- the least segment that isn't complete
abbrev pub missing_of : Walking → Option ℕ
missing_of walk = position not walk.complete

-- whether a batch of the unit flies
abbrev pub has_flight : Walking → ℕ → Bool
has_flight walk unit = map_of.contains_key walk.flying unit

-- no batch that was read from the segment flies
abbrev pub IsClear : Walking → ℕ → Type 0
IsClear walk segment = (unit : ℕ) → option_map_or (λ flight. flight.segment == segment) (map_of.get walk.flying unit) false ≡ false

-- what is given of a batch: exactly once, the entries whose keys weren't delivered of the segment, and else all
abbrev pub given_of : Guarantee → Passed → Flight → List Entry
given_of Exact delivered flight = passing delivered flight.segment flight.entries
given_of AtLeast delivered flight = flight.entries
given_of AtMost delivered flight = flight.entries

-- the keys that are delivered once a batch is taken: they are noted exactly once alone
abbrev pub noted_of : Guarantee → Passed → Flight → Passed
noted_of Exact delivered flight = all_passed delivered flight.segment flight.entries
noted_of AtLeast delivered flight = delivered
noted_of AtMost delivered flight = delivered

-- what is given when the unit's batch is taken, where one flies
abbrev pub next_given : Walking → ℕ → Option (List Entry)
next_given walk unit = option_map (given_of walk.guarantee walk.delivered) (map_of.get walk.flying unit)

-- the unit has fetched a batch of the segment
abbrev pub fetched : Walking → ℕ → ℕ → List Entry → Walking
fetched walk unit segment entries =
    record walk { flying = map_of.insert walk.flying unit (record { segment = segment; entries = entries }) }

-- the unit's batch, where one flies, is taken
abbrev pub taken : Walking → ℕ → Walking
taken walk unit = record walk {
  flying = map_of.remove walk.flying unit;
  delivered = option_map_or (noted_of walk.guarantee walk.delivered) (map_of.get walk.flying unit) walk.delivered;
}

-- the unit's batch, where one flies, is gone
abbrev pub dropped : Walking → ℕ → Walking
dropped walk unit = record walk { flying = map_of.remove walk.flying unit }

-- the segment is complete, and its delivered keys are forgotten
abbrev pub completed : Walking → ℕ → Walking
completed walk segment = record walk {
  delivered = without_segment walk.delivered segment;
  complete = slice_set walk.complete segment true;
}
