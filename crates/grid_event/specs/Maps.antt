-- The clock and the cluster's map, as the events alone tell them. A past lists events, the newest first.
use Rattle.std.specs.Prelude.{ℕ, ◌+◌, Bool, true, false, not, nat_lt, List, [], ◌∷◌, Option, None, Some}
use Rattle.std.specs.Option.{option_map}
use Rattle.std.specs.FinMap as map_of
use Rattle.std.specs.Ordering.{nat_cmp}
use Rattle.std.specs.Cmp.Lexicographic.{slice_cmp}
use Rattle.grid_base.specs.declared.datum.Datum.{Datum}
use Rattle.grid_base.specs.declared.stamped.Stamped.{Stamped}
use Rattle.segment_hash.specs.Segments.{segment_number}
use Rattle.grid_event.specs.declared.config.Config.{Config}
use Rattle.grid_event.specs.declared.event.Event.{Event}
use Rattle.grid_event.specs.declared.event.Event.TheVariants.{Write, Erase, Depart, Tick}
use Rattle.grid_event.specs.Members.{loses_segment}

-- entries by the bytes of their keys
abbrev pub ClusterMap : Type 0
ClusterMap = map_of.FinMap (slice_cmp nat_cmp) Stamped

-- the clock: the ticks so far
abbrev pub clock_of : List Event → ℕ
clock_of [] = 0
clock_of (Tick ticks ∷ past) = clock_of past + ticks
clock_of (_ ∷ past) = clock_of past

-- the segment of a key is one that the departure of a node loses
abbrev pub loses_key : Config → List Event → ℕ → Option ℕ → Bool
loses_key config past node None = false
loses_key config past node (Some segment) = loses_segment config past node segment

-- a deadline is none, or above the clock
abbrev pub is_ahead : ℕ → Option ℕ → Bool
is_ahead clock None = true
is_ahead clock (Some until) = nat_lt clock until

-- a key stands with a deadline that is none, or above the clock
abbrev pub stays : ℕ → Option Stamped → Bool
stays clock None = false
stays clock (Some stamped) = is_ahead clock stamped.until

-- the cluster's map: a write sets its key, an erasure removes it, a departure removes the keys of the segments that it
-- loses, a tick removes the keys whose deadline isn't above the clock after it, and nothing else changes it
unfoldable pub entries_of : Config → List Event → ClusterMap
entries_of config [] = map_of.empty
entries_of config (Write w ∷ past) = map_of.insert (entries_of config past) w.key (record { value = w.value; until = w.until })
entries_of config (Erase e ∷ past) = map_of.remove (entries_of config past) e.key
entries_of config (Depart node ∷ past) =
    map_of.retain_keys (entries_of config past)
    (λ key. not (loses_key config past node (segment_number config.partition config.segments key)))
entries_of config (Tick ticks ∷ past) =
    map_of.retain_keys (entries_of config past) (λ key. stays (clock_of past + ticks) (map_of.get (entries_of config past) key))
entries_of config (_ ∷ past) = entries_of config past

-- the value that stands at a key
abbrev pub value_at : Config → List Event → List ℕ → Option Datum
value_at config past key = option_map (λ (stamped : Stamped). stamped.value) (map_of.get (entries_of config past) key)
