-- The segment that a key belongs to.
use Rattle.std.specs.Prelude.{ℕ, ◌+◌, ◌-◌, ◌*◌, ◌/◌, ◌%◌, ◌^◌, Bool, ◌&&◌, not, ◌==◌, nat_le, if◌then◌else◌, List, take, slice_index, bit_and}
use Rattle.std.specs.Prelude.{Option, Some, None}
use Rattle.std.specs.List.{fold, position}
use Rattle.std.specs.Option.{option_map, option_and_then}
use Rattle.segment_hash.specs.declared.partition.Partition.{Partition}
use Rattle.segment_hash.specs.declared.partition.Partition.TheVariants.{Plain, Grouped}
use Rattle.segment_hash.specs.Hash.{fnv1a_of}

-- how many hashes of 31 bits fall into one segment: 2 ^ 31 divided by the number of segments, rounded up
abbrev pub range_length : ℕ → ℕ
range_length segments = (2 ^ 31 + (segments - 1)) / segments

-- the segment by the hash: its lowest 31 bits, cut into ranges of one length
abbrev pub plain_segment : ℕ → ℕ → ℕ
plain_segment segments hash = bit_and hash 0x7FFF_FFFF / range_length segments

-- whether a byte is one of 0 to 9
abbrev pub is_digit : ℕ → Bool
is_digit byte = nat_le 48 byte && nat_le byte 57

-- the number that digits write
abbrev pub decimal : List ℕ → ℕ
decimal digits = fold (λ number digit. number * 10 + (digit - 48)) 0 digits

-- the group that a key names: its first byte that is no digit is a `#`, and one to nine digits stand before it
abbrev pub group_of : List ℕ → Option ℕ
group_of key = option_and_then (λ n. if (nat_le 1 n && nat_le n 9) && slice_index key n == 35 then Some (decimal (take n key)) else None) (position (λ byte. not (is_digit byte)) key)

-- the segment of a key: by its hash, or its group modulo the number of segments
unfoldable pub segment_number : Partition → ℕ → List ℕ → Option ℕ
segment_number Plain segments key = Some (plain_segment segments (fnv1a_of key))
segment_number Grouped segments key = option_map (λ group. group % segments) (group_of key)
