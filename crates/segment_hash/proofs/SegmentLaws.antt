-- What the layers above know of the segment of a key.
use Rattle.std.proofs.Common.{◌≡◌, ℕ, ◌+◌, ◌-◌, ◌*◌, ◌%◌, ◌^◌, ◌<◌, ◌≤◌, List, Option, Some, None, arith, ap}
use Rattle.std.proofs.Math.Nat.{div-lt_iff_lt-mul, lt-mul-div-succ, mod-lt}
use Rattle.std.proofs.lemmas.Nat.{and_le_r}
use Rattle.std.specs.Option.{option_map}
use Rattle.segment_hash.specs.declared.partition.Partition.{Partition}
use Rattle.segment_hash.specs.declared.partition.Partition.TheVariants.{Plain, Grouped}
use Rattle.segment_hash.specs.Hash.{fnv1a_of}
use Rattle.segment_hash.specs.Segments.{range_length, plain_segment, group_of, segment_number}

-- the ranges of all segments together hold every hash of 31 bits
ranges_hold_all : (segments : ℕ) → 0 < segments → 2 ^ 31 ≤ segments * range_length segments
ranges_hold_all segments some = omega (arith, lt-mul-div-succ (2 ^ 31 + (segments - 1)) some)

-- a range has some hash
range_is_long : (segments : ℕ) → 0 < segments → 0 < range_length segments
range_is_long segments some = grind (arith, ranges_hold_all segments some)

-- the segment by a hash is below the number of segments
pub plain_below : (segments hash : ℕ) → 0 < segments → plain_segment segments hash < segments
plain_below segments hash some =
    (div-lt_iff_lt-mul (range_is_long segments some)).1 (omega (arith, ranges_hold_all segments some, and_le_r hash 0x7FFF_FFFF))

-- a value that was changed was there
changed_some : (f : ℕ → ℕ) (o : Option ℕ) (s : ℕ) → option_map f o ≡ Some s → (n : ℕ) × (f n ≡ s)
changed_some f None s e = absurd (cc)
changed_some f (Some n) s e = (n, cc)

-- the segment of a key is below the number of segments
pub segment_below : (partition : Partition) (segments : ℕ) (key : List ℕ) (s : ℕ) → 0 < segments → segment_number partition segments key ≡ Some s → s < segments
unfolding segment_number
segment_below Plain segments key s some e =
    let at : plain_segment segments (fnv1a_of key) ≡ s = cc in
    omega (arith, at, plain_below segments (fnv1a_of key) some)
segment_below Grouped segments key s some e =
    let group = changed_some (λ group. group % segments) (group_of key) s e in
    omega (arith, group.1, mod-lt group.0 some)

-- with one segment each key has its segment there, where keys go by their hash
pub segment_only : (key : List ℕ) → segment_number Plain 1 key ≡ Some 0
unfolding segment_number
segment_only key =
    let none : plain_segment 1 (fnv1a_of key) ≡ 0 = omega (arith, plain_below 1 (fnv1a_of key) (omega arith)) in
    ap (λ (s : ℕ). Some s) none
