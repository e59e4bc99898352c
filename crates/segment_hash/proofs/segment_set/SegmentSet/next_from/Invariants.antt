use Rattle.std.proofs.Common.{◌≡◌, ℕ, ◌*◌, ◌+◌, ◌<◌, ◌≤◌, false}
use Rattle.segment_hash.specs.Members.{is_marked}
use Rattle.segment_hash.proofs.segment_set.SegmentSet.next_from.Given as goal

-- the search stands at bit `first` of word `place`, and no segment between the one asked for and there is in the set
abbrev pub invariant-loop-place : goal.invariant-loop-place
invariant-loop-place l =
    (l.first < 64)
    × (l.fn.segment ≤ l.place * 64 + l.first)
    × ((k : ℕ) → l.fn.segment ≤ k → k < l.place * 64 + l.first → is_marked l.self-inside.words k ≡ false)
