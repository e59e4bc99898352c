-- A transfer that is faithful: key by key, the receiver's copy with what flies and what is still to come is what should stand there.
use Rattle.std.specs.Prelude.{◌≡◌, ℕ, Bool, true, false, ◌&&◌, cond, List, [], ◌∷◌, Option, None, Some, is_none, unwrap_or}
use Rattle.std.specs.FinSet as set_of
use Rattle.std.specs.Ordering.{eq_by_cmp}
use Rattle.grid_base.specs.declared.stamped.Stamped.{Stamped}
use Rattle.grid_base.specs.declared.stamped_entry.StampedEntry.{StampedEntry}
use Rattle.container_seg.specs.Places.{key_cmp}
use Rattle.container_seg.specs.Scans.{comes_after}
use Rattle.state_transfer.specs.Cells.{Cells}
use Rattle.state_transfer.specs.Copying.{Transfer, copy_at}

-- what a chunk has at a key: that of its first entry with the key
abbrev pub stamped_in : List StampedEntry → List ℕ → Option Stamped
stamped_in [] key = None
stamped_in (e ∷ es) key = cond (eq_by_cmp key_cmp key e.key) (Some e.stamped) (stamped_in es key)

-- no key stands twice in a chunk
abbrev pub has_each_once : List StampedEntry → Bool
has_each_once [] = true
has_each_once (e ∷ es) = is_none (stamped_in es e.key) && has_each_once es

-- the entries that fly; none where no chunk does
abbrev pub flying_of : Transfer → List StampedEntry
flying_of transfer = unwrap_or transfer.flying []

-- faithful at a key, by what is known of the key: a touched key stands at the receiver as it should. Of the others, one behind
-- the last key sent neither flies nor stands there, and no more is to come once the last chunk was sent; one that flies doesn't
-- stand there, and flies as it should stand; and any other stands as it should
abbrev pub IsFaithful : (touched : Bool) → (ahead : Bool) → (last : Bool) → (flies : Option Stamped) → (stands : Option Stamped) → (right : Option Stamped) → Type 0
IsFaithful true ahead last flies stands right = stands ≡ right
IsFaithful false true last flies stands right = (flies ≡ None) × ((stands ≡ None) × (last ≡ true → right ≡ None))
IsFaithful false false last None stands right = stands ≡ right
IsFaithful false false last (Some stamped) stands right = (stands ≡ None) × (right ≡ Some stamped)

-- the transfer of a segment to a receiver is faithful at a key to what should stand there
abbrev pub IsFaithfulAt : Cells → ℕ → ℕ → Transfer → List ℕ → Option Stamped → Type 0
IsFaithfulAt cells receiver segment transfer key right =
    IsFaithful (set_of.contains transfer.touched key) (comes_after transfer.provider transfer.sent key) transfer.last
    (stamped_in (flying_of transfer) key) (copy_at cells receiver segment key) right
