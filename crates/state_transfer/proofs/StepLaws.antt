-- What a write, a chunk that is sent or lands, and a tick make of copies and transfers.
use Rattle.std.proofs.Common.{◌≡◌, ℕ, cond, not, ◌&&◌, ◌||◌, ◌==◌, List, Option, Some, None, is_some, refl, ap, ◌∙◌}
use Rattle.std.specs.FinSet as set_of
use Rattle.std.specs.Option.{option_map}
use Rattle.std.specs.Ordering.{eq_by_cmp}
use Rattle.grid_base.specs.Portion.{Portion}
use Rattle.grid_base.specs.declared.stamped.Stamped.{Stamped}
use Rattle.grid_base.specs.declared.stamped_entry.StampedEntry.{StampedEntry}
use Rattle.container_seg.specs.Lifespans.{left}
use Rattle.container_seg.specs.Places.{key_cmp}
use Rattle.topology_phase.specs.Owners.{among}
use Rattle.state_transfer.specs.Changes.{changes, marks, ticks, unexpired}
use Rattle.state_transfer.specs.Chunks.{begun, landed, lands, sends, with_chunk}
use Rattle.state_transfer.specs.Copying.{Copying, Transfer, copy_at, transfer_to}
use Rattle.state_transfer.specs.Faithful.{stamped_in, flying_of}
use Rattle.state_transfer.proofs.CellLaws.{copy-kept, copy-landed, copy-set_at, copy-ticked, either, to, transfer-changed, transfer-put}

-- a key is changed at some nodes
pub copy-changes : (nodes : List ℕ) (s : ℕ) (k : List ℕ) (o : Option Stamped) (p : Copying) (q t : ℕ) (j : List ℕ)
    → copy_at (changes nodes s k o p).cells q t j ≡ cond (among q nodes && ((t == s) && eq_by_cmp key_cmp j k)) o (copy_at p.cells q t j)
unfolding changes
copy-changes nodes s k o p q t j = copy-set_at nodes s k o p.cells q t j

-- and is touched in the transfers to them
pub transfer-changes : (nodes : List ℕ) (s : ℕ) (k : List ℕ) (o : Option Stamped) (p : Copying) (r t : ℕ)
    → transfer_to (changes nodes s k o p).transfers r t ≡ option_map (marks nodes s k (to r t)) (transfer_to p.transfers r t)
unfolding changes
transfer-changes nodes s k o p r t = transfer-changed (marks nodes s k) p.transfers r t

-- the clock stays
pub clock-changes : (nodes : List ℕ) (s : ℕ) (k : List ℕ) (o : Option Stamped) (p : Copying) → (changes nodes s k o p).clock ≡ p.clock
unfolding changes
clock-changes nodes s k o p = refl

-- a chunk is sent
pub copy-sends : (r s provider : ℕ) (chunk : Portion StampedEntry) (p : Copying) (q t : ℕ) (j : List ℕ)
    → copy_at (sends r s provider chunk p).cells q t j ≡ cond (is_some (transfer_to p.transfers r s) || not ((q == r) && (t == s))) (copy_at p.cells q t j) None
unfolding sends
copy-sends r s provider chunk p q t j = copy-kept p.cells (λ c. is_some (transfer_to p.transfers r s) || not ((c.node == r) && (c.segment == s))) q t j

-- and flies in its transfer
pub transfer-sends : (r s provider : ℕ) (chunk : Portion StampedEntry) (p : Copying) (q t : ℕ)
    → transfer_to (sends r s provider chunk p).transfers q t ≡ cond ((q == r) && (t == s)) (Some (with_chunk chunk (begun (transfer_to p.transfers r s) provider))) (transfer_to p.transfers q t)
unfolding sends
transfer-sends r s provider chunk p q t = transfer-put p.transfers r s (with_chunk chunk (begun (transfer_to p.transfers r s) provider)) q t

-- the clock stays
pub clock-sends : (r s provider : ℕ) (chunk : Portion StampedEntry) (p : Copying) → (sends r s provider chunk p).clock ≡ p.clock
unfolding sends
clock-sends r s provider chunk p = refl

-- a chunk lands
pub copy-lands : (r s : ℕ) (v : Transfer) (p : Copying) → transfer_to p.transfers r s ≡ Some v → (q t : ℕ) (j : List ℕ)
    → copy_at (lands r s p).cells q t j ≡ cond (((r == q) && (t == s)) && not (set_of.contains v.touched j)) (either (stamped_in (flying_of v) j) (copy_at p.cells q t j)) (copy_at p.cells q t j)
unfolding lands
copy-lands r s v p is q t j = ap (λ found. copy_at (landed r s found p.cells) q t j) is ∙ copy-landed v r s p.cells q t j

-- a transfer of which nothing flies where it leads to the place
abbrev pub emptied : ℕ → ℕ → ℕ → ℕ → Transfer → Transfer
emptied r s q t transfer = record transfer { flying = cond ((q == r) && (t == s)) None transfer.flying }

-- and flies no longer
pub transfer-lands : (r s : ℕ) (p : Copying) (q t : ℕ) → transfer_to (lands r s p).transfers q t ≡ option_map (emptied r s q t) (transfer_to p.transfers q t)
unfolding lands
transfer-lands r s p q t = transfer-changed (λ d transfer. emptied r s d.receiver d.segment transfer) p.transfers q t

-- the clock stays
pub clock-lands : (r s : ℕ) (p : Copying) → (lands r s p).clock ≡ p.clock
unfolding lands
clock-lands r s p = refl

-- the clock goes on
pub copy-ticks : (clock : ℕ) (p : Copying) (q t : ℕ) (j : List ℕ) → copy_at (ticks clock p).cells q t j ≡ left clock (copy_at p.cells q t j)
unfolding ticks
copy-ticks clock p q t j = copy-ticked clock p.cells q t j

-- a transfer of which what has expired flies no longer
abbrev pub thinned : ℕ → Transfer → Transfer
thinned clock transfer = record transfer { flying = option_map (unexpired clock) transfer.flying }

-- so does what flies
pub transfer-ticks : (clock : ℕ) (p : Copying) (q t : ℕ) → transfer_to (ticks clock p).transfers q t ≡ option_map (thinned clock) (transfer_to p.transfers q t)
unfolding ticks
transfer-ticks clock p q t = transfer-changed (λ d transfer. thinned clock transfer) p.transfers q t

-- the clock stands where it was put
pub clock-ticks : (clock : ℕ) (p : Copying) → (ticks clock p).clock ≡ clock
unfolding ticks
clock-ticks clock p = refl
