-- What holds of two topologies of which one follows the other.
use Rattle.std.specs.Prelude.{◌≡◌, ℕ, ◌+◌, Bool, true, false, ◌⊎◌, length}
use Rattle.std.specs.List.{list_any}
use Rattle.topology_phase.specs.Owners.{among, owners_at}
use Rattle.topology_phase.specs.Phases.{NoRebalance, ReadOld, ReadAll}
use Rattle.topology_phase.specs.Topologies.{Topology, read_owners, write_owners, holders}

-- a topology names a node as an owner of a segment, current or pending
abbrev pub Names : Topology → ℕ → ℕ → Type 0
Names t n s = (among n (owners_at t.current s) ≡ true) ⊎ (among n (owners_at t.pending s) ≡ true)

-- while both topologies are in force: who reads by the older holds by the newer; and where a reader by the older lives, who holds by the newer is written by the older
pub record IsSafe (older newer : Topology) (lives : ℕ → Bool) : Type 0 where
  pub read_is_held : (n s : ℕ) → lives n ≡ true → among n (read_owners older s) ≡ true → among n (holders newer s) ≡ true
  pub held_was_written : (s : ℕ) → list_any lives (read_owners older s) ≡ true → (n : ℕ) → lives n ≡ true → among n (holders newer s) ≡ true → among n (write_owners older s) ≡ true

-- in a rebalance both hashes have as many segments, and a segment with a current owner has a pending one
pub record IsOwned (t : Topology) : Type 0 where
  pub pending : (s m : ℕ) → among m (owners_at t.current s) ≡ true → (t.phase ≡ NoRebalance) ⊎ ((n : ℕ) × (among n (owners_at t.pending s) ≡ true))
  pub same_length : (t.phase ≡ NoRebalance) ⊎ (length t.pending ≡ length t.current)

-- the receivers of a segment stay: among those that live the current owners are the same, and a pending owner stays one
pub record KeepsReceivers (a b : Topology) (lives : ℕ → Bool) (s : ℕ) : Type 0 where
  pub current : (n : ℕ) → lives n ≡ true → among n (owners_at b.current s) ≡ among n (owners_at a.current s)
  pub pending : (n : ℕ) → lives n ≡ true → among n (owners_at a.pending s) ≡ true → among n (owners_at b.pending s) ≡ true

-- what the newer of two neighbouring topologies keeps of the older one, for the nodes that live
pub record Follows (a b : Topology) (lives : ℕ → Bool) : Type 0 where
  pub next_id : b.id ≡ a.id + 1
  pub safe : IsSafe a b lives
  -- a holder was one before, or its segment had none that lives, or it received the segment in the first phase, which ends
  pub held_before : (n s : ℕ) → lives n ≡ true → among n (holders b s) ≡ true
      → (among n (holders a s) ≡ true)
      ⊎ ((list_any lives (holders a s) ≡ false)
      ⊎ (((a.phase ≡ ReadOld) × (b.phase ≡ ReadAll)) × ((among n (owners_at a.pending s) ≡ true) × (among n (owners_at a.current s) ≡ false))))
  -- a segment with a live holder has one again
  pub still_held : (s : ℕ) → list_any lives (holders a s) ≡ true → list_any lives (holders b s) ≡ true
  -- a node that is named was named before, or lives
  pub named : (n s : ℕ) → Names b n s → Names a n s ⊎ (lives n ≡ true)
  pub owned : IsOwned b
  -- the first phase is begun, or its receivers stay wherever a current owner lives
  pub receives : b.phase ≡ ReadOld → (a.phase ≡ NoRebalance) ⊎ ((a.phase ≡ ReadOld) × ((s : ℕ) → list_any lives (owners_at a.current s) ≡ true → KeepsReceivers a b lives s))
