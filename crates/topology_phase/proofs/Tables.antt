-- How the owners that read, write and hold a segment lie in one another, and safety for other nodes.
use Rattle.std.proofs.Common.{◌≡◌, ℕ, Bool, true, ◌⊎◌, inl, inr}
use Rattle.topology_phase.specs.Owners.{Hash, among, owners_at}
use Rattle.topology_phase.specs.Phases.{Phase, NoRebalance, ReadOld, ReadAll, ReadNew}
use Rattle.topology_phase.specs.Topologies.{Topology, read_owners, write_owners, holders}
use Rattle.topology_phase.specs.Laws.{Names, IsSafe}
use Rattle.topology_phase.proofs.Mending.{some_of, any_of}
use Rattle.topology_phase.proofs.NeighbourLaws.{joined_left, joined_right, joined_cases}

module _ (id : ℕ) (c p : Hash) where
  -- the topology of a phase
  abbrev by : Phase → Topology
  by phase = record { id = id; phase = phase; current = c; pending = p }

  -- who reads by a phase holds by it
  read_held : (phase : Phase) (n s : ℕ) → among n (read_owners (by phase) s) ≡ true → among n (holders (by phase) s) ≡ true
  unfolding read_owners holders
  read_held NoRebalance n s h = h
  read_held ReadOld n s h = h
  read_held ReadAll n s h = h
  read_held ReadNew n s h = joined_right n (owners_at c s) (owners_at p s) h

  -- who holds by a phase is written by it
  held_written : (phase : Phase) (n s : ℕ) → among n (holders (by phase) s) ≡ true → among n (write_owners (by phase) s) ≡ true
  unfolding write_owners holders
  held_written NoRebalance n s h = h
  held_written ReadOld n s h = joined_left n (owners_at c s) (owners_at p s) h
  held_written ReadAll n s h = h
  held_written ReadNew n s h = h

  -- who is written by a phase is named
  written_named : (phase : Phase) (n s : ℕ) → among n (write_owners (by phase) s) ≡ true → Names (by phase) n s
  unfolding write_owners
  written_named NoRebalance n s h = inl h
  written_named ReadOld n s h = joined_cases n (owners_at c s) (owners_at p s) h
  written_named ReadAll n s h = joined_cases n (owners_at c s) (owners_at p s) h
  written_named ReadNew n s h = joined_cases n (owners_at c s) (owners_at p s) h

-- who reads a segment holds it
pub read_is_held : (t : Topology) (n s : ℕ) → among n (read_owners t s) ≡ true → among n (holders t s) ≡ true
read_is_held t = read_held t.id t.current t.pending t.phase

-- who holds a segment is written
pub held_is_written : (t : Topology) (n s : ℕ) → among n (holders t s) ≡ true → among n (write_owners t s) ≡ true
held_is_written t = held_written t.id t.current t.pending t.phase

-- who is written is named
pub written_is_named : (t : Topology) (n s : ℕ) → among n (write_owners t s) ≡ true → Names t n s
written_is_named t = written_named t.id t.current t.pending t.phase

-- who holds a segment is named
pub held_is_named : (t : Topology) (n s : ℕ) → among n (holders t s) ≡ true → Names t n s
held_is_named t n s h = written_is_named t n s (held_is_written t n s h)

-- who reads a segment is named
pub read_is_named : (t : Topology) (n s : ℕ) → among n (read_owners t s) ≡ true → Names t n s
read_is_named t n s h = held_is_named t n s (read_is_held t n s h)

-- one topology alone is safe
pub safe_alone : (t : Topology) (lives : ℕ → Bool) → IsSafe t t lives
safe_alone t lives = record { read_is_held = λ n s l h. read_is_held t n s h; held_was_written = λ s some n l h. held_is_written t n s h }

-- what is safe for the nodes that live is safe for others, where each of these that is named lives
pub safe_later : (older newer : Topology) (lives others : ℕ → Bool) → IsSafe older newer lives
    → ((n s : ℕ) → others n ≡ true → Names older n s ⊎ Names newer n s → lives n ≡ true) → IsSafe older newer others
safe_later older newer lives others safe named = record {
  read_is_held = λ n s o h. safe.read_is_held n s (named n s o (inl (read_is_named older n s h))) h;
  held_was_written = λ s some n o h.
      let one = some_of others (read_owners older s) some in
      safe.held_was_written s (any_of lives (read_owners older s) one.0 (named one.0 s one.1 (inl (read_is_named older one.0 s one.2))) one.2) n (named n s o (inr (held_is_named newer n s h))) h;
}
