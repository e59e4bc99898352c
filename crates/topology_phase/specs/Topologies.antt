-- A topology, and the table of the owners that read, write and hold a segment in each phase.
use Rattle.std.specs.Prelude.{◌≡◌, ℕ, ◌<◌, ◌≤◌, Bool, true, false, not, ◌&&◌, ◌==◌, nat_eq, nat_lt, nat_le, List, [], length, Option, Some, None}
use Rattle.std.specs.List.{list_all}
use Rattle.std.specs.Cmp.Lexicographic.{pointwise}
use Rattle.topology_phase.specs.Owners.{Hash, owners_at, joined}
use Rattle.topology_phase.specs.Phases.{Phase, NoRebalance, by_phase, same_phase}

-- its number, its phase, and the owners of the segments: the current ones, and those of the rebalance (no segment where there is none)
pub record Topology : Type 0 where
  pub id : ℕ
  pub phase : Phase
  pub current : Hash
  pub pending : Hash

-- the owners that read a segment
unfoldable pub read_owners : Topology → ℕ → List ℕ
read_owners t s = by_phase t.phase (owners_at t.current s) (owners_at t.current s) (joined (owners_at t.current s) (owners_at t.pending s)) (owners_at t.pending s)

-- the owners at which a write to a segment is done
unfoldable pub write_owners : Topology → ℕ → List ℕ
write_owners t s = by_phase t.phase (owners_at t.current s) (joined (owners_at t.current s) (owners_at t.pending s)) (joined (owners_at t.current s) (owners_at t.pending s)) (joined (owners_at t.current s) (owners_at t.pending s))

-- the owners that have every entry of a segment
unfoldable pub holders : Topology → ℕ → List ℕ
holders t s = by_phase t.phase (owners_at t.current s) (owners_at t.current s) (joined (owners_at t.current s) (owners_at t.pending s)) (joined (owners_at t.current s) (owners_at t.pending s))

-- whether two lists of owners are the same, in the same order
abbrev pub same_owners : List ℕ → List ℕ → Bool
same_owners = pointwise nat_eq

-- whether two hashes are the same
abbrev pub same_hash : Hash → Hash → Bool
same_hash = pointwise same_owners

-- whether two topologies are the same
unfoldable pub same_topology : Topology → Topology → Bool
same_topology a b = (a.id == b.id) && (same_phase a.phase b.phase && (same_hash a.current b.current && same_hash a.pending b.pending))

-- what each topology keeps: some segment, a pending hash exactly in a rebalance and with as many segments, and at most four owners a segment
pub record IsTopology (t : Topology) : Type 0 where
  pub some_segment : 0 < length t.current
  pub settled : same_phase t.phase NoRebalance ≡ true → t.pending ≡ []
  pub as_long : same_phase t.phase NoRebalance ≡ false → length t.pending ≡ length t.current
  pub few_current : (s : ℕ) → length (owners_at t.current s) ≤ 4
  pub few_pending : (s : ℕ) → length (owners_at t.pending s) ≤ 4

-- whether no segment has more than four owners
abbrev pub has_few : Hash → Bool
has_few hash = list_all (λ owners. nat_le (length owners) 4) hash

-- whether these parts make a topology
abbrev pub makes_topology : Phase → Hash → Option Hash → Bool
makes_topology phase current None = same_phase phase NoRebalance && (nat_lt 0 (length current) && has_few current)
makes_topology phase current (Some pending) = not (same_phase phase NoRebalance) && ((nat_lt 0 (length current) && has_few current) && ((length pending == length current) && has_few pending))
