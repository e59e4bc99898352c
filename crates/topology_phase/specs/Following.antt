-- The topologies that may follow one another.
use Rattle.std.specs.Prelude.{ℕ, ◌+◌, ◌%◌, Bool, cond, not, ◌&&◌, ◌||◌, ◌==◌, List, [], ◌∷◌, length, slice_index}
use Rattle.std.specs.List.{list_any, list_all}
use Rattle.topology_phase.specs.Owners.{Hash, among, pruned, is_ownerless, owners_at, tabulated}
use Rattle.topology_phase.specs.Phases.{Phase, NoRebalance, ReadOld, ReadAll, ReadNew, by_phase, same_phase}
use Rattle.topology_phase.specs.Topologies.{Topology, same_hash, same_topology}

-- the first list, or the second where the first is empty
abbrev pub first_of_two : List ℕ → List ℕ → List ℕ
first_of_two [] second = second
first_of_two (n ∷ nodes) second = n ∷ nodes

-- the one live member, of those in ascending order, that stands in for the owners of a segment
abbrev pub stand_in : List ℕ → ℕ → List ℕ
stand_in live s = slice_index live (s % length live) ∷ []

-- the owners of a segment without the departed: its own, else those of the other hash, else the one that stands in
unfoldable pub mended : List ℕ → ℕ → List ℕ → List ℕ → List ℕ
mended live s mine other = first_of_two (pruned (λ n. among n live) mine) (first_of_two (pruned (λ n. among n live) other) (stand_in live s))

-- a hash with each segment mended
abbrev pub mended_hash : List ℕ → Hash → Hash → Hash
mended_hash live mine other = tabulated (length mine) (λ s. mended live s (owners_at mine s) (owners_at other s))

-- whether a hash names a node that doesn't live
abbrev pub names_departed : List ℕ → Hash → Bool
names_departed live hash = list_any (λ owners. list_any (λ n. not (among n live)) owners) hash

-- the repair of a topology: the phase stays, and the departed are gone from both hashes
unfoldable pub repaired : Topology → List ℕ → Topology
repaired t live = record { id = t.id + 1; phase = t.phase; current = mended_hash live t.current t.pending; pending = mended_hash live t.pending t.current }

-- the cancellation of a rebalance: the current hash stays, and the pending one is given up
abbrev pub cancelled : Topology → Topology
cancelled t = record { id = t.id + 1; phase = NoRebalance; current = t.current; pending = [] }

-- the same owners in another phase
abbrev pub in_phase : Topology → Phase → Topology
in_phase t phase = record { id = t.id + 1; phase = phase; current = t.current; pending = t.pending }

-- a rebalance begins that leads to this hash: the current one stays
abbrev pub begun : Topology → Hash → Topology
begun t aim = record { id = t.id + 1; phase = ReadOld; current = t.current; pending = aim }

-- the end of a rebalance: the pending hash is the current one
abbrev pub completed : Topology → Topology
completed t = record { id = t.id + 1; phase = NoRebalance; current = t.pending; pending = [] }

-- whether each segment has an owner, and each owner lives
abbrev pub is_owned_by : List ℕ → Hash → Bool
is_owned_by live hash = list_all (λ owners. not (is_ownerless owners) && list_all (λ n. among n live) owners) hash

-- whether the second topology begins a rebalance of the first: the current hash stays, and each segment is to have live owners
abbrev pub begins_rebalance : Topology → Topology → List ℕ → Bool
begins_rebalance a b live =
    (b.id == a.id + 1) && (same_phase b.phase ReadOld && (same_hash b.current a.current && ((length b.pending == length a.current) && is_owned_by live b.pending)))

-- whether the second topology may follow the first where these nodes live: by a repair where a departed node is named, and else by a new rebalance, the next phase or a cancellation
unfoldable pub neighbours : Topology → Topology → List ℕ → Bool
neighbours a b live =
    cond (names_departed live a.current || names_departed live a.pending)
    (same_topology b (repaired a live))
    (by_phase a.phase
    (begins_rebalance a b live)
    (same_topology b (in_phase a ReadAll) || same_topology b (cancelled a))
    (same_topology b (in_phase a ReadNew))
    (same_topology b (completed a)))
