-- That the topologies that come after one keep what each topology keeps.
use Rattle.std.proofs.Common.{◌≡◌, ℕ, ◌+◌, ◌≤◌, true, false, List, [], ◌∷◌, length, arith, refl, sym, ap, ◌∙◌, inl, inr}
use Rattle.std.proofs.lemmas.Bool.{both_ways, cases_lt}
use Rattle.std.proofs.lemmas.List.{get_or_past}
use Rattle.std.specs.List.{filter}
use Rattle.topology_phase.specs.Owners.{Hash, among, owners_at}
use Rattle.topology_phase.specs.Phases.{Phase, NoRebalance, ReadOld, same_phase}
use Rattle.topology_phase.specs.Topologies.{Topology, IsTopology}
use Rattle.topology_phase.specs.Following.{first_of_two, stand_in, mended, mended_hash, repaired}
use Rattle.topology_phase.proofs.OwnerLists.{filter_short}
use Rattle.topology_phase.proofs.Mending.{length-tabulated, owners_at-tabulated}
use Rattle.topology_phase.proofs.TopologyParts.{none_at}
use Rattle.topology_phase.proofs.SameTopologies.{same_phase_is}

-- the first of two short lists that has something is short
few_first : (xs ys : List ℕ) → length xs ≤ 4 → length ys ≤ 4 → length (first_of_two xs ys) ≤ 4
few_first [] ys few few_more = few_more
few_first (x ∷ xs) ys few few_more = few

-- mended owners are few where the owners of both hashes are
few_mended : (live : List ℕ) (s : ℕ) (mine other : List ℕ) → length mine ≤ 4 → length other ≤ 4 → length (mended live s mine other) ≤ 4
unfolding mended
few_mended live s mine other few few_more =
    few_first (filter (λ n. among n live) mine) (first_of_two (filter (λ n. among n live) other) (stand_in live s))
    (omega (arith, few, filter_short (λ n. among n live) mine))
    (few_first (filter (λ n. among n live) other) (stand_in live s) (omega (arith, few_more, filter_short (λ n. among n live) other)) (omega arith))

-- a segment of a mended hash has few owners
few_hash : (live : List ℕ) (mine other : Hash) → ((s : ℕ) → length (owners_at mine s) ≤ 4) → ((s : ℕ) → length (owners_at other s) ≤ 4)
    → (s : ℕ) → length (owners_at (mended_hash live mine other) s) ≤ 4
few_hash live mine other few few_more s =
    let row = λ (k : ℕ). mended live k (owners_at mine k) (owners_at other k) in
    elim (cases_lt s (length mine)) [
      | inl within ↦ omega (arith, ap length (owners_at-tabulated (length mine) row s within), few_mended live s (owners_at mine s) (owners_at other s) (few s) (few_more s))
      | inr past ↦ omega (arith, ap length (get_or_past (mended_hash live mine other) s [] (omega (arith, past, length-tabulated (length mine) row))))
    ]

-- a mended hash has as many segments
same_length : (live : List ℕ) (mine other : Hash) → length (mended_hash live mine other) ≡ length mine
same_length live mine other = length-tabulated (length mine) (λ k. mended live k (owners_at mine k) (owners_at other k))

-- a topology with the current hash of another, and out of a rebalance
pub settled_parts : (t : Topology) (id : ℕ) → IsTopology t → IsTopology (record { id = id; phase = NoRebalance; current = t.current; pending = [] })
settled_parts t id kept = record {
  some_segment = kept.some_segment;
  settled = λ _. refl;
  as_long = λ e. absurd (cc);
  few_current = kept.few_current;
  few_pending = none_at;
}

-- a topology with the pending hash of another, and out of a rebalance
pub completed_parts : (t : Topology) (id : ℕ) → IsTopology t → same_phase t.phase NoRebalance ≡ false → IsTopology (record { id = id; phase = NoRebalance; current = t.pending; pending = [] })
completed_parts t id kept rebalances = record {
  some_segment = omega (arith, kept.some_segment, kept.as_long rebalances);
  settled = λ _. refl;
  as_long = λ e. absurd (cc);
  few_current = kept.few_pending;
  few_pending = none_at;
}

-- a topology with the hashes of another, and in a rebalance
pub moved_parts : (t : Topology) (id : ℕ) (phase : Phase) → IsTopology t → same_phase t.phase NoRebalance ≡ false → same_phase phase NoRebalance ≡ false
    → IsTopology (record { id = id; phase = phase; current = t.current; pending = t.pending })
moved_parts t id phase kept rebalances goes_on = record {
  some_segment = kept.some_segment;
  settled = λ e. absurd (both_ways (same_phase phase NoRebalance) goes_on e);
  as_long = λ _. kept.as_long rebalances;
  few_current = kept.few_current;
  few_pending = kept.few_pending;
}

-- a topology with the current hash of another, and in a rebalance towards a hash as long
pub begun_parts : (t : Topology) (id : ℕ) (aim : Hash) → IsTopology t → length aim ≡ length t.current → ((s : ℕ) → length (owners_at aim s) ≤ 4)
    → IsTopology (record { id = id; phase = ReadOld; current = t.current; pending = aim })
begun_parts t id aim kept as_long few = record {
  some_segment = kept.some_segment;
  settled = λ e. absurd (cc);
  as_long = λ _. as_long;
  few_current = kept.few_current;
  few_pending = few;
}

-- a repaired topology
pub repaired_parts : (t : Topology) (live : List ℕ) → IsTopology t → IsTopology (repaired t live)
unfolding repaired
repaired_parts t live kept = record {
  some_segment = omega (arith, kept.some_segment, same_length live t.current t.pending);
  settled = λ e. ap (λ p. mended_hash live p t.current) (kept.settled e);
  as_long = λ e. same_length live t.pending t.current ∙ kept.as_long e ∙ sym (same_length live t.current t.pending);
  few_current = few_hash live t.current t.pending kept.few_current kept.few_pending;
  few_pending = few_hash live t.pending t.current kept.few_pending kept.few_current;
}

-- out of a rebalance the repair has no pending hash
pub repaired_settled : (t : Topology) (live : List ℕ) → IsTopology t → same_phase t.phase NoRebalance ≡ true
    → record { id = t.id + 1; phase = NoRebalance; current = mended_hash live t.current t.pending; pending = [] } ≡ repaired t live
unfolding repaired
repaired_settled t live kept out =
    λ i. record { id = t.id + 1; phase = sym (same_phase_is t.phase NoRebalance out) i; current = mended_hash live t.current t.pending; pending = mended_hash live (sym (kept.settled out) i) t.current }
