-- When parts make a topology.
use Rattle.std.proofs.Common.{◌≡◌, ℕ, ◌≤◌, true, not, [], length, nat_le, Option, Some, None, is_some, arith, refl, sym, ap, inl, inr}
use Rattle.std.proofs.lemmas.Bool.{and_parts, ltb-true, leb-true, eqb-true, not-true, not_from_true, both_ways, cases_lt}
use Rattle.std.proofs.lemmas.List.{get_or_past}
use Rattle.std.specs.Option.{unwrap_or}
use Rattle.topology_phase.specs.Owners.{Hash, owners_at}
use Rattle.topology_phase.specs.Phases.{Phase, NoRebalance, same_phase}
use Rattle.topology_phase.specs.Topologies.{IsTopology, has_few, makes_topology}
use Rattle.topology_phase.proofs.NeighbourLaws.{each_row}

-- no segment of a hash with few owners has more than four
few_at : (hash : Hash) → has_few hash ≡ true → (s : ℕ) → length (owners_at hash s) ≤ 4
few_at hash few s = elim (cases_lt s (length hash)) [
  | inl within ↦ leb-true (length (owners_at hash s)) 4 (each_row hash s (λ owners. nat_le (length owners) 4) within few)
  | inr past ↦ omega (arith, ap length (get_or_past hash s [] past))
]

-- a segment of no hash has no owners
pub none_at : (s : ℕ) → length (owners_at [] s) ≤ 4
none_at s = let none : Hash = [] in few_at none refl s

-- parts that make a topology keep what each topology keeps
pub made_topology : (id : ℕ) (phase : Phase) (current : Hash) (pending : Option Hash) → makes_topology phase current pending ≡ true
    → IsTopology (record { id = id; phase = phase; current = current; pending = unwrap_or pending [] })
made_topology id phase current None h =
    let settled = and_parts (same_phase phase NoRebalance) _ h in
    let rest = and_parts _ (has_few current) settled.1 in
    record {
      some_segment = ltb-true 0 (length current) rest.0;
      settled = λ _. refl;
      as_long = λ e. absurd (both_ways (same_phase phase NoRebalance) e settled.0);
      few_current = few_at current rest.1;
      few_pending = none_at;
    }
made_topology id phase current (Some pending) h =
    let moves = and_parts (not (same_phase phase NoRebalance)) _ h in
    let halves = and_parts _ _ moves.1 in
    let first = and_parts _ (has_few current) halves.0 in
    let second = and_parts _ (has_few pending) halves.1 in
    record {
      some_segment = ltb-true 0 (length current) first.0;
      settled = λ e. absurd (both_ways (same_phase phase NoRebalance) (not-true (same_phase phase NoRebalance) moves.0) e);
      as_long = λ _. eqb-true (length pending) (length current) second.0;
      few_current = few_at current first.1;
      few_pending = few_at pending second.1;
    }

-- and have a pending hash exactly in a rebalance
pub made_in_rebalance : (phase : Phase) (current : Hash) (pending : Option Hash) → makes_topology phase current pending ≡ true → is_some pending ≡ not (same_phase phase NoRebalance)
made_in_rebalance phase current None h = sym (not_from_true (same_phase phase NoRebalance) (and_parts (same_phase phase NoRebalance) _ h).0)
made_in_rebalance phase current (Some pending) h = sym (and_parts (not (same_phase phase NoRebalance)) _ h).0
