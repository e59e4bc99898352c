-- Which segments a departure loses.
use Rattle.std.proofs.Common.{◌≡◌, ℕ, zero, suc, ◌+◌, ◌≤◌, ◌==◌, Bool, true, false, not, ◌&&◌, ◌||◌, nat_lt, [], length, refl, sym, ap, subst, ◌∙◌, arith}
use Rattle.std.proofs.lemmas.Bool.Decides.{nat_tests}
use Rattle.std.proofs.lemmas.List.{get_or_past}
use Rattle.std.specs.List.{list_any, range_with_len}
use Rattle.topology_coord.specs.Coordination.{Coordination, lives, loses, lost_segments, segment_count, some_live}
use Rattle.topology_phase.specs.Owners.{Hash, among, joined, owners_at}
use Rattle.topology_phase.specs.Phases.{by_phase, same_phase}
use Rattle.topology_phase.specs.Topologies.{IsTopology, Topology, holders}
use Rattle.topology_phase.specs.declared.phase.Phase.{Phase}
use Rattle.topology_phase.specs.declared.phase.Phase.TheVariants.{NoRebalance, ReadOld, ReadAll, ReadNew}
use Rattle.topology_phase.proofs.OwnerLists.{among-filter}

-- a test that passes below a number alone
below : (b : Bool) (s n : ℕ) → (n ≤ s → b ≡ false) → (b && nat_lt s n) ≡ b
below b s n past = by (nat_lt s n) refl
  where
    by : (t : Bool) → nat_lt s n ≡ t → (b && t) ≡ b
    by true e = both b
      where
        both : (c : Bool) → (c && true) ≡ c
        both true = refl
        both false = refl
    by false e = none b ∙ sym (past (grind (arith, nat_tests)))
      where
        none : (c : Bool) → (c && false) ≡ false
        none true = refl
        none false = refl

-- a number in a row of numbers
in_row : (s from n : ℕ) → from ≤ s → among s (range_with_len from n) ≡ nat_lt s (from + n)
in_row s from zero low = grind (arith, nat_tests)
in_row s from (suc n) low = by (from == s) refl (λ more. in_row s (from + 1) n more)
  where
    by : (t : Bool) → (from == s) ≡ t → (from + 1 ≤ s → among s (range_with_len (from + 1) n) ≡ nat_lt s (from + 1 + n)) → (t || among s (range_with_len (from + 1) n)) ≡ nat_lt s (from + suc n)
    by true e rest = grind (arith, nat_tests)
    by false e rest = rest (grind (arith, nat_tests)) ∙ ap (nat_lt s) (omega arith)

-- past its segments a hash has no owners
no_owners : (hash : Hash) (s : ℕ) → length hash ≤ s → owners_at hash s ≡ []
no_owners hash s past = get_or_past hash s [] past

-- past its segments a topology has no holders
no_holders : (t : Topology) (s : ℕ) → IsTopology t → length t.current ≤ s → holders t s ≡ []
unfolding holders joined
no_holders t s h past =
    let first = no_owners t.current s past in
    by_case t.phase first (pending t.phase refl)
  where
    pending : (phase : Phase) → t.phase ≡ phase → owners_at t.pending s ≡ []
    pending NoRebalance e = no_owners t.pending s (subst (λ (hash : Hash). length hash ≤ s) (sym (h.settled (ap (λ p. same_phase p NoRebalance) e))) (omega arith))
    pending ReadOld e = no_owners t.pending s (omega (arith, past, h.as_long (ap (λ p. same_phase p NoRebalance) e)))
    pending ReadAll e = no_owners t.pending s (omega (arith, past, h.as_long (ap (λ p. same_phase p NoRebalance) e)))
    pending ReadNew e = no_owners t.pending s (omega (arith, past, h.as_long (ap (λ p. same_phase p NoRebalance) e)))

    by_case : (phase : Phase) → owners_at t.current s ≡ [] → owners_at t.pending s ≡ []
        → by_phase phase (owners_at t.current s) (owners_at t.current s) (joined (owners_at t.current s) (owners_at t.pending s)) (joined (owners_at t.current s) (owners_at t.pending s)) ≡ []
    by_case NoRebalance c p = c
    by_case ReadOld c p = c
    by_case ReadAll c p = λ i. joined (c i) (p i)
    by_case ReadNew c p = λ i. joined (c i) (p i)

-- a departure loses segments of the newest topology alone
loses_none : (c : Coordination) (node s : ℕ) → IsTopology c.newest → segment_count c ≤ s → loses c node s ≡ false
unfolding loses
loses_none c node s h past =
    ap (λ nodes. some_live c nodes && not (list_any (λ other. lives c other && not (other == node)) nodes)) (no_holders c.newest s h past)

-- the segments that a departure loses are those of the list
pub loses_listed : (c : Coordination) (node s : ℕ) → IsTopology c.newest → loses c node s ≡ among s (lost_segments c node)
loses_listed c node s h =
    sym (among-filter s (loses c node) (range_with_len 0 (segment_count c))
    ∙ ap (λ b. loses c node s && b) (in_row s 0 (segment_count c) (omega arith) ∙ ap (nat_lt s) (omega arith))
    ∙ below (loses c node s) s (segment_count c) (loses_none c node s h))
