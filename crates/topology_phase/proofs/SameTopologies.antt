-- What the tests for the same owners, phases and topologies tell.
use Rattle.std.proofs.Common.{◌≡◌, ℕ, true, ◌==◌, List, refl, sym, ap, ◌∙◌}
use Rattle.std.proofs.lemmas.Bool.{eqb-true, eq-eqb, and_parts, and_from}
use Rattle.std.specs.Bool.{Decides}
use Rattle.std.specs.Cmp.Lexicographic.{pointwise_decides, bytes_decides}
use Rattle.topology_phase.specs.Owners.{Hash}
use Rattle.topology_phase.specs.Phases.{Phase, NoRebalance, ReadOld, ReadAll, ReadNew, same_phase}
use Rattle.topology_phase.specs.Topologies.{Topology, same_owners, same_hash, same_topology}

-- the test for the same owners tells it
pub same_owners_decides : (xs ys : List ℕ) → Decides (same_owners xs ys) (xs ≡ ys)
same_owners_decides = bytes_decides

-- the test for the same hash tells it
pub same_hash_decides : (xs ys : Hash) → Decides (same_hash xs ys) (xs ≡ ys)
same_hash_decides = pointwise_decides bytes_decides

-- phases that pass the test are equal
pub same_phase_is : (p q : Phase) → same_phase p q ≡ true → p ≡ q
same_phase_is NoRebalance NoRebalance e = refl
same_phase_is NoRebalance ReadOld e = absurd (cc)
same_phase_is NoRebalance ReadAll e = absurd (cc)
same_phase_is NoRebalance ReadNew e = absurd (cc)
same_phase_is ReadOld NoRebalance e = absurd (cc)
same_phase_is ReadOld ReadOld e = refl
same_phase_is ReadOld ReadAll e = absurd (cc)
same_phase_is ReadOld ReadNew e = absurd (cc)
same_phase_is ReadAll NoRebalance e = absurd (cc)
same_phase_is ReadAll ReadOld e = absurd (cc)
same_phase_is ReadAll ReadAll e = refl
same_phase_is ReadAll ReadNew e = absurd (cc)
same_phase_is ReadNew NoRebalance e = absurd (cc)
same_phase_is ReadNew ReadOld e = absurd (cc)
same_phase_is ReadNew ReadAll e = absurd (cc)
same_phase_is ReadNew ReadNew e = refl

-- a phase passes the test with itself
pub same_phase_itself : (p : Phase) → same_phase p p ≡ true
same_phase_itself NoRebalance = refl
same_phase_itself ReadOld = refl
same_phase_itself ReadAll = refl
same_phase_itself ReadNew = refl

-- topologies that pass the test are equal
pub same_topology_is : (a b : Topology) → same_topology a b ≡ true → a ≡ b
unfolding same_topology
same_topology_is a b e =
    let ids = and_parts (a.id == b.id) _ e in
    let phases = and_parts (same_phase a.phase b.phase) _ ids.1 in
    let hashes = and_parts (same_hash a.current b.current) _ phases.1 in
    let id = eqb-true a.id b.id ids.0 in
    let phase = same_phase_is a.phase b.phase phases.0 in
    let current = (same_hash_decides a.current b.current).0 hashes.0 in
    let pending = (same_hash_decides a.pending b.pending).0 hashes.1 in
    λ i. record { id = id i; phase = phase i; current = current i; pending = pending i }

-- a topology passes the test with itself
pub same_topology_itself : (a : Topology) → same_topology a a ≡ true
unfolding same_topology
same_topology_itself a =
    and_from (a.id == a.id) _ (eq-eqb a.id a.id refl)
    (and_from (same_phase a.phase a.phase) _ (same_phase_itself a.phase)
    (and_from (same_hash a.current a.current) _ ((same_hash_decides a.current a.current).1 refl) ((same_hash_decides a.pending a.pending).1 refl)))

-- the test for the same topology tells it
pub same_topology_decides : (a b : Topology) → Decides (same_topology a b) (a ≡ b)
same_topology_decides a b = (same_topology_is a b, λ e. ap (same_topology a) (sym e) ∙ same_topology_itself a)
