-- Who reads and holds segments.
use Rattle.std.proofs.Common.{◌≡◌, ℕ, ◌≤◌, Bool, true, false, List, [], length, Some, slice_get, refl, ap, ◌∙◌, arith}
use Rattle.std.proofs.lemmas.List.{get_or_past}
use Rattle.std.proofs.lemmas.List.Folds.{list_any_at}
use Rattle.std.proofs.lemmas.Option.{get_or_from_slice_get, slice_get_within}
use Rattle.std.specs.List.{list_any}
use Rattle.topology_phase.specs.Owners.{among, joined, owners_at}
use Rattle.topology_phase.specs.Phases.{by_phase, same_phase}
use Rattle.topology_phase.specs.Topologies.{IsTopology, Topology, holders, read_owners}
use Rattle.topology_phase.specs.declared.phase.Phase.{Phase}
use Rattle.topology_phase.specs.declared.phase.Phase.TheVariants.{NoRebalance, ReadAll, ReadNew, ReadOld}

-- one of a list passes the test
pub any_at : (test : ℕ → Bool) (xs : List ℕ) (i x : ℕ) → slice_get xs i ≡ Some x → test x ≡ true → list_any test xs ≡ true
any_at test xs i x at passes = list_any_at test xs i x (slice_get_within xs i x at) (ap test (get_or_from_slice_get xs i x x at) ∙ passes)

-- two empty lists make an empty one
none_joined : (first second : List ℕ) → first ≡ [] → second ≡ [] → joined first second ≡ []
unfolding joined
none_joined first second none nothing = (λ i. joined (none i) (nothing i))

-- what a phase makes of no owners is none
none_held : (phase : Phase) (first second : List ℕ) → first ≡ [] → (same_phase phase NoRebalance ≡ false → second ≡ [])
    → by_phase phase first first (joined first second) (joined first second) ≡ []
none_held NoRebalance first second none later = none
none_held ReadOld first second none later = none
none_held ReadAll first second none later = none_joined first second none (later refl)
none_held ReadNew first second none later = none_joined first second none (later refl)

none_read : (phase : Phase) (first second : List ℕ) → first ≡ [] → (same_phase phase NoRebalance ≡ false → second ≡ [])
    → by_phase phase first first (joined first second) second ≡ []
none_read NoRebalance first second none later = none
none_read ReadOld first second none later = none
none_read ReadAll first second none later = none_joined first second none (later refl)
none_read ReadNew first second none later = later refl

-- a segment that isn't there has no holder, and no reader
pub no_holder : (topology : Topology) (segment : ℕ) → IsTopology topology → length topology.current ≤ segment → holders topology segment ≡ []
unfolding holders
no_holder topology segment kept past =
    none_held topology.phase (owners_at topology.current segment) (owners_at topology.pending segment) (get_or_past topology.current segment [] past)
    (λ moving. get_or_past topology.pending segment [] (omega (arith, past, kept.as_long moving)))

pub no_reader : (topology : Topology) (node segment : ℕ) → IsTopology topology → length topology.current ≤ segment → among node (read_owners topology segment) ≡ false
unfolding read_owners
no_reader topology node segment kept past =
    ap (among node) (none_read topology.phase (owners_at topology.current segment) (owners_at topology.pending segment) (get_or_past topology.current segment [] past)
    (λ moving. get_or_past topology.pending segment [] (omega (arith, past, kept.as_long moving))))
