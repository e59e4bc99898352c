-- A segment that isn't there has no owners.
use Rattle.std.proofs.Common.{◌≡◌, ℕ, ◌≤◌, [], length, arith, refl, ap, ◌∙◌, inl, inr}
use Rattle.std.proofs.lemmas.Bool.{cases_Bool}
use Rattle.std.proofs.lemmas.List.{get_or_past}
use Rattle.topology_phase.specs.Owners.{joined, owners_at}
use Rattle.topology_phase.specs.declared.phase.Phase.{Phase}
use Rattle.topology_phase.specs.declared.phase.Phase.TheVariants.{NoRebalance, ReadOld, ReadAll, ReadNew}
use Rattle.topology_phase.specs.Phases.{by_phase, same_phase}
use Rattle.topology_phase.specs.Topologies.{IsTopology, Topology, read_owners, write_owners}

module _ (t : Topology) (s : ℕ) (kept : IsTopology t) (past : length t.current ≤ s) where
  none_current : owners_at t.current s ≡ []
  none_current = get_or_past t.current s [] past

  none_pending : owners_at t.pending s ≡ []
  none_pending = elim (cases_Bool (same_phase t.phase NoRebalance)) [
    | inl settled ↦ get_or_past t.pending s [] (omega (arith, ap length (kept.settled settled)))
    | inr moves ↦ get_or_past t.pending s [] (omega (arith, past, kept.as_long moves))
  ]

  none_read : (phase : Phase) → by_phase phase [] [] (joined [] []) [] ≡ []
  unfolding joined
  none_read NoRebalance = refl
  none_read ReadOld = refl
  none_read ReadAll = refl
  none_read ReadNew = refl

  none_written : (phase : Phase) → by_phase phase [] (joined [] []) (joined [] []) (joined [] []) ≡ []
  unfolding joined
  none_written NoRebalance = refl
  none_written ReadOld = refl
  none_written ReadAll = refl
  none_written ReadNew = refl

  read_none : read_owners t s ≡ []
  unfolding read_owners
  read_none =
      (λ i. by_phase t.phase (none_current i) (none_current i) (joined (none_current i) (none_pending i)) (none_pending i)) ∙ none_read t.phase

  written_none : write_owners t s ≡ []
  unfolding write_owners
  written_none =
      (λ i. by_phase t.phase (none_current i) (joined (none_current i) (none_pending i)) (joined (none_current i) (none_pending i)) (joined (none_current i) (none_pending i)))
      ∙ none_written t.phase

-- it isn't read
pub readers_past : (t : Topology) (s : ℕ) → IsTopology t → length t.current ≤ s → read_owners t s ≡ []
readers_past = read_none

-- and it isn't written
pub writers_past : (t : Topology) (s : ℕ) → IsTopology t → length t.current ≤ s → write_owners t s ≡ []
writers_past = written_none
