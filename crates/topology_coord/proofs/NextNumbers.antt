-- The number of the next topology.
use Rattle.std.proofs.Common.{◌≡◌, ℕ, ◌+◌, Bool, true, false, not, List, Option, Some, None, refl, sym, ap, ◌∙◌, if◌then◌else◌}
use Rattle.std.specs.Option.{unwrap_or}
use Rattle.topology_phase.specs.declared.phase.Phase.{Phase}
use Rattle.topology_phase.specs.declared.phase.Phase.TheVariants.{NoRebalance, ReadOld, ReadAll, ReadNew}
use Rattle.topology_phase.specs.Phases.{by_phase}
use Rattle.topology_phase.specs.Topologies.{Topology, same_hash}
use Rattle.topology_phase.specs.Following.{cancelled, completed, in_phase, repaired}
use Rattle.topology_coord.specs.Coordination.{Coordination, live_nodes}
use Rattle.topology_coord.specs.Following.{aimed, following, may_follow, needs_repair, rebalanced, unrepaired}

-- a topology that may be there has this number
abbrev Numbered : ℕ → Option Topology → Type 0
Numbered id next = (t : Topology) → next ≡ Some t → t.id ≡ id

-- where no topology is there, it has any number
none_numbered : (id : ℕ) → Numbered id None
none_numbered id t e = absurd (cc)

-- a topology has its number
one_numbered : (next : Topology) → Numbered next.id (Some next)
one_numbered next t e = ap (λ o. (unwrap_or o next).id) (sym e)

-- where both have the number, either has
either_numbered : (id : ℕ) (b : Bool) (x y : Option Topology) → Numbered id x → Numbered id y → Numbered id (if b then x else y)
either_numbered id true x y h k = h
either_numbered id false x y h k = k

-- where all four have the number, the one of a phase has
phase_numbered : (id : ℕ) (phase : Phase) (x y z w : Option Topology) → Numbered id x → Numbered id y → Numbered id z → Numbered id w → Numbered id (by_phase phase x y z w)
phase_numbered id NoRebalance x y z w a b c d = a
phase_numbered id ReadOld x y z w a b c d = b
phase_numbered id ReadAll x y z w a b c d = c
phase_numbered id ReadNew x y z w a b c d = d

-- without repair the next topology has the number after the newest
unrepaired_numbered : (copied : Bool) (c : Coordination) → Numbered (c.newest.id + 1) (unrepaired copied c)
unfolding unrepaired
unrepaired_numbered copied c =
    let id = c.newest.id + 1 in
    phase_numbered id c.newest.phase _ _ _ _
    (either_numbered id (same_hash c.newest.current (aimed c)) None (Some (rebalanced c)) (none_numbered id) (one_numbered (rebalanced c)))
    (either_numbered id (not (same_hash c.newest.pending (aimed c))) (Some (cancelled c.newest)) (if copied then Some (in_phase c.newest ReadAll) else None) (one_numbered (cancelled c.newest))
    (either_numbered id copied (Some (in_phase c.newest ReadAll)) None (one_numbered (in_phase c.newest ReadAll)) (none_numbered id)))
    (one_numbered (in_phase c.newest ReadNew))
    (one_numbered (completed c.newest))

-- a repair has the next number
repaired_id : (t : Topology) (live : List ℕ) → (repaired t live).id ≡ t.id + 1
unfolding repaired
repaired_id t live = refl

-- the next topology has the number after the newest
pub next_numbered : (copied : Bool) (c : Coordination) (next : Topology) → following copied c ≡ Some next → next.id ≡ c.newest.id + 1
unfolding following
next_numbered copied c =
    let id = c.newest.id + 1 in
    either_numbered id (may_follow c) (if needs_repair c then Some (repaired c.newest (live_nodes c)) else unrepaired copied c) None
    (either_numbered id (needs_repair c) (Some (repaired c.newest (live_nodes c))) (unrepaired copied c)
    (λ t e. one_numbered (repaired c.newest (live_nodes c)) t e ∙ repaired_id c.newest (live_nodes c)) (unrepaired_numbered copied c))
    (none_numbered id)
