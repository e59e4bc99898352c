-- A settled topology has the hash that a rebalance leads to.
use Rattle.std.proofs.Common.{◌≡◌, ℕ, ◌+◌, ◌<◌, ◌≤◌, ◌==◌, Bool, true, false, not, ◌&&◌, if◌then◌else◌, List, [], ◌∷◌, length, min, reverse, Option, None, Some, is_none, refl, sym, ap, subst, arith, ◌∙◌}
use mathlib.Core.List.{reverse_aux}
use Rattle.std.proofs.lemmas.Bool.{and_from, and_parts, ne_eqb}
use Rattle.std.specs.List.{AllByRecursion}
use Rattle.grid_base.specs.declared.limits.TheConstants.{LAST_TOPOLOGY, MOST_EVENTS}
use Rattle.grid_event.specs.declared.config.Config.{Config}
use Rattle.grid_event.specs.declared.event.Event.{Event}
use Rattle.grid_event.specs.declared.event.Event.TheVariants.{Write, Erase, Tick, Join, Depart, Announce, Install, Copy, Land, Invoke, Round, Begin, Scan, Fetch, Take, Done, Answer}
use Rattle.hash_factory.proofs.LeastMoves.{balanced_least}
use Rattle.hash_factory.proofs.LeastRows.{full_least}
use Rattle.hash_factory.specs.Formulas.{created}
use Rattle.hash_factory.specs.Least.{is_balanced, least}
use Rattle.topology_coord.proofs.Aiming.{distinct_live}
use Rattle.topology_coord.proofs.NextLaws.{next_follows}
use Rattle.topology_coord.specs.Changes.{announces, departs, installs, joins}
use Rattle.topology_coord.specs.Coordination.{Coordination, all_installed, first_coordination, live_nodes, segment_count}
use Rattle.topology_coord.specs.Following.{aimed, following, may_follow, needs_repair, rebalanced, unrepaired}
use Rattle.topology_phase.proofs.SameTopologies.{same_hash_decides, same_phase_is}
use Rattle.topology_phase.specs.Aims.{by_aim}
use Rattle.topology_phase.specs.declared.aim.Aim.{Aim}
use Rattle.topology_phase.specs.declared.aim.Aim.TheVariants.{Create, Least}
use Rattle.topology_phase.specs.Following.{cancelled, completed, in_phase, repaired}
use Rattle.topology_phase.specs.Phases.{by_phase, same_phase}
use Rattle.topology_phase.specs.Topologies.{Topology, same_hash}
use Rattle.topology_phase.specs.declared.phase.Phase.{Phase}
use Rattle.topology_phase.specs.declared.phase.Phase.TheVariants.{NoRebalance, ReadOld, ReadAll, ReadNew}
use Rattle.cluster_model.proofs.Frames.{coord_stays}
use Rattle.cluster_model.specs.Kept.{IsKept, KeepsTopologies}
use Rattle.cluster_model.specs.State.{State, start}
use Rattle.cluster_model.specs.Step.{allowed, changed, runs, state}
use Rattle.cluster_model.specs.Topologies.{all_copied, announced, departed, installed, joined, lost_by_departure, lost_by_installation}
use Rattle.cluster_laws.proofs.Along.{along}
use Rattle.cluster_laws.proofs.copies.Requests.{may_announce}
use Rattle.cluster_laws.proofs.Runs.{step_keeps}
use Rattle.cluster_laws.proofs.copies.Starts.{good_config, start_kept}
use Rattle.cluster_laws.specs.Laws.{is_settled}
use Rattle.cluster_laws.specs.Settled.{HasSettled, SettledIsAimed}

-- ---- what no event changes

-- two coordinators are to give a segment as many owners, and have the same aim
record AimAlike (a b : Coordination) : Type 0 where
  owners_alike : b.owners ≡ a.owners
  aim_alike : b.aim ≡ a.aim

-- and so have those that are the same
same : (a b : State) → b.holding.coord ≡ a.holding.coord → AimAlike a.holding.coord b.holding.coord
same a b e = record { owners_alike = ap (λ (c : Coordination). c.owners) e; aim_alike = ap (λ (c : Coordination). c.aim) e }

-- no event changes how many owners a segment is to have, nor the aim
aim_stays : (st : State) (event : Event) → AimAlike st.holding.coord (changed st event).holding.coord
unfolding joined departed lost_by_departure announced installed lost_by_installation joins departs announces installs
aim_stays st (Join node) = record { owners_alike = refl; aim_alike = refl }
aim_stays st (Depart node) = record { owners_alike = refl; aim_alike = refl }
aim_stays st (Announce next) = record { owners_alike = refl; aim_alike = refl }
aim_stays st (Install node id) = record { owners_alike = refl; aim_alike = refl }
aim_stays st (Write w) = same st (changed st (Write w)) (coord_stays st (Write w) refl)
aim_stays st (Erase e) = same st (changed st (Erase e)) (coord_stays st (Erase e) refl)
aim_stays st (Tick n) = same st (changed st (Tick n)) (coord_stays st (Tick n) refl)
aim_stays st (Copy c) = same st (changed st (Copy c)) (coord_stays st (Copy c) refl)
aim_stays st (Land r s) = same st (changed st (Land r s)) (coord_stays st (Land r s) refl)
aim_stays st (Invoke i) = same st (changed st (Invoke i)) (coord_stays st (Invoke i) refl)
aim_stays st (Round r) = same st (changed st (Round r)) (coord_stays st (Round r) refl)
aim_stays st (Begin u b) = same st (changed st (Begin u b)) (coord_stays st (Begin u b) refl)
aim_stays st (Scan s) = same st (changed st (Scan s)) (coord_stays st (Scan s) refl)
aim_stays st (Fetch f) = same st (changed st (Fetch f)) (coord_stays st (Fetch f) refl)
aim_stays st (Take t) = same st (changed st (Take t)) (coord_stays st (Take t) refl)
aim_stays st (Done u) = same st (changed st (Done u)) (coord_stays st (Done u) refl)
aim_stays st (Answer a) = same st (changed st (Answer a)) (coord_stays st (Answer a) refl)

-- an equal number, and the next one, are at most one more
equal_within : (m n : ℕ) → m ≡ n → m ≤ n + 1
equal_within m n e = omega arith

-- a number that follows another is at most the one after it
next_within : (m n : ℕ) → m ≡ n + 1 → m ≤ n + 1
next_within m n e = omega arith

-- where the coordinator is the same the number is
at_most : (a b : State) → b.holding.coord ≡ a.holding.coord → b.holding.coord.newest.id ≤ a.holding.coord.newest.id + 1
at_most a b e = equal_within b.holding.coord.newest.id a.holding.coord.newest.id (ap (λ (c : Coordination). c.newest.id) e)

-- an announcement raises the number of the newest topology by one, and no other event changes it
number_grows : (config : Config) (past : List Event) (st : State) (event : Event) → allowed st event ≡ true → IsKept config past st → (changed st event).holding.coord.newest.id ≤ st.holding.coord.newest.id + 1
unfolding joined departed lost_by_departure announced installed lost_by_installation joins departs announces installs
number_grows config past st (Announce next) may kept =
    let is = may_announce config.segments st next kept.parts.topologies may in
    let follows = next_follows (all_copied st.holding) st.holding.coord next kept.parts.topologies.some_live kept.parts.topologies.owned is in
    next_within next.id st.holding.coord.newest.id follows.next_id
number_grows config past st (Join node) may kept = equal_within st.holding.coord.newest.id st.holding.coord.newest.id refl
number_grows config past st (Depart node) may kept = equal_within st.holding.coord.newest.id st.holding.coord.newest.id refl
number_grows config past st (Install node id) may kept = equal_within st.holding.coord.newest.id st.holding.coord.newest.id refl
number_grows config past st (Write w) may kept = at_most st (changed st (Write w)) (coord_stays st (Write w) refl)
number_grows config past st (Erase e) may kept = at_most st (changed st (Erase e)) (coord_stays st (Erase e) refl)
number_grows config past st (Tick n) may kept = at_most st (changed st (Tick n)) (coord_stays st (Tick n) refl)
number_grows config past st (Copy c) may kept = at_most st (changed st (Copy c)) (coord_stays st (Copy c) refl)
number_grows config past st (Land r s) may kept = at_most st (changed st (Land r s)) (coord_stays st (Land r s) refl)
number_grows config past st (Invoke i) may kept = at_most st (changed st (Invoke i)) (coord_stays st (Invoke i) refl)
number_grows config past st (Round r) may kept = at_most st (changed st (Round r)) (coord_stays st (Round r) refl)
number_grows config past st (Begin u b) may kept = at_most st (changed st (Begin u b)) (coord_stays st (Begin u b) refl)
number_grows config past st (Scan s) may kept = at_most st (changed st (Scan s)) (coord_stays st (Scan s) refl)
number_grows config past st (Fetch f) may kept = at_most st (changed st (Fetch f)) (coord_stays st (Fetch f) refl)
number_grows config past st (Take t) may kept = at_most st (changed st (Take t)) (coord_stays st (Take t) refl)
number_grows config past st (Done u) may kept = at_most st (changed st (Done u)) (coord_stays st (Done u) refl)
number_grows config past st (Answer a) may kept = at_most st (changed st (Answer a)) (coord_stays st (Answer a) refl)

-- what a run keeps of the settings, and of the number of the newest topology
record KeepsAim (config : Config) (past : List Event) (st : State) : Type 0 where
  kept : IsKept config past st
  owners_kept : st.holding.coord.owners ≡ config.owners
  aim_kept : st.holding.coord.aim ≡ config.aim
  steps : st.holding.coord.newest.id ≤ 1 + length past

-- each event keeps it
event_keeps : (config : Config) (past : List Event) (st : State) (event : Event) → allowed st event ≡ true → KeepsAim config past st → KeepsAim config (event ∷ past) (changed st event)
event_keeps config past st event may h =
    let alike = aim_stays st event in
    record {
      kept = step_keeps config past st event may h.kept;
      owners_kept = alike.owners_alike ∙ h.owners_kept;
      aim_kept = alike.aim_alike ∙ h.aim_kept;
      steps = let n = number_grows config past st event may h.kept in let s = h.steps in omega arith;
    }

-- a past has as many events as the run
reversed_length : (events past : List Event) → length (reverse_aux events past) ≡ length events + length past
reversed_length [] past = omega arith
reversed_length (event ∷ events) past = let r = reversed_length events (event ∷ past) in omega arith

-- and so it stands at the start
at_start : (config : Config) → IsKept config [] (start config) → KeepsAim config [] (start config)
unfolding first_coordination
at_start config kept = record { kept = kept; owners_kept = refl; aim_kept = refl; steps = omega arith }

-- ---- where the topology is settled

-- where no topology is next, though one may be and nothing moves, the current hash is the aim
none_next : (copied : Bool) (c : Coordination) → may_follow c ≡ true → c.newest.phase ≡ NoRebalance → is_none (following copied c) ≡ true → c.newest.current ≡ aimed c
unfolding following unrepaired
none_next copied c may still none = by_may (may_follow c) may none
  where
    by_same : (b : Bool) → same_hash c.newest.current (aimed c) ≡ b → is_none (if b then None else Some (rebalanced c)) ≡ true → c.newest.current ≡ aimed c
    by_same true e h = (same_hash_decides c.newest.current (aimed c)).0 e
    by_same false e h = absurd (cc)

    by_kind : (phase : Phase) → phase ≡ NoRebalance →
        is_none (by_phase phase (if same_hash c.newest.current (aimed c) then None else Some (rebalanced c)) (if not (same_hash c.newest.pending (aimed c)) then Some (cancelled c.newest) else if copied then Some (in_phase c.newest ReadAll) else None) (Some (in_phase c.newest ReadNew)) (Some (completed c.newest))) ≡ true → c.newest.current ≡ aimed c
    by_kind NoRebalance e h = by_same (same_hash c.newest.current (aimed c)) refl h
    by_kind ReadOld e h = absurd (cc)
    by_kind ReadAll e h = absurd (cc)
    by_kind ReadNew e h = absurd (cc)

    by_repair : (b : Bool) → is_none (if b then Some (repaired c.newest (live_nodes c)) else unrepaired copied c) ≡ true → c.newest.current ≡ aimed c
    by_repair true h = absurd (cc)
    by_repair false h = by_kind c.newest.phase still h

    by_may : (b : Bool) → b ≡ true → is_none (if b then if needs_repair c then Some (repaired c.newest (live_nodes c)) else unrepaired copied c else None) ≡ true → c.newest.current ≡ aimed c
    by_may true e h = by_repair (needs_repair c) h
    by_may false e h = absurd (cc)

-- what the aim is
created_aim : (c : Coordination) → c.aim ≡ Create → aimed c ≡ created (live_nodes c) (segment_count c) c.owners
unfolding aimed
created_aim c e = ap (λ (aim : Aim). by_aim aim (created (live_nodes c) (segment_count c) c.owners) (least (live_nodes c) c.owners c.newest.current)) e

-- where the aim is least, the hash aimed at is the one that moves least
least_aim : (c : Coordination) → c.aim ≡ Least → aimed c ≡ least (live_nodes c) c.owners c.newest.current
unfolding aimed
least_aim c e = ap (λ (aim : Aim). by_aim aim (created (live_nodes c) (segment_count c) c.owners) (least (live_nodes c) c.owners c.newest.current)) e

-- a current hash that is the aim is as each of the settings says
settled_by : (config : Config) (c : Coordination) → KeepsTopologies config.segments c → 0 < config.owners → c.owners ≡ config.owners → c.aim ≡ config.aim → c.newest.current ≡ aimed c → HasSettled config c
settled_by config c kept some owners aim is = record {
  as_aimed = is;
  by_formula = λ e. is ∙ created_aim c (aim ∙ e) ∙ (λ i. created (live_nodes c) (kept.all_segments i) (owners i));
  even = λ e. subst (λ hash. is_balanced (live_nodes c) hash ≡ true) (itself e) (balanced_least (live_nodes c) config.owners c.newest.current (distinct_live c) kept.some_live some);
  full = λ e. subst (AllByRecursion (λ row. length row ≡ min config.owners (length (live_nodes c)))) (itself e) (full_least (live_nodes c) config.owners c.newest.current (distinct_live c) kept.some_live some);
  stays = itself;
}
  where
    itself : config.aim ≡ Least → least (live_nodes c) config.owners c.newest.current ≡ c.newest.current
    itself e = ap (λ (n : ℕ). least (live_nodes c) n c.newest.current) (sym owners) ∙ sym (least_aim c (aim ∙ e)) ∙ sym is

-- in every run of so many events
pub always_settled : SettledIsAimed
always_settled config events good is short settled =
    let limits = good_config config good in
    let st : State = state (start config) events in
    let first : KeepsAim config [] (start config) = at_start config (start_kept config limits) in
    let h : KeepsAim config (reverse events) st = along (KeepsAim config) (event_keeps config) [] (start config) events is first in
    let all = and_parts (all_installed st.holding.coord) _ settled in
    let still = and_parts (same_phase st.holding.coord.newest.phase NoRebalance) _ all.1 in
    let few : length (reverse events) ≡ length events + 0 = reversed_length events [] in
    settled_by config st.holding.coord h.kept.parts.topologies limits.owners h.owners_kept h.aim_kept
    (none_next (all_copied st.holding) st.holding.coord
    (and_from (all_installed st.holding.coord) (not (st.holding.coord.newest.id == LAST_TOPOLOGY)) all.0
    (ap not (ne_eqb st.holding.coord.newest.id LAST_TOPOLOGY (λ e. let s = h.steps in absurd (omega arith)))))
    (same_phase_is st.holding.coord.newest.phase NoRebalance still.0) still.1)
