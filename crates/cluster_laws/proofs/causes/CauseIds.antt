-- The numbers of topologies: at which units were asked and closed, and which nodes have installed.
use Rattle.std.proofs.Common.{◌≡◌, ℕ, ◌+◌, ◌≤◌, ◌<◌, ◌==◌, Bool, true, false, not, ◌⊎◌, inl, inr, cond, if◌then◌else◌, List, ◌∷◌, Option, None, Some, is_some, refl, sym, ap, ◌∙◌, arith, subst, unwrap_or}
use Rattle.std.proofs.lemmas.Bool.{and_parts, cases_eq, eq-eqb, ne_eqb, true≢false}
use Rattle.std.specs.FinMap as map_of
use Rattle.std.specs.List.{AllByRecursion}
use Rattle.grid_event.specs.declared.call_events.Ask.{Ask}
use Rattle.grid_event.specs.declared.call_events.RoundEvent.{RoundEvent}
use Rattle.grid_event.specs.declared.config.Config.{Config}
use Rattle.grid_event.specs.declared.event.Event.{Event}
use Rattle.grid_event.specs.declared.event.Event.TheVariants.{Write, Erase, Tick, Join, Depart, Announce, Install, Copy, Land, Invoke, Round, Begin, Scan, Fetch, Take, Done, Answer}
use Rattle.local_publisher.specs.declared.unit_state.UnitState.{UnitState}
use Rattle.local_publisher.specs.declared.unit_state.UnitState.TheVariants.{Running, Refused, Lost}
use Rattle.suspect_retry.specs.Rounds.{closed_at}
use Rattle.topology_coord.proofs.MemberLaws.{installed-departs, installed-installs, installed-joins, lives-departs}
use Rattle.topology_coord.specs.Changes.{announces, departs, installs, joins}
use Rattle.topology_coord.specs.Coordination.{Coordination, installed_id, lives, topology_of}
use Rattle.topology_phase.specs.Owners.{among}
use Rattle.topology_phase.specs.Topologies.{Topology, read_owners}
use Rattle.cluster_model.proofs.Frames.{coord_stays}
use Rattle.cluster_model.specs.Calls.{unit_made}
use Rattle.cluster_model.specs.Kept.{IsKept, KeepsTopologies}
use Rattle.cluster_model.specs.Laws.{moves_members}
use Rattle.cluster_model.specs.State.{Call, State, Unit, is_asked, is_running}
use Rattle.cluster_model.specs.Step.{allowed, changed}
use Rattle.cluster_model.specs.Told.{topology_numbered}
use Rattle.cluster_model.specs.Topologies.{announced, departed, installed, joined, lost_by_departure, lost_by_installation}
use Rattle.cluster_model.specs.Units.{reads}
use Rattle.cluster_laws.proofs.causes.CauseUnits.{asked_opens, FreshAsk, RoundKnown, StageStep, UnitStep, each_unit}
use Rattle.cluster_laws.proofs.copies.Histories.{installed_told_by}
use Rattle.cluster_laws.proofs.Lists.{each_both}
use Rattle.cluster_laws.proofs.Numbers.{NumberedFrom}
use Rattle.cluster_laws.proofs.units.UnitPlaces.{AllPlaced, Placed, running_open}

-- the stage has the number of a topology: the unit was refused, or was lost by an installation
abbrev pub has_number : UnitState → Bool
has_number (Refused at) = true
has_number (Lost (Some at)) = true
has_number _ = false

-- no node has installed a topology above the newest
pub at_most_newest : (segments : ℕ) (c : Coordination) → KeepsTopologies segments c → (n : ℕ) → installed_id c n ≤ c.newest.id
at_most_newest segments c h n = by_found (map_of.get c.installed n) refl
  where
    before_newest : (c.newest ≡ c.before) ⊎ (c.newest.id ≡ c.before.id + 1) → c.before.id ≤ c.newest.id
    before_newest (inl same) = let e = ap (λ (t : Topology). t.id) same in omega arith
    before_newest (inr more) = omega arith

    by_installed : (id : ℕ) → (id ≡ c.newest.id) ⊎ (id ≡ c.before.id) → id ≤ c.newest.id
    by_installed id (inl e) = omega arith
    by_installed id (inr e) = let b = before_newest h.numbered in omega arith

    by_found : (o : Option ℕ) → map_of.get c.installed n ≡ o → unwrap_or o 0 ≤ c.newest.id
    by_found None e = omega arith
    by_found (Some id) e =
        by_installed id (subst (λ o. (unwrap_or o 0 ≡ c.newest.id) ⊎ (unwrap_or o 0 ≡ c.before.id)) e (h.installed n (ap is_some e)))

-- what an event does to the numbers of topologies: the newest doesn't fall, nor what a live node has installed, and what had a number keeps it
pub record NumbersStep (config : Config) (past : List Event) (st : State) (event : Event) : Type 0 where
  pub newest : st.holding.coord.newest.id ≤ (changed st event).holding.coord.newest.id
  pub installed : (n : ℕ) → lives (changed st event).holding.coord n ≡ true → installed_id st.holding.coord n ≤ installed_id (changed st event).holding.coord n
  pub numbered : (id : ℕ) → id ≤ st.holding.coord.newest.id → topology_numbered config (event ∷ past) id ≡ topology_numbered config past id

-- an event that moves neither members nor topologies
numbers_aside : (config : Config) (past : List Event) (st : State) (event : Event) → moves_members event ≡ false → ((id : ℕ) → topology_numbered config (event ∷ past) id ≡ topology_numbered config past id) → NumbersStep config past st event
numbers_aside config past st event other same =
    let e : (changed st event).holding.coord ≡ st.holding.coord = coord_stays st event other in
    record {
      newest = let n = ap (λ (c : Coordination). c.newest.id) e in omega arith;
      installed = λ n live. let i = ap (λ (c : Coordination). installed_id c n) e in omega arith;
      numbered = λ id within. same id;
    }

-- a number that is at most the newest one stays so where it is replaced by that
raised : (b : Bool) (i newest : ℕ) → i ≤ newest → i ≤ cond b newest i
raised true i newest h = h
raised false i newest h = omega arith

-- each event is such a step
pub numbers_step : (config : Config) (past : List Event) (st : State) (event : Event) → IsKept config past st → ((next : Topology) → event ≡ Announce next → next.id ≡ st.holding.coord.newest.id + 1) → NumbersStep config past st event
unfolding joined departed lost_by_departure announced installed lost_by_installation joins departs announces installs
numbers_step config past st (Join q) kept next = record {
  newest = omega arith;
  installed = λ n live. let e = installed-joins st.holding.coord q n in let r = raised (n == q) (installed_id st.holding.coord n) st.holding.coord.newest.id (at_most_newest config.segments st.holding.coord kept.parts.topologies n) in omega arith;
  numbered = λ id within. refl;
}
numbers_step config past st (Depart q) kept next = record {
  newest = omega arith;
  installed = λ n live.
      let was = and_parts (not (n == q)) (lives st.holding.coord n) (sym (lives-departs st.holding.coord q n) ∙ live) in
      let e : installed_id (departs st.holding.coord q) n ≡ installed_id st.holding.coord n = installed-departs st.holding.coord q n ∙ but (n == q) (installed_id st.holding.coord n) was.0 in omega arith;
  numbered = λ id within. refl;
}
  where
    but : (b : Bool) (i : ℕ) → not b ≡ true → cond b 0 i ≡ i
    but true i h = absurd (cc)
    but false i h = refl
numbers_step config past st (Announce t) kept next = record {
  newest = let m = next t refl in omega arith;
  installed = λ n live. omega arith;
  numbered = λ id within. ap (λ b. cond b t (topology_numbered config past id)) (ne_eqb t.id id (λ e. let m = next t refl in absurd (omega arith)));
}
numbers_step config past st (Install q id) kept next = record {
  newest = omega arith;
  installed = λ n live. let e = installed-installs st.holding.coord q n in let r = raised (n == q) (installed_id st.holding.coord n) st.holding.coord.newest.id (at_most_newest config.segments st.holding.coord kept.parts.topologies n) in omega arith;
  numbered = λ id within. refl;
}
numbers_step config past st (Write w) kept next = numbers_aside config past st (Write w) refl (λ id. refl)
numbers_step config past st (Erase e) kept next = numbers_aside config past st (Erase e) refl (λ id. refl)
numbers_step config past st (Tick ticks) kept next = numbers_aside config past st (Tick ticks) refl (λ id. refl)
numbers_step config past st (Copy c) kept next = numbers_aside config past st (Copy c) refl (λ id. refl)
numbers_step config past st (Land receiver segment) kept next = numbers_aside config past st (Land receiver segment) refl (λ id. refl)
numbers_step config past st (Invoke i) kept next = numbers_aside config past st (Invoke i) refl (λ id. refl)
numbers_step config past st (Round r) kept next = numbers_aside config past st (Round r) refl (λ id. refl)
numbers_step config past st (Begin unit runs) kept next = numbers_aside config past st (Begin unit runs) refl (λ id. refl)
numbers_step config past st (Scan s) kept next = numbers_aside config past st (Scan s) refl (λ id. refl)
numbers_step config past st (Fetch f) kept next = numbers_aside config past st (Fetch f) refl (λ id. refl)
numbers_step config past st (Take t) kept next = numbers_aside config past st (Take t) refl (λ id. refl)
numbers_step config past st (Done unit) kept next = numbers_aside config past st (Done unit) refl (λ id. refl)
numbers_step config past st (Answer a) kept next = numbers_aside config past st (Answer a) refl (λ id. refl)

-- ---- units

-- what is known of a unit's numbers: that at which it was refused or lost by an installation is above that at which it was asked; while it
-- runs its node has installed the latter; neither is above the newest; and its node read the segment by the topology with the number
pub record IdsOf (config : Config) (past : List Event) (c : Coordination) (unit : Unit) : Type 0 where
  pub higher : has_number unit.work.state ≡ true → unit.work.asked_at < closed_at unit.work.state
  pub reached : is_running unit.work.state ≡ true → unit.work.asked_at ≤ installed_id c unit.work.node
  pub asked : unit.work.asked_at ≤ c.newest.id
  pub closed : closed_at unit.work.state ≤ c.newest.id
  pub right : among unit.work.node (read_owners (topology_numbered config past unit.work.asked_at) unit.work.segment) ≡ true

-- the topology that a live node has installed is the one with the number
pub topology_by_number : (config : Config) (past : List Event) (st : State) → IsKept config past st → (n : ℕ) → lives st.holding.coord n ≡ true → topology_of st.holding.coord n ≡ topology_numbered config past (installed_id st.holding.coord n)
topology_by_number config past st kept n live =
    installed_told_by config.segments config past st kept.told kept.parts.topologies n (sym (kept.told.live n) ∙ live)
    ∙ ap (topology_numbered config past) (sym (kept.told.installed n live))

-- a unit that was asked, and whose node doesn't read its segment now, is behind what its node has installed
pub refused_behind : (config : Config) (past : List Event) (st : State) → IsKept config past st → (unit : Unit) → lives st.holding.coord unit.work.node ≡ true → unit.work.asked_at ≤ installed_id st.holding.coord unit.work.node →
    among unit.work.node (read_owners (topology_numbered config past unit.work.asked_at) unit.work.segment) ≡ true → reads st.holding unit ≡ false → unit.work.asked_at < installed_id st.holding.coord unit.work.node
refused_behind config past st kept unit live least right none = elim (cases_eq unit.work.asked_at (installed_id st.holding.coord unit.work.node)) [
  | inl same ↦
      let t : topology_of st.holding.coord unit.work.node ≡ topology_numbered config past unit.work.asked_at =
      topology_by_number config past st kept unit.work.node live ∙ ap (topology_numbered config past) (sym same) in
      absurd (true≢false (sym right ∙ ap (λ x. among unit.work.node (read_owners x unit.work.segment)) (sym t) ∙ none))
  | inr other ↦ omega (arith, other)
]

-- after an event
module _ (config : Config) (past : List Event) (st : State) (event : Event) (kept : IsKept config past st) (step : NumbersStep config past st event) where
  -- the coordination after the event
  abbrev later : Coordination
  later = (changed st event).holding.coord

  -- a node that read the segment by the topology with a number reads it so after the event
  right_then : (unit : Unit) → unit.work.asked_at ≤ st.holding.coord.newest.id → among unit.work.node (read_owners (topology_numbered config past unit.work.asked_at) unit.work.segment) ≡ true →
      among unit.work.node (read_owners (topology_numbered config (event ∷ past) unit.work.asked_at) unit.work.segment) ≡ true
  right_then unit within right = ap (λ t. among unit.work.node (read_owners t unit.work.segment)) (step.numbered unit.work.asked_at within) ∙ right

  -- a unit with the same ask and this stage after the event
  with_stage : (before after : Unit) → UnitStep st event before after → IdsOf config past st.holding.coord before →
      (has_number after.work.state ≡ true → before.work.asked_at < closed_at after.work.state) → (is_running after.work.state ≡ true → before.work.asked_at ≤ installed_id later before.work.node) →
      closed_at after.work.state ≤ later.newest.id → IdsOf config (event ∷ past) later after
  with_stage before after u h higher reached closed = record {
    higher = λ n. let a = u.asked_at in let b = higher n in omega arith;
    reached = λ r. subst (λ n. after.work.asked_at ≤ installed_id later n) (sym u.node) (let a = u.asked_at in let b = reached r in omega arith);
    asked = let a = u.asked_at in let b = h.asked in let n = step.newest in omega arith;
    closed = closed;
    right =
        (λ i. among (u.node i) (read_owners (topology_numbered config (event ∷ past) (u.asked_at i)) (u.segment i)))
        ∙ right_then before h.asked h.right;
  }

  -- what is known of a unit before the event: its numbers and its place
  abbrev Both : Unit → Type 0
  Both unit = IdsOf config past st.holding.coord unit × Placed st.holding.coord unit

  -- what is known after it: its numbers, where it is placed
  abbrev Then : Unit → Type 0
  Then unit = Placed later unit → IdsOf config (event ∷ past) later unit

  -- a unit keeps what is known of its numbers
  ids_one : (before after : Unit) → UnitStep st event before after → Both before → Then after
  ids_one before after u (h, p) q = by_stage u.stage
    where
      live_then : is_running after.work.state ≡ true → lives later before.work.node ≡ true
      live_then r = ap (lives later) (sym u.node) ∙ q.live (running_open after.work.state r)

      by_runs : (runs : Bool) → runs ≡ reads st.holding before → is_asked before.work.state ≡ true → before.work.asked_at ≤ installed_id st.holding.coord before.work.node →
          after.work.state ≡ (if runs then Running else Refused (installed_id st.holding.coord before.work.node)) → IdsOf config (event ∷ past) later after
      by_runs true reading asked least e =
          with_stage before after u h (λ n. let x : has_number after.work.state ≡ false = ap has_number e in absurd (cc))
          (λ r. let i = step.installed before.work.node (live_then r) in omega arith)
          (let x : closed_at after.work.state ≡ 0 = ap closed_at e in omega arith)
      by_runs false reading asked least e =
          let behind = refused_behind config past st kept before (p.live (asked_opens before.work.state asked)) least h.right (sym reading) in
          let x : closed_at after.work.state ≡ installed_id st.holding.coord before.work.node = ap closed_at e in
          with_stage before after u h (λ n. omega arith)
          (λ r. let y : is_running after.work.state ≡ false = ap is_running e in absurd (cc))
          (let t = at_most_newest config.segments st.holding.coord kept.parts.topologies before.work.node in let n = step.newest in omega arith)

      by_stage : StageStep st event before after.work.state → IdsOf config (event ∷ past) later after
      by_stage (StageStep.Stays e) =
          with_stage before after u h (λ n. let x = ap closed_at e in let y = h.higher (ap has_number (sym e) ∙ n) in omega arith)
          (λ r. let x = h.reached (ap is_running (sym e) ∙ r) in let i = step.installed before.work.node (live_then r) in omega arith)
          (let x = ap closed_at e in let y = h.closed in let n = step.newest in omega arith)
      by_stage (StageStep.Begins runs event_is asked least reading e) = by_runs runs reading asked least e
      by_stage (StageStep.Departs event_is opened e) =
          with_stage before after u h (λ n. let x : has_number after.work.state ≡ false = ap has_number e in absurd (cc))
          (λ r. let y : is_running after.work.state ≡ false = ap is_running e in absurd (cc))
          (let x : closed_at after.work.state ≡ 0 = ap closed_at e in omega arith)
      by_stage (StageStep.Installs event_is running other e) =
          let x : closed_at after.work.state ≡ st.holding.coord.newest.id = ap closed_at e in
          let least = h.reached running in
          let t = at_most_newest config.segments st.holding.coord kept.parts.topologies before.work.node in
          with_stage before after u h (λ n. below (installed_id st.holding.coord before.work.node) least t other x)
          (λ r. let y : is_running after.work.state ≡ false = ap is_running e in absurd (cc))
          (let n = step.newest in omega arith)
        where
          below : (i : ℕ) → before.work.asked_at ≤ i → i ≤ st.holding.coord.newest.id → (i == st.holding.coord.newest.id) ≡ false → closed_at after.work.state ≡ st.holding.coord.newest.id → before.work.asked_at < closed_at after.work.state
          below i least t other x = elim (cases_eq i st.holding.coord.newest.id) [
            | inl same ↦ absurd (true≢false (sym (eq-eqb i st.holding.coord.newest.id same) ∙ other))
            | inr differs ↦ omega (arith, differs)
          ]
      by_stage (StageStep.Ends event_is running e) =
          with_stage before after u h (λ n. let x : has_number after.work.state ≡ false = ap has_number e in absurd (cc))
          (λ r. let y : is_running after.work.state ≡ false = ap is_running e in absurd (cc))
          (let x : closed_at after.work.state ≡ 0 = ap closed_at e in omega arith)

  -- of a unit that is just asked it is known
  ids_fresh : (r : RoundEvent) (call : Call) (ask : Ask) → event ≡ Round r → RoundKnown st r call → FreshAsk st call.originator ask → Then (unit_made r.call r.id ask)
  ids_fresh r call ask e known fresh q =
      let top = at_most_newest config.segments st.holding.coord kept.parts.topologies call.originator in
      let n = step.newest in
      let id = known.id in
      record {
        higher = λ n. absurd (cc);
        reached = λ r. absurd (cc);
        asked = omega arith;
        closed = omega arith;
        right =
            right_then (unit_made r.call r.id ask) (omega arith)
            (ap (λ t. among ask.node (read_owners t ask.segment)) (ap (topology_numbered config past) known.id ∙ sym (topology_by_number config past st kept call.originator known.live)) ∙ fresh.reads);
      }

  -- each event keeps what is known of the numbers
  pub ids_kept : allowed st event ≡ true → NumberedFrom 1 st.calling.units → AllPlaced st.holding.coord st.calling.units → AllPlaced later (changed st event).calling.units → AllByRecursion (IdsOf config past st.holding.coord) st.calling.units →
      AllByRecursion (IdsOf config (event ∷ past) later) (changed st event).calling.units
  ids_kept may numbered placed after all =
      each_both (Placed later) Then (IdsOf config (event ∷ past) later) (λ unit q f. f q) (changed st event).calling.units after
      (each_unit st event Both Then ids_one ids_fresh may numbered
      (each_both (IdsOf config past st.holding.coord) (Placed st.holding.coord) Both (λ unit h p. (h, p)) st.calling.units all placed))
