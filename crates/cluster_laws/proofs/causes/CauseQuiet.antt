-- A quiet call: every live node has the newest topology, and so have its units, none of which was refused or is lost.
use Rattle.std.proofs.Common.{◌≡◌, ℕ, ◌+◌, ◌<◌, ◌==◌, nat_lt, Bool, true, false, not, ◌&&◌, ◌||◌, inl, inr, cond, if◌then◌else◌, List, [], ◌∷◌, map, length, Option, None, Some, is_none, refl, sym, ap, ◌∙◌, arith}
use Rattle.std.proofs.lemmas.Bool.{and_parts, eqb-true, ltb-true, or_cases, true≢false}
use Rattle.std.specs.FinSet as set_of
use Rattle.std.specs.List.{AllByRecursion, filter, range_with_len}
use Rattle.grid_event.specs.Members.{installed_topology, is_live, live_members, newest_topology, was_member}
use Rattle.grid_event.specs.Spans.{since_invoke}
use Rattle.grid_event.specs.declared.call_events.RoundEvent.{RoundEvent}
use Rattle.grid_event.specs.declared.config.Config.{Config}
use Rattle.grid_event.specs.declared.event.Event.{Event}
use Rattle.grid_event.specs.declared.event.Event.TheVariants.{Write, Erase, Tick, Join, Depart, Announce, Install, Copy, Land, Invoke, Round, Begin, Scan, Fetch, Take, Done, Answer}
use Rattle.local_publisher.specs.declared.unit_state.UnitState.{UnitState}
use Rattle.local_publisher.specs.declared.unit_state.UnitState.TheVariants.{Running, Refused}
use Rattle.topology_coord.proofs.FirstNodes.{in_row}
use Rattle.topology_coord.proofs.MemberLaws.{each_of, installed-joins, lives-joins}
use Rattle.topology_coord.specs.Changes.{joins}
use Rattle.topology_coord.specs.Coordination.{Coordination, installed_id, lives}
use Rattle.topology_phase.proofs.OwnerLists.{among-filter}
use Rattle.topology_phase.specs.Topologies.{Topology}
use Rattle.cluster_model.proofs.Frames.{coord_stays}
use Rattle.cluster_model.specs.Calls.{can_invoke}
use Rattle.cluster_model.specs.Causes.{disturbs, is_even, rounds_of, was_even}
use Rattle.cluster_model.specs.Guarantees.{rounds_in}
use Rattle.cluster_model.specs.Laws.{moves_members}
use Rattle.cluster_model.specs.State.{Call, State, Unit, call_of, is_lost, is_of}
use Rattle.cluster_model.specs.Step.{allowed, changed}
use Rattle.cluster_model.specs.Topologies.{can_join, joined}
use Rattle.cluster_model.specs.Units.{reads}
use Rattle.cluster_laws.proofs.units.CallLinks.{rounds_found}
use Rattle.cluster_laws.proofs.causes.CauseDates.{DatesTold, dated, dates}
use Rattle.cluster_laws.proofs.causes.CauseIds.{IdsOf, refused_behind}
use Rattle.cluster_laws.proofs.causes.CauseUnits.{asked_opens, StageStep, UnitStep, each_unit}
use Rattle.cluster_laws.proofs.causes.CauseWords.{count_rounds}
use Rattle.cluster_laws.proofs.Lists.{each_both, each_imply}
use Rattle.cluster_laws.proofs.units.StageRuns.{IsTraced}
use Rattle.cluster_laws.proofs.units.UnitPlaces.{Placed}
use Rattle.cluster_laws.specs.Laws.{is_refused}

-- ---- few members

-- nodes that were ever members have numbers below 16
abbrev pub FewMembers : Config → List Event → Type 0
FewMembers config past = (n : ℕ) → was_member config past n ≡ true → n < 16

-- each event that may happen leaves members few
pub few_kept : (config : Config) (past : List Event) (st : State) (event : Event) → allowed st event ≡ true → FewMembers config past → FewMembers config (event ∷ past)
unfolding can_join
few_kept config past st (Join q) may few n member = elim (or_cases (q == n) (was_member config past n) member) [
  | inl here ↦ let b = ltb-true q 16 (and_parts (not (set_of.contains st.holding.coord.ever q)) (nat_lt q 16) may).1 in let e = eqb-true q n here in omega arith
  | inr before ↦ few n before
]
few_kept config past st _ may few n member = few n member

-- ---- quiet calls

-- a unit of a quiet call was asked at the newest topology, and neither was refused nor is lost
abbrev pub IsGood : Coordination → ℕ → Unit → Type 0
IsGood c call unit = is_of call unit ≡ true → (unit.work.asked_at ≡ c.newest.id) × ((is_refused unit.work.state || is_lost unit.work.state) ≡ false)

-- every live node has the newest topology, and the units of the call are good
pub record QuietOf (c : Coordination) (call : ℕ) (units : List Unit) : Type 0 where
  pub even : (n : ℕ) → lives c n ≡ true → installed_id c n ≡ c.newest.id
  pub good : AllByRecursion (IsGood c call) units

-- this is known of each call that is quiet so far
abbrev pub AllQuiet : Config → List Event → State → Type 0
AllQuiet config past st = (call : ℕ) → was_even config past call ≡ true → since_invoke disturbs past call ≡ 0 → QuietOf st.holding.coord call st.calling.units

-- what an event that disturbs nothing leaves
record EvenStep (st : State) (event : Event) : Type 0 where
  newest : (changed st event).holding.coord.newest.id ≡ st.holding.coord.newest.id
  even : ((n : ℕ) → lives st.holding.coord n ≡ true → installed_id st.holding.coord n ≡ st.holding.coord.newest.id) → (n : ℕ) → lives (changed st event).holding.coord n ≡ true → installed_id (changed st event).holding.coord n ≡ (changed st event).holding.coord.newest.id

-- an event that moves neither members nor topologies
even_aside : (st : State) (event : Event) → moves_members event ≡ false → EvenStep st event
even_aside st event other =
    let e = coord_stays st event other in
    record {
      newest = ap (λ (c : Coordination). c.newest.id) e;
      even = λ even n live. ap (λ (c : Coordination). installed_id c n) e ∙ even n (ap (λ (c : Coordination). lives c n) (sym e) ∙ live) ∙ ap (λ (c : Coordination). c.newest.id) (sym e);
    }

-- a node that joins has the newest topology
even_joins : (st : State) (q : ℕ) → EvenStep st (Join q)
unfolding joined joins
even_joins st q = record {
  newest = refl;
  even = λ even n live. installed-joins st.holding.coord q n ∙ by_node n (n == q) (even n) (sym (lives-joins st.holding.coord q n) ∙ live);
}
  where
    by_node : (n : ℕ) (b : Bool) → (lives st.holding.coord n ≡ true → installed_id st.holding.coord n ≡ st.holding.coord.newest.id) → (b || lives st.holding.coord n) ≡ true → cond b st.holding.coord.newest.id (installed_id st.holding.coord n) ≡ st.holding.coord.newest.id
    by_node n true even live = refl
    by_node n false even live = even live

-- where none of a list pass a test, each fails it
none_passes : {A B : Type 0} (f : A → B) (p : A → Bool) (xs : List A) → map f (filter p xs) ≡ [] → AllByRecursion (λ x. p x ≡ false) xs
none_passes f p [] e = tt
none_passes f p (x ∷ xs) e = by_test (p x) refl e (none_passes f p xs)
  where
    by_test : (b : Bool) → p x ≡ b → map f (if b then x ∷ filter p xs else filter p xs) ≡ [] → (map f (filter p xs) ≡ [] → AllByRecursion (λ y. p y ≡ false) xs) → (p x ≡ false) × AllByRecursion (λ y. p y ≡ false) xs
    by_test true t e rest = absurd (cc)
    by_test false t e rest = (t, rest e)

module _ (config : Config) (past : List Event) (st : State) (h : IsTraced config past st) (ids : AllByRecursion (IdsOf config past st.holding.coord) st.calling.units) where
  -- an event that disturbs nothing keeps a call quiet
  quiet_on : (event : Event) → allowed st event ≡ true → disturbs event ≡ false → EvenStep st event → (call : ℕ) → QuietOf st.holding.coord call st.calling.units → QuietOf (changed st event).holding.coord call (changed st event).calling.units
  quiet_on event may calm step call quiet = record {
    even = step.even quiet.even;
    good =
        each_unit st event (λ unit. (IsGood st.holding.coord call unit × Placed st.holding.coord unit) × IdsOf config past st.holding.coord unit) (IsGood (changed st event).holding.coord call) good_one
        (λ r found ask e known fresh of. (known.id ∙ quiet.even found.originator known.live ∙ sym step.newest, refl))
        may h.units.numbered
        (each_both (λ unit. IsGood st.holding.coord call unit × Placed st.holding.coord unit) (IdsOf config past st.holding.coord) (λ unit. (IsGood st.holding.coord call unit × Placed st.holding.coord unit) × IdsOf config past st.holding.coord unit) (λ unit a b. (a, b)) st.calling.units
        (each_both (IsGood st.holding.coord call) (Placed st.holding.coord) (λ unit. IsGood st.holding.coord call unit × Placed st.holding.coord unit) (λ unit a b. (a, b)) st.calling.units quiet.good h.placed) ids);
  }
    where
      fails : UnitState → Bool
      fails stage = is_refused stage || is_lost stage

      by_runs : (runs : Bool) (at : ℕ) → runs ≡ true → fails (if runs then Running else Refused at) ≡ false
      by_runs true at e = refl
      by_runs false at e = absurd (cc)

      by_stage : (before : Unit) (after : UnitState) → (before.work.asked_at ≡ st.holding.coord.newest.id) × (fails before.work.state ≡ false) → Placed st.holding.coord before → IdsOf config past st.holding.coord before → StageStep st event before after → fails after ≡ false
      by_stage before after good placed ids (StageStep.Stays e) = ap fails e ∙ good.1
      by_stage before after good placed ids (StageStep.Begins runs event_is asked least reading e) = ap fails e ∙ by_runs runs (installed_id st.holding.coord before.work.node) (runs_so runs reading)
        where
          live : lives st.holding.coord before.work.node ≡ true
          live = placed.live (asked_opens before.work.state asked)

          runs_so : (runs : Bool) → runs ≡ reads st.holding before → runs ≡ true
          runs_so true e = refl
          runs_so false e =
              let behind = refused_behind config past st h.kept before live least ids.right (sym e) in
              let even = quiet.even before.work.node live in let g = good.0 in absurd (omega arith)
      by_stage before after good placed ids (StageStep.Departs event_is opened e) = absurd (true≢false (sym (ap disturbs event_is) ∙ calm))
      by_stage before after good placed ids (StageStep.Installs event_is running other e) = absurd (true≢false (sym (ap disturbs event_is) ∙ calm))
      by_stage before after good placed ids (StageStep.Ends event_is running e) = ap fails e

      good_one : (before after : Unit) → UnitStep st event before after → (IsGood st.holding.coord call before × Placed st.holding.coord before) × IdsOf config past st.holding.coord before → IsGood (changed st event).holding.coord call after
      good_one before after u ((good, placed), ids) of =
          let g = good (ap (λ n. n == call) (sym u.call) ∙ of) in
          (u.asked_at ∙ g.0 ∙ sym step.newest, by_stage before after.work.state g placed ids u.stage)

  -- a call without a round has no units
  pub unasked_of : DatesTold past st.calling.units → (call : ℕ) → rounds_in past call ≡ 0 → AllByRecursion (λ unit. is_of call unit ≡ false) st.calling.units
  unasked_of told call none = none_passes dated (is_of call) st.calling.units (sym (told call) ∙ ap dates (no_rounds (rounds_of past call) (sym (count_rounds past call) ∙ none)))
    where
      no_rounds : (rounds : List RoundEvent) → length rounds ≡ 0 → rounds ≡ []
      no_rounds [] e = refl
      no_rounds (r ∷ rounds) e = absurd (omega arith)

  -- and so has one that isn't there
  none_of_it : DatesTold past st.calling.units → (call : ℕ) → is_none (call_of st.calling call) ≡ true → AllByRecursion (λ unit. is_of call unit ≡ false) st.calling.units
  none_of_it told call none = unasked_of told call ((h.calls call).rounds ∙ by_none (call_of st.calling call) none)
    where
      by_none : (found : Option Call) → is_none found ≡ true → rounds_found found ≡ 0
      by_none None e = refl
      by_none (Some call) e = absurd (cc)

  -- where all live nodes have the newest topology when a call is made, it starts quiet
  even_told : FewMembers config past → is_even config past ≡ true → (n : ℕ) → lives st.holding.coord n ≡ true → installed_id st.holding.coord n ≡ st.holding.coord.newest.id
  even_told few even n live =
      let here : is_live config past n ≡ true = sym (h.kept.told.live n) ∙ live in
      let member = few n (sym (h.kept.told.member n) ∙ h.kept.parts.topologies.member n live) in
      h.kept.told.installed n live
      ∙ eqb-true (installed_topology config past n) (newest_topology config past).id
      (each_of (λ m. installed_topology config past m == (newest_topology config past).id) (live_members config past) n even
      (among-filter n (is_live config past) (range_with_len 0 16) ∙ (λ i. here i && in_row 0 16 n (omega arith) member i)))
      ∙ ap (λ (t : Topology). t.id) (sym h.kept.told.newest)

  -- an event that disturbs nothing and makes no call
  aside : AllQuiet config past st → (event : Event) → allowed st event ≡ true → disturbs event ≡ false → EvenStep st event → ((call : ℕ) → (was_even config (event ∷ past) call ≡ was_even config past call) × (since_invoke disturbs (event ∷ past) call ≡ 0 → since_invoke disturbs past call ≡ 0)) →
      AllQuiet config (event ∷ past) (changed st event)
  aside all event may calm step same call even none = quiet_on event may calm step call (all call (sym (same call).0 ∙ even) ((same call).1 none))

  -- each event that may happen keeps what is known of quiet calls
  pub quiet_kept : DatesTold past st.calling.units → FewMembers config past → (event : Event) → allowed st event ≡ true → AllQuiet config past st → AllQuiet config (event ∷ past) (changed st event)
  unfolding can_invoke
  quiet_kept told few (Depart node) may all call even none = absurd (omega arith)
  quiet_kept told few (Announce topology) may all call even none = absurd (omega arith)
  quiet_kept told few (Install node id) may all call even none = absurd (omega arith)
  quiet_kept told few (Join node) may all call even none = aside all (Join node) may refl (even_joins st node) (λ c. (refl, λ z. omega arith)) call even none
  quiet_kept told few (Invoke i) may all call even none = by_test (i.call == call) refl even none
    where
      missing : is_none (call_of st.calling i.call) ≡ true
      missing = (and_parts (is_none (call_of st.calling i.call)) _ (and_parts (lives st.holding.coord i.node) _ may).1).0

      by_test : (b : Bool) → (i.call == call) ≡ b → (if b then is_even config past else was_even config past call) ≡ true → (if b then 0 else 0 + since_invoke disturbs past call) ≡ 0 → QuietOf (changed st (Invoke i)).holding.coord call (changed st (Invoke i)).calling.units
      by_test true t even none = quiet_on (Invoke i) may refl (even_aside st (Invoke i) refl) call (record {
        even = even_told few even;
        good = each_imply (λ unit. is_of call unit ≡ false) (IsGood st.holding.coord call) (λ unit other of. absurd (true≢false (sym of ∙ other))) st.calling.units
            (none_of_it told call (ap (λ n. is_none (call_of st.calling n)) (sym (eqb-true i.call call t)) ∙ missing));
      })
      by_test false t even none = quiet_on (Invoke i) may refl (even_aside st (Invoke i) refl) call (all call even (omega arith))
  quiet_kept told few (Write w) may all call even none = aside all (Write w) may refl (even_aside st (Write w) refl) (λ c. (refl, λ z. omega arith)) call even none
  quiet_kept told few (Erase w) may all call even none = aside all (Erase w) may refl (even_aside st (Erase w) refl) (λ c. (refl, λ z. omega arith)) call even none
  quiet_kept told few (Tick ticks) may all call even none = aside all (Tick ticks) may refl (even_aside st (Tick ticks) refl) (λ c. (refl, λ z. omega arith)) call even none
  quiet_kept told few (Copy c) may all call even none = aside all (Copy c) may refl (even_aside st (Copy c) refl) (λ c. (refl, λ z. omega arith)) call even none
  quiet_kept told few (Land receiver segment) may all call even none = aside all (Land receiver segment) may refl (even_aside st (Land receiver segment) refl) (λ c. (refl, λ z. omega arith)) call even none
  quiet_kept told few (Round r) may all call even none = aside all (Round r) may refl (even_aside st (Round r) refl) (λ c. (refl, λ z. omega arith)) call even none
  quiet_kept told few (Begin unit runs) may all call even none = aside all (Begin unit runs) may refl (even_aside st (Begin unit runs) refl) (λ c. (refl, λ z. omega arith)) call even none
  quiet_kept told few (Scan s) may all call even none = aside all (Scan s) may refl (even_aside st (Scan s) refl) (λ c. (refl, λ z. omega arith)) call even none
  quiet_kept told few (Fetch f) may all call even none = aside all (Fetch f) may refl (even_aside st (Fetch f) refl) (λ c. (refl, λ z. omega arith)) call even none
  quiet_kept told few (Take t) may all call even none = aside all (Take t) may refl (even_aside st (Take t) refl) (λ c. (refl, λ z. omega arith)) call even none
  quiet_kept told few (Done unit) may all call even none = aside all (Done unit) may refl (even_aside st (Done unit) refl) (λ c. (refl, λ z. omega arith)) call even none
  quiet_kept told few (Answer a) may all call even none = aside all (Answer a) may refl (even_aside st (Answer a) refl) (λ c. (refl, λ z. omega arith)) call even none
