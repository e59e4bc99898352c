-- What stands in every cluster that a run leads to.
use Rattle.std.proofs.Common.{◌≡◌, ℕ, ◌+◌, map, Bool, true, false, cond, ◌==◌, List, [], ◌∷◌, None, Some, is_none, refl, sym, ap, subst, ◌∙◌}
use Rattle.std.proofs.lemmas.Bool.{and_parts}
use Rattle.std.specs.List.{AllByRecursion}
use Rattle.std.specs.FinMap.{get-empty}
use Rattle.std.specs.Ordering.{nat_cmp}
use Rattle.grid_event.specs.Configs.{is_config, is_up_to}
use Rattle.grid_base.specs.declared.limits.TheConstants.{LAST_CALL}
use Rattle.grid_event.specs.declared.config.Config.{Config}
use Rattle.grid_event.specs.declared.call_events.Ask.{Ask}
use Rattle.grid_event.specs.declared.call_events.InvokeEvent.{InvokeEvent}
use Rattle.grid_event.specs.declared.event.Event.{Event}
use Rattle.grid_event.specs.declared.event.Event.TheVariants.{Write, Erase, Tick, Join, Depart, Announce, Install, Copy, Land, Invoke, Round, Begin, Scan, Fetch, Take, Done, Answer}
use Rattle.pipeline_expr.specs.declared.kind.ValueKind.{ValueKind}
use Rattle.topology_coord.specs.Coordination.{lives}
use Rattle.cluster_model.specs.Calls.{can_invoke, new_call, is_request}
use Rattle.cluster_model.specs.State.{Call, State, Unit, call_of, is_open_unit, start}
use Rattle.cluster_model.specs.Step.{allowed, changed, runs, state}
use Rattle.cluster_core.specs.Runs.{IsReached}
use Rattle.cluster_laws.proofs.causes.CauseCalls.{found_answered, found_aside, found_departed, found_invoked, found_rounded, found_taken}
use Rattle.cluster_model.proofs.Frames.{others_stay}
use Rattle.cluster_laws.proofs.Lists.{each_imply}
use Rattle.cluster_laws.proofs.units.StageRuns.{always_traced}
use Rattle.cluster_laws.proofs.units.UnitPlaces.{Placed}

-- each call asks for what is in its limits
abbrev pub AllChecked : ValueKind → State → Type 0
AllChecked values st = (number : ℕ) (call : Call) → call_of st.calling number ≡ Some call → is_request values call.request ≡ true

-- a call that may be made asks for what is in its limits
invoked_checked : (st : State) (i : InvokeEvent) → allowed st (Invoke i) ≡ true → is_request st.holding.config.values i.request ≡ true
unfolding can_invoke
invoked_checked st i may =
    let a = and_parts (lives st.holding.coord i.node) _ may in
    let b = and_parts (is_none (call_of st.calling i.call)) _ a.1 in
    (and_parts (is_up_to LAST_CALL i.call) (is_request st.holding.config.values i.request) b.1).1

-- each event keeps it
checked_on : (values : ValueKind) (st : State) (event : Event) → st.holding.config.values ≡ values → allowed st event ≡ true → AllChecked values st → AllChecked values (changed st event)
checked_on values st (Write w) v may h number call e = h number call (found_aside st (Write w) refl number call e)
checked_on values st (Erase w) v may h number call e = h number call (found_aside st (Erase w) refl number call e)
checked_on values st (Tick n) v may h number call e = h number call (found_aside st (Tick n) refl number call e)
checked_on values st (Join n) v may h number call e = h number call (found_aside st (Join n) refl number call e)
checked_on values st (Depart n) v may h number call e =
    let was = found_departed st n number call e in
    ap (λ (c : Call). is_request values c.request) (sym was.1.1) ∙ h number was.0 was.1.0
checked_on values st (Announce t) v may h number call e = h number call (found_aside st (Announce t) refl number call e)
checked_on values st (Install n id) v may h number call e = h number call (found_aside st (Install n id) refl number call e)
checked_on values st (Copy c) v may h number call e = h number call (found_aside st (Copy c) refl number call e)
checked_on values st (Land n s) v may h number call e = h number call (found_aside st (Land n s) refl number call e)
checked_on values st (Invoke i) v may h number call e = by_test (i.call == number) (found_invoked st i number call e)
  where
    by_test : (b : Bool) → cond b (new_call i.node i.request ≡ call) (call_of st.calling number ≡ Some call) → is_request values call.request ≡ true
    by_test true is = ap (λ (c : Call). is_request values c.request) (sym is) ∙ ap (λ k. is_request k i.request) (sym v) ∙ invoked_checked st i may
    by_test false there = h number call there
checked_on values st (Round r) v may h number call e =
    let was = found_rounded st r number call e in
    by_test was.0 was.1.0 (r.call == number) was.1.1
  where
    by_test : (before : Call) → call_of st.calling number ≡ Some before → (b : Bool) → cond b (record before { rounds = before.rounds + 1; last_round = map (λ (ask : Ask). ask.unit) r.asks } ≡ call) (before ≡ call) → is_request values call.request ≡ true
    by_test before there true is = ap (λ (c : Call). is_request values c.request) (sym is) ∙ h number before there
    by_test before there false is = ap (λ (c : Call). is_request values c.request) (sym is) ∙ h number before there
checked_on values st (Begin u runs) v may h number call e = h number call (found_aside st (Begin u runs) refl number call e)
checked_on values st (Scan s) v may h number call e = h number call (found_aside st (Scan s) refl number call e)
checked_on values st (Fetch f) v may h number call e = h number call (found_aside st (Fetch f) refl number call e)
checked_on values st (Take t) v may h number call e =
    let was = found_taken st t number call e in
    ap (λ r. is_request values r) was.request ∙ h number was.before was.there
checked_on values st (Done u) v may h number call e = h number call (found_aside st (Done u) refl number call e)
checked_on values st (Answer a) v may h number call e =
    let was = found_answered st a number call e in
    by_test was.0 was.1.0 (a.call == number) was.1.1
  where
    by_test : (before : Call) → call_of st.calling number ≡ Some before → (b : Bool) → cond b (record before { outcome = Some a.outcome } ≡ call) (before ≡ call) → is_request values call.request ≡ true
    by_test before there true is = ap (λ (c : Call). is_request values c.request) (sym is) ∙ h number before there
    by_test before there false is = ap (λ (c : Call). is_request values c.request) (sym is) ∙ h number before there

-- and so does a run
checked_run : (values : ValueKind) (st : State) (events : List Event) → st.holding.config.values ≡ values → runs st events ≡ true → AllChecked values st → AllChecked values (state st events)
checked_run values st [] v is h = h
checked_run values st (event ∷ events) v is h =
    let parts = and_parts (allowed st event) (runs (changed st event) events) is in
    checked_run values (changed st event) events (ap (λ (c : Config). c.values) (others_stay.config st event) ∙ v) parts.1 (checked_on values st event v parts.0 h)

-- at the start no call was made, so each one's pipeline was checked
none_made : (values : ValueKind) (config : Config) → AllChecked values (start config)
none_made values config number call e = absurd (not_there (sym (get-empty {X = Call} nat_cmp number) ∙ e))
  where
    not_there : {A : Type 0} {x : A} → None ≡ Some x → ⊥
    not_there h = cc

-- each call asks for what is in its limits
pub calls_checked : (config : Config) (st : State) → IsReached config st → AllChecked config.values st
calls_checked config st h = subst (AllChecked config.values) h.reaches (checked_run config.values (start config) h.events refl h.is_run (none_made config.values config))

-- the nodes of open units live
pub open_live : (config : Config) (st : State) → is_config config ≡ true → IsReached config st → AllByRecursion (λ (unit : Unit). is_open_unit unit ≡ true → lives st.holding.coord unit.work.node ≡ true) st.calling.units
open_live config st good h =
    subst (λ (s : State). AllByRecursion (λ (unit : Unit). is_open_unit unit ≡ true → lives s.holding.coord unit.work.node ≡ true) s.calling.units) h.reaches
    (each_imply (Placed (state (start config) h.events).holding.coord) _ (λ unit placed. placed.live) (state (start config) h.events).calling.units (always_traced config h.events good h.is_run).placed)
