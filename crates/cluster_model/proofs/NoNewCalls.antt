-- Driving a call and advancing the topology make no call.
use Rattle.std.proofs.Common.{◌≡◌, ℕ, Bool, false, List, Option, None, Some, refl, ap, subst, if◌then◌else◌, unwrap_or}
use Rattle.std.specs.Option.{option_map, option_and_then}
use Rattle.grid_base.specs.declared.entry.Entry.{Entry}
use Rattle.grid_event.specs.Spans.{invokes}
use Rattle.grid_event.specs.declared.event.Event.{Event}
use Rattle.grid_event.specs.declared.event.Event.TheVariants as events
use Rattle.grid_event.specs.declared.outcome.Outcome.{Outcome}
use Rattle.topology_coord.specs.Coordination.{live_nodes}
use Rattle.topology_coord.specs.Following.{cancels}
use Rattle.topology_phase.specs.Topologies.{Topology}
use Rattle.cluster_model.specs.Answers.{outcome_of}
use Rattle.cluster_model.specs.Commands.{advance_event, announce_event, announce_with, answer_event, begin_event, cancel_event, cancel_with, copy_event, copy_of, copy_with, destinations, done_event, drive_event, fetch_event, first_some, if_any_allowed, install_event, is_unanswered, land_event, open_units, or_else, round_event, round_with, scan_event, take_event, take_with, unit_event}
use Rattle.cluster_model.specs.State.{Holding, State, Unit, call_of}
use Rattle.cluster_model.specs.State as states
use Rattle.cluster_model.specs.Step.{allowed}
use Rattle.cluster_model.specs.Topologies.{can_announce, can_install, next_topology}
use Rattle.cluster_model.specs.Transfers.{can_copy, can_land, provider}
use Rattle.cluster_model.specs.Units.{next_batch, reads}
use Rattle.cluster_model.proofs.ChosenSteps.{Found, else_found, if_found, next_found, none_found, some_found, test_found}

-- the event makes no call
abbrev pub MakesNone : Event → Type 0
MakesNone event = (call : ℕ) → invokes call event ≡ false

-- an event that makes none, where it may happen
any_found : (st : State) (found : Option Event) → Found MakesNone found → Found MakesNone (if_any_allowed st found)
any_found st None h = none_found MakesNone
any_found st (Some event) h = if_found MakesNone event (allowed st event) (λ _. h event refl)

-- one that is made of what may be there
map_found : {A : Type 0} (f : A → Event) → ((x : A) → MakesNone (f x)) → (found : Option A) → Found MakesNone (option_map f found)
map_found f none None event e = absurd (cc)
map_found f none (Some x) event e = subst MakesNone (ap (λ found. unwrap_or found (f x)) e) (none x)

-- an announcement makes no call
announce_found : (h : Holding) → Found MakesNone (announce_event h)
announce_found h = next_found MakesNone (announce_with h) (λ topology. if_found MakesNone (events.Announce topology) (can_announce h topology) (λ _ call. refl)) (next_topology h)

-- nor does one that gives up the rebalance
cancel_found : (h : Holding) (next : Option Topology) → Found MakesNone (cancel_with h next)
cancel_found h None = none_found MakesNone
cancel_found h (Some next) = test_found MakesNone (cancels h.coord next) (announce_with h next) (if_found MakesNone (events.Announce next) (can_announce h next) (λ _ call. refl))

-- nor an installation
install_found : (h : Holding) (node : ℕ) → Found MakesNone (install_event h node)
install_found h node = if_found MakesNone (events.Install node h.coord.newest.id) (can_install h node h.coord.newest.id) (λ _ call. refl)

-- nor a landing
land_found : (h : Holding) (d : ℕ × ℕ) → Found MakesNone (land_event h d.0 d.1)
land_found h d = if_found MakesNone (events.Land d.0 d.1) (can_land h d.0 d.1) (λ _ call. refl)

-- nor a copy
copy_found : (h : Holding) (d : ℕ × ℕ) → Found MakesNone (copy_event h d.0 d.1)
copy_found h d =
    next_found MakesNone (copy_with h d.0 d.1) (λ node. if_found MakesNone (events.Copy (copy_of h d.0 d.1 node)) (can_copy h (copy_of h d.0 d.1 node)) (λ _ call. refl)) (provider h d.0 d.1)

-- a step of the topology makes no call
pub advance_makes_none : (h : Holding) → Found MakesNone (advance_event h)
unfolding advance_event
advance_makes_none h =
    else_found MakesNone (first_some (install_event h) (live_nodes h.coord)) _ (some_found MakesNone (install_event h) (install_found h) (live_nodes h.coord))
    (else_found MakesNone (cancel_event h) _ (cancel_found h (next_topology h))
    (else_found MakesNone (first_some (λ d. land_event h d.0 d.1) (destinations h)) _ (some_found MakesNone (λ (d : ℕ × ℕ). land_event h d.0 d.1) (land_found h) (destinations h))
    (else_found MakesNone (first_some (λ d. copy_event h d.0 d.1) (destinations h)) (announce_event h) (some_found MakesNone (λ (d : ℕ × ℕ). copy_event h d.0 d.1) (copy_found h) (destinations h))
    (announce_found h))))

-- a take makes no call
take_found : (unit : Unit) (call : Option states.Call) (batch : Option (List Entry)) → Found MakesNone (take_with unit call batch)
take_found unit None batch event e = absurd (cc)
take_found unit (Some call) None event e = absurd (cc)
take_found unit (Some call) (Some batch) event e = subst MakesNone (ap (λ found. unwrap_or found event) e) (λ call. refl)

-- nor does any step of a unit
unit_found : (st : State) (unit : Unit) → Found MakesNone (unit_event st unit)
unit_found st unit =
    else_found MakesNone (take_event st unit) _ (any_found st (take_with unit (call_of st.calling unit.work.call) unit.flying) (take_found unit (call_of st.calling unit.work.call) unit.flying))
    (else_found MakesNone (done_event st unit) _ (if_found MakesNone (events.Done unit.work.id) (allowed st (events.Done unit.work.id)) (λ _ call. refl))
    (else_found MakesNone (scan_event st unit) _ (if_found MakesNone (events.Scan (record { unit = unit.work.id; batch = next_batch st unit })) _ (λ _ call. refl))
    (else_found MakesNone (fetch_event st unit) (begin_event st unit) (if_found MakesNone (events.Fetch (record { unit = unit.work.id; batch = next_batch st unit })) _ (λ _ call. refl))
    (if_found MakesNone (events.Begin unit.work.id (reads st.holding unit)) _ (λ _ call. refl)))))

-- nor does a step of a call
pub drive_makes_none : (st : State) (number : ℕ) → Found MakesNone (drive_event st number)
unfolding drive_event
drive_makes_none st number =
    test_found MakesNone (is_unanswered (call_of st.calling number)) _
    (else_found MakesNone (answer_event st number) _
    (any_found st _ (map_found (λ (outcome : Outcome). events.Answer (record { call = number; outcome = outcome })) (λ outcome call. refl) (option_and_then (outcome_of st number) (call_of st.calling number))))
    (else_found MakesNone (first_some (unit_event st) (open_units st.calling number)) _ (some_found MakesNone (unit_event st) (unit_found st) (open_units st.calling number))
    (else_found MakesNone (round_event st number) (advance_event st.holding)
    (any_found st _ (map_found (round_with st number) (λ found call. refl) (call_of st.calling number)))
    (advance_makes_none st.holding))))
