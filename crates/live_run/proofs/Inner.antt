-- Commands that no script orders choose events that none orders.
use Rattle.std.proofs.Common.{◌≡◌, ℕ, Bool, true, false, List, [], ◌∷◌, Option, None, Some, refl, sym, ap, ◌∙◌, if◌then◌else◌, unwrap_or}
use Rattle.std.specs.Option.{option_map, option_and_then}
use Rattle.grid_event.specs.declared.command.Command.{Command}
use Rattle.grid_event.specs.declared.command.Command.TheVariants.{Put, Erase, Tick, Join, Depart, Announce, Install, Copy, Land, Call, Round, Begin, Scan, Fetch, Take, Done, Answer, Advance, Drive, Serve}
use Rattle.grid_event.specs.declared.event.Event.{Event}
use Rattle.grid_event.specs.declared.event.Event.TheVariants as events
use Rattle.grid_base.specs.declared.entry.Entry.{Entry}
use Rattle.topology_coord.specs.Coordination.{live_nodes}
use Rattle.topology_coord.specs.Following.{cancels}
use Rattle.topology_phase.specs.Topologies.{Topology}
use Rattle.cluster_model.specs.State.{Holding, State, Unit, call_of, segments_of}
use Rattle.cluster_model.specs.State as states
use Rattle.cluster_model.specs.Topologies.{can_announce, can_install, next_topology}
use Rattle.cluster_model.specs.Transfers.{can_copy, can_land, provider}
use Rattle.cluster_model.specs.Units.{further_items, next_batch, passing, reads, walks}
use Rattle.cluster_model.specs.Answers.{outcome_of}
use Rattle.cluster_model.specs.Step.{allowed}
use Rattle.cluster_model.specs.Commands.{advance_event, announce_event, announce_with, answer_event, begin_event, cancel_event, cancel_with, chosen, copy_event, copy_of, copy_with, destinations, done_event, drive_event, fetch_event, first_some, if_allowed, if_any_allowed, if_can, install_event, is_unanswered, land_event, newest_unit, open_units, or_else, round_event, round_with, scan_event, serve_event, served_event, take_event, take_with, unit_event, units_at}
use Rattle.live_run.specs.Serving.{is_inner_event}
use Rattle.live_run.specs.Due.{is_inner}

-- what there is is inner
abbrev pub AnyInner : Option Event → Type 0
AnyInner found = (event : Event) → found ≡ Some event → is_inner_event event ≡ true

nothing : AnyInner None
nothing event e = absurd (cc)

just : (this : Event) → is_inner_event this ≡ true → AnyInner (Some this)
just this inner event e = ap is_inner_event (ap (λ found. unwrap_or found this) (sym e)) ∙ inner

by_test : (test : Bool) (found : Option Event) → AnyInner found → AnyInner (if test then found else None)
by_test true found inner = inner
by_test false found inner = nothing

-- one that may happen
one : (st : State) (this : Event) → is_inner_event this ≡ true → AnyInner (if_allowed st this)
one st this inner = by_test (allowed st this) (Some this) (just this inner)

any : (st : State) (found : Option Event) → AnyInner found → AnyInner (if_any_allowed st found)
any st None inner = nothing
any st (Some event) inner = one st event (inner event refl)

mapped : {A : Type 0} (f : A → Event) → ((x : A) → is_inner_event (f x) ≡ true) → (found : Option A) → AnyInner (option_map f found)
mapped f inner None = nothing
mapped f inner (Some x) = just (f x) (inner x)

either : (first second : Option Event) → AnyInner first → AnyInner second → AnyInner (or_else first second)
either None second a b = b
either (Some found) second a b = a

several : {A : Type 0} (f : A → Option Event) → ((x : A) → AnyInner (f x)) → (xs : List A) → AnyInner (first_some f xs)
several f inner [] = nothing
several f inner (x ∷ xs) = either (f x) (first_some f xs) (inner x) (several f inner xs)

then_one : {A : Type 0} (f : A → Option Event) → ((x : A) → AnyInner (f x)) → (found : Option A) → AnyInner (option_and_then f found)
then_one f inner None = nothing
then_one f inner (Some x) = inner x

-- one that passes a test
tested : (test : Bool) (this : Event) → is_inner_event this ≡ true → AnyInner (if_can test this)
tested test this inner = by_test test (Some this) (just this inner)

announced_inner : (holding : Holding) (topology : Topology) → AnyInner (announce_with holding topology)
announced_inner holding topology = tested (can_announce holding topology) (events.Announce topology) refl

announce_inner : (holding : Holding) → AnyInner (announce_event holding)
announce_inner holding = then_one (announce_with holding) (announced_inner holding) (next_topology holding)

cancel_inner : (holding : Holding) (next : Option Topology) → AnyInner (cancel_with holding next)
cancel_inner holding None = nothing
cancel_inner holding (Some next) = by_test (cancels holding.coord next) (announce_with holding next) (announced_inner holding next)

install_inner : (holding : Holding) (node : ℕ) → AnyInner (install_event holding node)
install_inner holding node = tested (can_install holding node holding.coord.newest.id) (events.Install node holding.coord.newest.id) refl

land_inner : (holding : Holding) (receiver segment : ℕ) → AnyInner (land_event holding receiver segment)
land_inner holding receiver segment = tested (can_land holding receiver segment) (events.Land receiver segment) refl

copy_inner : (holding : Holding) (receiver segment : ℕ) → AnyInner (copy_event holding receiver segment)
copy_inner holding receiver segment =
    then_one (copy_with holding receiver segment)
    (λ node. tested (can_copy holding (copy_of holding receiver segment node)) (events.Copy (copy_of holding receiver segment node)) refl)
    (provider holding receiver segment)

advance_inner : (holding : Holding) → AnyInner (advance_event holding)
unfolding advance_event
advance_inner holding =
    either (first_some (install_event holding) (live_nodes holding.coord)) _ (several (install_event holding) (install_inner holding) (live_nodes holding.coord))
    (either (cancel_event holding) _ (cancel_inner holding (next_topology holding))
    (either (first_some (λ d. land_event holding d.0 d.1) (destinations holding)) _ (several (λ (d : ℕ × ℕ). land_event holding d.0 d.1) (λ d. land_inner holding d.0 d.1) (destinations holding))
    (either (first_some (λ d. copy_event holding d.0 d.1) (destinations holding)) (announce_event holding) (several (λ (d : ℕ × ℕ). copy_event holding d.0 d.1) (λ d. copy_inner holding d.0 d.1) (destinations holding))
    (announce_inner holding))))

take_with_inner : (unit : Unit) (call : Option states.Call) (batch : Option (List Entry)) → AnyInner (take_with unit call batch)
take_with_inner unit (Some call) (Some batch) = just (events.Take (record { unit = unit.work.id; entries = passing call unit batch; given = further_items call (passing call unit batch) })) refl
take_with_inner unit (Some call) None = nothing
take_with_inner unit None (Some batch) = nothing
take_with_inner unit None None = nothing

take_inner : (st : State) (unit : Unit) → AnyInner (take_event st unit)
take_inner st unit = any st _ (take_with_inner unit (call_of st.calling unit.work.call) unit.flying)

scan_inner : (st : State) (unit : Unit) → AnyInner (scan_event st unit)
scan_inner st unit = one st (events.Scan (record { unit = unit.work.id; batch = next_batch st unit })) refl

fetch_inner : (st : State) (unit : Unit) → AnyInner (fetch_event st unit)
fetch_inner st unit = one st (events.Fetch (record { unit = unit.work.id; batch = next_batch st unit })) refl

begin_inner : (st : State) (unit : Unit) → AnyInner (begin_event st unit)
begin_inner st unit = one st (events.Begin unit.work.id (reads st.holding unit)) refl

done_inner : (st : State) (unit : Unit) → AnyInner (done_event st unit)
done_inner st unit = one st (events.Done unit.work.id) refl

reads_inner : (st : State) (unit : Unit) → AnyInner (or_else (scan_event st unit) (or_else (fetch_event st unit) (begin_event st unit)))
reads_inner st unit =
    either (scan_event st unit) (or_else (fetch_event st unit) (begin_event st unit)) (scan_inner st unit)
    (either (fetch_event st unit) (begin_event st unit) (fetch_inner st unit) (begin_inner st unit))

unit_inner : (st : State) (unit : Unit) → AnyInner (unit_event st unit)
unit_inner st unit =
    either (take_event st unit) _ (take_inner st unit)
    (either (done_event st unit) (or_else (scan_event st unit) (or_else (fetch_event st unit) (begin_event st unit))) (done_inner st unit) (reads_inner st unit))

served_inner : (st : State) (unit : Unit) → AnyInner (served_event st unit)
served_inner st unit =
    either (if walks (call_of st.calling unit.work.call) then done_event st unit else None) (or_else (scan_event st unit) (or_else (fetch_event st unit) (begin_event st unit)))
    (by_test (walks (call_of st.calling unit.work.call)) (done_event st unit) (done_inner st unit)) (reads_inner st unit)

round_inner : (st : State) (call : ℕ) → AnyInner (round_event st call)
round_inner st call = any st _ (mapped (round_with st call) (λ found. refl) (call_of st.calling call))

answer_inner : (st : State) (call : ℕ) → AnyInner (answer_event st call)
answer_inner st call =
    any st _
    (mapped (λ outcome. events.Answer (record { call = call; outcome = outcome })) (λ outcome. refl) (option_and_then (outcome_of st call) (call_of st.calling call)))

drive_inner : (st : State) (call : ℕ) → AnyInner (drive_event st call)
unfolding drive_event
drive_inner st call =
    by_test (is_unanswered (call_of st.calling call)) _
    (either (answer_event st call) _ (answer_inner st call)
    (either (first_some (unit_event st) (open_units st.calling call)) _ (several (unit_event st) (unit_inner st) (open_units st.calling call))
    (either (round_event st call) (advance_event st.holding) (round_inner st call) (advance_inner st.holding))))

serve_inner : (st : State) (node : ℕ) → AnyInner (serve_event st node)
unfolding serve_event
serve_inner st node =
    either (install_event st.holding node) _ (install_inner st.holding node)
    (either (first_some (land_event st.holding node) (segments_of st.holding)) _ (several (land_event st.holding node) (land_inner st.holding node) (segments_of st.holding))
    (either (first_some (copy_event st.holding node) (segments_of st.holding)) (first_some (served_event st) (units_at st.calling node)) (several (copy_event st.holding node) (copy_inner st.holding node) (segments_of st.holding))
    (several (served_event st) (served_inner st) (units_at st.calling node))))

-- what a command chooses that no script orders is inner
pub chosen_inner : (st : State) (command : Command) → is_inner command ≡ true → AnyInner (chosen st command)
unfolding chosen
chosen_inner st (Put by_ node key datum lifespan) h = absurd (cc)
chosen_inner st (Erase by_ node key) h = absurd (cc)
chosen_inner st (Tick ticks) h = absurd (cc)
chosen_inner st (Join node) h = absurd (cc)
chosen_inner st (Depart node) h = absurd (cc)
chosen_inner st Announce h = announce_inner st.holding
chosen_inner st (Install node) h = install_inner st.holding node
chosen_inner st (Copy receiver segment) h = copy_inner st.holding receiver segment
chosen_inner st (Land receiver segment) h = land_inner st.holding receiver segment
chosen_inner st (Call by_ call node request) h = absurd (cc)
chosen_inner st (Round call) h = round_inner st call
chosen_inner st (Begin call segment) h = then_one (begin_event st) (begin_inner st) (newest_unit st.calling call segment)
chosen_inner st (Scan call segment) h = then_one (scan_event st) (scan_inner st) (newest_unit st.calling call segment)
chosen_inner st (Fetch call segment) h = then_one (fetch_event st) (fetch_inner st) (newest_unit st.calling call segment)
chosen_inner st (Take call segment) h = then_one (take_event st) (take_inner st) (newest_unit st.calling call segment)
chosen_inner st (Done call segment) h = then_one (done_event st) (done_inner st) (newest_unit st.calling call segment)
chosen_inner st (Answer call) h = answer_inner st call
chosen_inner st Advance h = advance_inner st.holding
chosen_inner st (Drive call) h = drive_inner st call
chosen_inner st (Serve node) h = serve_inner st node
