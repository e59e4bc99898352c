-- The event that a command chooses may happen.
use Rattle.std.proofs.Common.{◌≡◌, ℕ, ◌+◌, Bool, true, false, List, [], ◌∷◌, Option, None, Some, refl, sym, ap, subst, ◌∙◌, if◌then◌else◌, unwrap_or}
use Rattle.std.specs.Option.{option_map, option_and_then}
use Rattle.grid_event.specs.declared.command.Command.{Command}
use Rattle.grid_event.specs.declared.command.Command.TheVariants.{Put, Erase, Tick, Join, Depart, Announce, Install, Copy, Land, Call, Round, Begin, Scan, Fetch, Take, Done, Answer, Advance, Drive, Serve}
use Rattle.grid_event.specs.declared.event.Event.{Event}
use Rattle.grid_event.specs.declared.event.Event.TheVariants as events
use Rattle.topology_coord.specs.Coordination.{live_nodes}
use Rattle.topology_coord.specs.Following.{cancels}
use Rattle.topology_phase.specs.Topologies.{Topology}
use Rattle.cluster_model.specs.State.{State, Unit, call_of, segments_of}
use Rattle.cluster_model.specs.Topologies.{next_topology}
use Rattle.cluster_model.specs.Transfers.{provider}
use Rattle.cluster_model.specs.Units.{next_batch, reads, walks}
use Rattle.cluster_model.specs.Step.{allowed}
use Rattle.cluster_model.specs.Commands.{advance_event, announce_event, announce_with, copy_of, copy_with, answer_event, begin_event, cancel_event, cancel_with, chosen, copy_event, destinations, done_event, drive_event, fetch_event, first_some, if_allowed, if_any_allowed, if_can, install_event, is_unanswered, land_event, newest_unit, open_units, or_else, round_event, round_with, scan_event, serve_event, served_event, take_event, take_with, unit_event, units_at}

-- what is true of the event, where there is one
abbrev pub Found : (Event → Type 0) → Option Event → Type 0
Found P found = (event : Event) → found ≡ Some event → P event

-- of nothing anything is true
pub none_found : (P : Event → Type 0) → Found P None
none_found P event e = absurd (cc)

-- one that hangs on a test
pub if_found : (P : Event → Type 0) (this : Event) (test : Bool) → (test ≡ true → P this) → Found P (if_can test this)
if_found P this true h event e = subst P (ap (λ found. unwrap_or found this) e) (h refl)
if_found P this false h event e = absurd (cc)

-- of two the first that there is
pub else_found : (P : Event → Type 0) (first second : Option Event) → Found P first → Found P second → Found P (or_else first second)
else_found P None second a b = b
else_found P (Some found) second a b = a

-- of several the first that there is
pub some_found : {A : Type 0} (P : Event → Type 0) (f : A → Option Event) → ((x : A) → Found P (f x)) → (xs : List A) → Found P (first_some f xs)
some_found P f each [] = none_found P
some_found P f each (x ∷ xs) = else_found P (f x) (first_some f xs) (each x) (some_found P f each xs)

-- what there is where a test passes
pub test_found : (P : Event → Type 0) (test : Bool) (found : Option Event) → Found P found → Found P (if test then found else None)
test_found P true found h = h
test_found P false found h = none_found P

-- one of what may be there
pub next_found : {A : Type 0} (P : Event → Type 0) (f : A → Option Event) → ((x : A) → Found P (f x)) → (found : Option A) → Found P (option_and_then f found)
next_found P f each None = none_found P
next_found P f each (Some x) = each x

-- the event may happen
abbrev pub MayHappen : State → Option Event → Type 0
MayHappen st = Found (λ event. allowed st event ≡ true)

-- where there is no event, each that there is may happen
none_may : (st : State) → MayHappen st None
none_may st = none_found (λ event. allowed st event ≡ true)

-- so an event is chosen only where it may happen
if_may : (st : State) (this : Event) → MayHappen st (if_allowed st this)
if_may st this = if_found (λ event. allowed st event ≡ true) this (allowed st this) (λ may. may)

-- and so is one of what may be there
any_may : (st : State) (found : Option Event) → MayHappen st (if_any_allowed st found)
any_may st None = none_may st
any_may st (Some event) = if_may st event

-- the first of two that may happen may happen
else_may : (st : State) (first second : Option Event) → MayHappen st first → MayHappen st second → MayHappen st (or_else first second)
else_may st = else_found (λ event. allowed st event ≡ true)

-- and the first of several
some_may : {A : Type 0} (st : State) (f : A → Option Event) → ((x : A) → MayHappen st (f x)) → (xs : List A) → MayHappen st (first_some f xs)
some_may st = some_found (λ event. allowed st event ≡ true)

-- and one that hangs on a test
test_may : (st : State) (test : Bool) (found : Option Event) → MayHappen st found → MayHappen st (if test then found else None)
test_may st = test_found (λ event. allowed st event ≡ true)

-- and one of what may be there
next_may : {A : Type 0} (st : State) (f : A → Option Event) → ((x : A) → MayHappen st (f x)) → (found : Option A) → MayHappen st (option_and_then f found)
next_may st = next_found (λ event. allowed st event ≡ true)

-- the announcement that is chosen may happen
announce_may : (st : State) → MayHappen st (announce_event st.holding)
announce_may st = next_may st (announce_with st.holding) (λ topology. if_may st (events.Announce topology)) (next_topology st.holding)

-- and the announcement of a cancellation
cancel_may : (st : State) (next : Option Topology) → MayHappen st (cancel_with st.holding next)
cancel_may st None = none_may st
cancel_may st (Some next) = test_may st (cancels st.holding.coord next) (announce_with st.holding next) (if_may st (events.Announce next))

-- and the copy
copy_may : (st : State) (receiver segment : ℕ) → MayHappen st (copy_event st.holding receiver segment)
copy_may st receiver segment = next_may st (copy_with st.holding receiver segment) (λ node. if_may st (events.Copy (copy_of st.holding receiver segment node))) (provider st.holding receiver segment)

-- and what Advance chooses
advance_may : (st : State) → MayHappen st (advance_event st.holding)
unfolding advance_event
advance_may st =
    else_may st (first_some (install_event st.holding) (live_nodes st.holding.coord)) _ (some_may st (install_event st.holding) (λ node. if_may st (events.Install node st.holding.coord.newest.id)) (live_nodes st.holding.coord))
    (else_may st (cancel_event st.holding) _ (cancel_may st (next_topology st.holding))
    (else_may st (first_some (λ d. land_event st.holding d.0 d.1) (destinations st.holding)) _ (some_may st (λ (d : ℕ × ℕ). land_event st.holding d.0 d.1) (λ d. if_may st (events.Land d.0 d.1)) (destinations st.holding))
    (else_may st (first_some (λ d. copy_event st.holding d.0 d.1) (destinations st.holding)) (announce_event st.holding) (some_may st (λ (d : ℕ × ℕ). copy_event st.holding d.0 d.1) (λ d. copy_may st d.0 d.1) (destinations st.holding))
    (announce_may st))))

-- the take that is chosen of a unit may happen
take_may : (st : State) (unit : Unit) → MayHappen st (take_event st unit)
take_may st unit = any_may st (take_with unit (call_of st.calling unit.work.call) unit.flying)

-- and the scan
scan_may : (st : State) (unit : Unit) → MayHappen st (scan_event st unit)
scan_may st unit = if_may st (events.Scan (record { unit = unit.work.id; batch = next_batch st unit }))

-- and the fetch
fetch_may : (st : State) (unit : Unit) → MayHappen st (fetch_event st unit)
fetch_may st unit = if_may st (events.Fetch (record { unit = unit.work.id; batch = next_batch st unit }))

-- and the begin
begin_may : (st : State) (unit : Unit) → MayHappen st (begin_event st unit)
begin_may st unit = if_may st (events.Begin unit.work.id (reads st.holding unit))

-- and the end
done_may : (st : State) (unit : Unit) → MayHappen st (done_event st unit)
done_may st unit = if_may st (events.Done unit.work.id)

-- reading and beginning
reads_may : (st : State) (unit : Unit) → MayHappen st (or_else (scan_event st unit) (or_else (fetch_event st unit) (begin_event st unit)))
reads_may st unit =
    else_may st (scan_event st unit) (or_else (fetch_event st unit) (begin_event st unit)) (scan_may st unit)
    (else_may st (fetch_event st unit) (begin_event st unit) (fetch_may st unit) (begin_may st unit))

-- so the event that Drive chooses of a unit may happen
unit_may : (st : State) (unit : Unit) → MayHappen st (unit_event st unit)
unit_may st unit =
    else_may st (take_event st unit) _ (take_may st unit)
    (else_may st (done_event st unit) (or_else (scan_event st unit) (or_else (fetch_event st unit) (begin_event st unit))) (done_may st unit) (reads_may st unit))

-- and the one that Serve chooses of it
served_may : (st : State) (unit : Unit) → MayHappen st (served_event st unit)
served_may st unit =
    else_may st (if walks (call_of st.calling unit.work.call) then done_event st unit else None) (or_else (scan_event st unit) (or_else (fetch_event st unit) (begin_event st unit)))
    (test_may st (walks (call_of st.calling unit.work.call)) (done_event st unit) (done_may st unit)) (reads_may st unit)

-- what Drive chooses may happen
drive_may : (st : State) (call : ℕ) → MayHappen st (drive_event st call)
unfolding drive_event
drive_may st call =
    test_may st (is_unanswered (call_of st.calling call)) _
    (else_may st (answer_event st call) _ (any_may st _)
    (else_may st (first_some (unit_event st) (open_units st.calling call)) _ (some_may st (unit_event st) (unit_may st) (open_units st.calling call))
    (else_may st (round_event st call) (advance_event st.holding) (any_may st (option_map (round_with st call) (call_of st.calling call))) (advance_may st))))

-- what Serve chooses may happen
serve_may : (st : State) (node : ℕ) → MayHappen st (serve_event st node)
unfolding serve_event
serve_may st node =
    else_may st (install_event st.holding node) _ (if_may st (events.Install node st.holding.coord.newest.id))
    (else_may st (first_some (land_event st.holding node) (segments_of st.holding)) _ (some_may st (land_event st.holding node) (λ segment. if_may st (events.Land node segment)) (segments_of st.holding))
    (else_may st (first_some (copy_event st.holding node) (segments_of st.holding)) (first_some (served_event st) (units_at st.calling node)) (some_may st (copy_event st.holding node) (copy_may st node) (segments_of st.holding))
    (some_may st (served_event st) (served_may st) (units_at st.calling node))))

-- what any command chooses may happen
pub chosen_may : (st : State) (command : Command) → MayHappen st (chosen st command)
unfolding chosen
chosen_may st (Put by_ node key datum lifespan) =
    if_may st
    (events.Write
    (record { by = by_; node = node; key = key; value = datum; until = option_map (λ ticks. st.holding.copying.clock + ticks) lifespan }))
chosen_may st (Erase by_ node key) = if_may st (events.Erase (record { by = by_; node = node; key = key }))
chosen_may st (Tick ticks) = if_may st (events.Tick ticks)
chosen_may st (Join node) = if_may st (events.Join node)
chosen_may st (Depart node) = if_may st (events.Depart node)
chosen_may st Announce = announce_may st
chosen_may st (Install node) = if_may st (events.Install node st.holding.coord.newest.id)
chosen_may st (Copy receiver segment) = copy_may st receiver segment
chosen_may st (Land receiver segment) = if_may st (events.Land receiver segment)
chosen_may st (Call by_ call node request) =
    if_may st (events.Invoke (record { by = by_; call = call; node = node; request = request }))
chosen_may st (Round call) = any_may st _
chosen_may st (Begin call segment) = next_may st (begin_event st) (begin_may st) (newest_unit st.calling call segment)
chosen_may st (Scan call segment) = next_may st (scan_event st) (scan_may st) (newest_unit st.calling call segment)
chosen_may st (Fetch call segment) = next_may st (fetch_event st) (fetch_may st) (newest_unit st.calling call segment)
chosen_may st (Take call segment) = next_may st (take_event st) (take_may st) (newest_unit st.calling call segment)
chosen_may st (Done call segment) = next_may st (done_event st) (done_may st) (newest_unit st.calling call segment)
chosen_may st (Answer call) = any_may st _
chosen_may st Advance = advance_may st
chosen_may st (Drive call) = drive_may st call
chosen_may st (Serve node) = serve_may st node
