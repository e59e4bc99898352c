-- What an event of another kind leaves as it is.
use Rattle.std.proofs.Common.{◌≡◌, ℕ, List, false, Option, None, Some, refl}
use Rattle.grid_base.specs.declared.stamped.Stamped.{Stamped}
use Rattle.grid_event.specs.declared.event.Event.{Event}
use Rattle.grid_event.specs.declared.event.Event.TheVariants.{Write, Erase, Tick, Join, Depart, Announce, Install, Copy, Land, Invoke, Round, Begin, Scan, Fetch, Take, Done, Answer}
use Rattle.cluster_model.specs.State.{Holding, State, segment_of}
use Rattle.cluster_model.specs.Writes.{changed_key, written, erased, ticked}
use Rattle.cluster_model.specs.Topologies.{joined, departed, lost_by_departure, announced, installed, lost_by_installation}
use Rattle.cluster_model.specs.Transfers.{copied, landed}
use Rattle.cluster_model.specs.Calls.{invoked, rounded}
use Rattle.cluster_model.specs.Units.{begun_unit, scanned, fetched, taken_by, ended_unit}
use Rattle.cluster_model.specs.Answers.{answered}
use Rattle.cluster_model.specs.Step.{changed}
use Rattle.cluster_model.specs.Laws.{OthersStay, moves_calls, moves_copies, moves_members, moves_units}

-- a change at a key leaves it as it is
key_config : (st : Holding) (node : ℕ) (key : List ℕ) (stamped : Option Stamped) (segment : Option ℕ) → (changed_key st node key stamped segment).config ≡ st.config
key_config st node key stamped None = refl
key_config st node key stamped (Some segment) = refl

-- a change at a key leaves it as it is
key_coord : (st : Holding) (node : ℕ) (key : List ℕ) (stamped : Option Stamped) (segment : Option ℕ) → (changed_key st node key stamped segment).coord ≡ st.coord
key_coord st node key stamped None = refl
key_coord st node key stamped (Some segment) = refl

-- no event changes the settings
config_stays : (st : State) (event : Event) → (changed st event).holding.config ≡ st.holding.config
unfolding written erased ticked joined departed lost_by_departure announced installed lost_by_installation copied landed invoked rounded begun_unit scanned fetched taken_by ended_unit answered
config_stays st (Write w) = key_config st.holding w.node w.key (Some (record { value = w.value; until = w.until })) (segment_of st.holding w.key)
config_stays st (Erase e) = key_config st.holding e.node e.key None (segment_of st.holding e.key)
config_stays st (Tick ticks) = refl
config_stays st (Join node) = refl
config_stays st (Depart node) = refl
config_stays st (Announce topology) = refl
config_stays st (Install node id) = refl
config_stays st (Copy c) = refl
config_stays st (Land receiver segment) = refl
config_stays st (Invoke i) = refl
config_stays st (Round r) = refl
config_stays st (Begin unit runs) = refl
config_stays st (Scan s) = refl
config_stays st (Fetch f) = refl
config_stays st (Take t) = refl
config_stays st (Done unit) = refl
config_stays st (Answer a) = refl

-- no event changes how many segments a call reads
segments_stays : (st : State) (event : Event) → (changed st event).calling.segments ≡ st.calling.segments
unfolding written erased ticked joined departed lost_by_departure announced installed lost_by_installation copied landed invoked rounded begun_unit scanned fetched taken_by ended_unit answered
segments_stays st (Write w) = refl
segments_stays st (Erase e) = refl
segments_stays st (Tick ticks) = refl
segments_stays st (Join node) = refl
segments_stays st (Depart node) = refl
segments_stays st (Announce topology) = refl
segments_stays st (Install node id) = refl
segments_stays st (Copy c) = refl
segments_stays st (Land receiver segment) = refl
segments_stays st (Invoke i) = refl
segments_stays st (Round r) = refl
segments_stays st (Begin unit runs) = refl
segments_stays st (Scan s) = refl
segments_stays st (Fetch f) = refl
segments_stays st (Take t) = refl
segments_stays st (Done unit) = refl
segments_stays st (Answer a) = refl

-- members and topologies are changed by their events alone
pub coord_stays : (st : State) (event : Event) → moves_members event ≡ false → (changed st event).holding.coord ≡ st.holding.coord
unfolding written erased ticked joined departed lost_by_departure announced installed lost_by_installation copied landed invoked rounded begun_unit scanned fetched taken_by ended_unit answered
coord_stays st (Write w) other = key_coord st.holding w.node w.key (Some (record { value = w.value; until = w.until })) (segment_of st.holding w.key)
coord_stays st (Erase e) other = key_coord st.holding e.node e.key None (segment_of st.holding e.key)
coord_stays st (Tick ticks) other = refl
coord_stays st (Join node) other = absurd (cc)
coord_stays st (Depart node) other = absurd (cc)
coord_stays st (Announce topology) other = absurd (cc)
coord_stays st (Install node id) other = absurd (cc)
coord_stays st (Copy c) other = refl
coord_stays st (Land receiver segment) other = refl
coord_stays st (Invoke i) other = refl
coord_stays st (Round r) other = refl
coord_stays st (Begin unit runs) other = refl
coord_stays st (Scan s) other = refl
coord_stays st (Fetch f) other = refl
coord_stays st (Take t) other = refl
coord_stays st (Done unit) other = refl
coord_stays st (Answer a) other = refl

-- copies and transfers are changed by their events alone
copying_stays : (st : State) (event : Event) → moves_copies event ≡ false → (changed st event).holding.copying ≡ st.holding.copying
unfolding written erased ticked joined departed lost_by_departure announced installed lost_by_installation copied landed invoked rounded begun_unit scanned fetched taken_by ended_unit answered
copying_stays st (Write w) other = absurd (cc)
copying_stays st (Erase e) other = absurd (cc)
copying_stays st (Tick ticks) other = absurd (cc)
copying_stays st (Join node) other = refl
copying_stays st (Depart node) other = absurd (cc)
copying_stays st (Announce topology) other = absurd (cc)
copying_stays st (Install node id) other = absurd (cc)
copying_stays st (Copy c) other = absurd (cc)
copying_stays st (Land receiver segment) other = absurd (cc)
copying_stays st (Invoke i) other = refl
copying_stays st (Round r) other = refl
copying_stays st (Begin unit runs) other = refl
copying_stays st (Scan s) other = refl
copying_stays st (Fetch f) other = refl
copying_stays st (Take t) other = refl
copying_stays st (Done unit) other = refl
copying_stays st (Answer a) other = refl

-- units are changed by their events alone
pub units_stays : (st : State) (event : Event) → moves_units event ≡ false → (changed st event).calling.units ≡ st.calling.units
unfolding written erased ticked joined departed lost_by_departure announced installed lost_by_installation copied landed invoked rounded begun_unit scanned fetched taken_by ended_unit answered
units_stays st (Write w) other = refl
units_stays st (Erase e) other = refl
units_stays st (Tick ticks) other = refl
units_stays st (Join node) other = refl
units_stays st (Depart node) other = absurd (cc)
units_stays st (Announce topology) other = refl
units_stays st (Install node id) other = absurd (cc)
units_stays st (Copy c) other = refl
units_stays st (Land receiver segment) other = refl
units_stays st (Invoke i) other = refl
units_stays st (Round r) other = absurd (cc)
units_stays st (Begin unit runs) other = absurd (cc)
units_stays st (Scan s) other = absurd (cc)
units_stays st (Fetch f) other = absurd (cc)
units_stays st (Take t) other = absurd (cc)
units_stays st (Done unit) other = absurd (cc)
units_stays st (Answer a) other = refl

-- calls are changed by their events alone
calls_stays : (st : State) (event : Event) → moves_calls event ≡ false → (changed st event).calling.calls ≡ st.calling.calls
unfolding written erased ticked joined departed lost_by_departure announced installed lost_by_installation copied landed invoked rounded begun_unit scanned fetched taken_by ended_unit answered
calls_stays st (Write w) other = refl
calls_stays st (Erase e) other = refl
calls_stays st (Tick ticks) other = refl
calls_stays st (Join node) other = refl
calls_stays st (Depart node) other = absurd (cc)
calls_stays st (Announce topology) other = refl
calls_stays st (Install node id) other = refl
calls_stays st (Copy c) other = refl
calls_stays st (Land receiver segment) other = refl
calls_stays st (Invoke i) other = absurd (cc)
calls_stays st (Round r) other = absurd (cc)
calls_stays st (Begin unit runs) other = refl
calls_stays st (Scan s) other = refl
calls_stays st (Fetch f) other = refl
calls_stays st (Take t) other = absurd (cc)
calls_stays st (Done unit) other = refl
calls_stays st (Answer a) other = absurd (cc)

-- each part of the state is changed by its kinds of events alone
pub others_stay : OthersStay
others_stay = record { segments = segments_stays; config = config_stays; coord = coord_stays; copying = copying_stays; units = units_stays; calls = calls_stays }
