-- What every step of a live run keeps. A past lists events, the newest first.
use Rattle.std.specs.Prelude.{◌≡◌, ℕ, ◌≤◌, ◌<◌, true, List, length, reverse, None, Some, is_some, slice_get}
use Rattle.grid_event.specs.Configs.{is_config}
use Rattle.grid_event.specs.Histories.{History, with_event}
use Rattle.std.specs.FinSet as set
use Rattle.grid_event.specs.declared.config.Config.{Config}
use Rattle.topology_coord.specs.Coordination.{lives}
use Rattle.topology_phase.specs.Owners.{among}
use Rattle.cluster_model.specs.Writes.{can_change}
use Rattle.grid_event.specs.declared.command.Command.{Command}
use Rattle.grid_event.specs.declared.event.Event.{Event}
use Rattle.grid_event.specs.declared.request.Request.{Request}
use Rattle.grid_script.specs.LiveRules.{AreNew, deeds_of}
use Rattle.grid_script.specs.Sets.{Calls}
use Rattle.grid_script.specs.declared.deed.Deed.TheVariants as deeds
use Rattle.grid_script.specs.declared.session.Session.{Session}
use Rattle.grid_script.specs.Scripts.{Lives}
use Rattle.grid_script.specs.declared.member.Member.{Member}
use Rattle.cluster_model.specs.Commands.{advance_event, chosen, if_allowed}
use Rattle.cluster_model.specs.State.{State, call_of, segment_of, segments_of, start}
use Rattle.cluster_model.specs.Step.{allowed, runs, state}
use Rattle.live_run.specs.Serving.{Begins, Doing, IsPartlyServed, changes_in, change_of, deeds_by, doing_of, has_answers, is_inner_event, is_timeless, load_events, orders_in, orders_of, place_of}
use Rattle.grid_event.specs.declared.event.Event.TheVariants as events
use Rattle.cluster_laws.specs.Laws.{NothingIsStuck, fits_journal}
use Rattle.grid_book.specs.Booked.{Booked, cluster_of, history_of, is_full_for}
use Rattle.live_run.specs.Due.{WasFull, is_inner}

-- where the load is whole, an event that no script orders keeps what is served
abbrev pub InnerEventsKeepTheParts : Type 0
InnerEventsKeepTheParts = (script : Lives) (history : History) (event : Event) → is_config script.config ≡ true
    → runs (start script.config) history.events ≡ true → IsPartlyServed script history → length script.load ≤ length history.events
    → is_inner_event event ≡ true → allowed (state (start script.config) history.events) event ≡ true
    → IsPartlyServed script (with_event history event)

-- a command that no script orders chooses such an event
abbrev pub InnerCommandsChooseInnerEvents : Type 0
InnerCommandsChooseInnerEvents = (st : State) (command : Command) (event : Event) → is_inner command ≡ true → chosen st command ≡ Some event
    → is_inner_event event ≡ true

-- where the load is whole, the next order of a session keeps what is served, done where the session acts with the answers of its calls before
abbrev pub OrdersKeepTheParts : Type 0
OrdersKeepTheParts = (script : Lives) (history : History) (event : Event) (doing : Doing)
    → IsPartlyServed script history → length script.load ≤ length history.events
    → doing_of event ≡ Some doing → is_timeless event ≡ true
    → slice_get (orders_of script doing.session) (length (deeds_by doing.session (reverse history.events))) ≡ Some doing.deed
    → doing.node ≡ place_of script (reverse history.events) doing.session
    → has_answers (reverse history.events) doing.session ≡ true
    → IsPartlyServed script (with_event history event)

-- where the load is whole, the next change keeps what is served
abbrev pub ChangesKeepTheParts : Type 0
ChangesKeepTheParts = (script : Lives) (history : History) (event : Event) (change : Member)
    → IsPartlyServed script history → length script.load ≤ length history.events
    → change_of event ≡ Some change → slice_get script.changes (length (changes_in (reverse history.events))) ≡ Some change
    → IsPartlyServed script (with_event history event)

-- a journal that is full for the end of a unit was full for what might come next
abbrev pub FullForDoneIsFull : Type 0
FullForDoneIsFull = (script : Lives) (book : Booked) (unit : ℕ) → book.config ≡ script.config → is_config book.config ≡ true
    → runs (start book.config) book.events ≡ true → fits_journal book.events ≡ true
    → is_full_for book (if_allowed (cluster_of book) (events.Done unit)) ≡ true → WasFull script (history_of book)

-- two orders that make one call are one order
abbrev pub CallsDiffer : Type 0
CallsDiffer = (sessions : List Session) (calls : Calls) (j k m i c : ℕ) (r s : Request) → AreNew calls (deeds_of sessions)
    → slice_get (orders_in sessions j) m ≡ Some (deeds.Call c r) → slice_get (orders_in sessions k) i ≡ Some (deeds.Call c s) → (j ≡ k) × (m ≡ i)

-- the call of a session's next order wasn't made yet
abbrev pub NextCallsAreNew : Type 0
NextCallsAreNew = (script : Lives) (config : Config) (events : List Event) (k c : ℕ) (r : Request) → is_config config ≡ true → runs (start config) events ≡ true
    → AreNew set.empty (deeds_of script.sessions) → ((j : ℕ) → Begins (deeds_by j (reverse events)) (orders_of script j))
    → slice_get (orders_of script k) (length (deeds_by k (reverse events))) ≡ Some (deeds.Call c r) → call_of (state (start config) events).calling c ≡ None

-- where no topology step is left, a key that has a segment may be changed at a live node
abbrev pub WritesGo : Type 0
WritesGo = (st : State) → NothingIsStuck st → advance_event st.holding ≡ None → (node : ℕ) (key : List ℕ) → lives st.holding.coord node ≡ true
    → ((segment : ℕ) → segment_of st.holding key ≡ Some segment → among segment (segments_of st.holding) ≡ true) → is_some (segment_of st.holding key) ≡ true → can_change st.holding node key ≡ true

-- the next write of a load that isn't whole keeps what is served
abbrev pub LoadsKeepTheParts : Type 0
LoadsKeepTheParts = (script : Lives) (history : History) (event : Event) (doing : Doing) → IsPartlyServed script history → length history.events < length script.load
    → doing_of event ≡ Some doing → is_timeless event ≡ true → slice_get (load_events script) (length history.events) ≡ Some event
    → slice_get (orders_of script doing.session) (length (deeds_by doing.session (reverse history.events))) ≡ Some doing.deed
    → doing.node ≡ place_of script (reverse history.events) doing.session → has_answers (reverse history.events) doing.session ≡ true
    → IsPartlyServed script (with_event history event)
