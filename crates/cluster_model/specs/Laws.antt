-- What the definitions are held to. Each of these is proved.
use Rattle.std.specs.Prelude.{◌≡◌, ℕ, ◌+◌, Bool, true, false, cond, List, [], ◌∷◌, Option, None, Some}
use Rattle.std.specs.List.{list_all}
use Rattle.std.specs.Ordering.{eq_by_cmp, nat_cmp}
use Rattle.std.specs.Cmp.Lexicographic.{slice_cmp}
use Rattle.std.specs.FinMap as map_of
use Rattle.grid_base.specs.declared.entry.Entry.{Entry}
use Rattle.grid_base.specs.declared.stamped.Stamped.{Stamped}
use Rattle.grid_event.specs.Maps.{clock_of, entries_of, loses_key, stays}
use Rattle.grid_event.specs.UnitHistories.{asks_of_call}
use Rattle.grid_event.specs.declared.call_events.Ask.{Ask}
use Rattle.grid_event.specs.declared.call_events.InvokeEvent.{InvokeEvent}
use Rattle.grid_event.specs.declared.command.Command.{Command}
use Rattle.grid_event.specs.declared.config.Config.{Config}
use Rattle.grid_event.specs.declared.event.Event.{Event}
use Rattle.grid_event.specs.declared.event.Event.TheVariants.{Write, Erase, Tick, Join, Depart, Announce, Install, Copy, Land, Invoke, Round, Begin, Scan, Fetch, Take, Done, Answer}
use Rattle.grid_event.specs.declared.outcome.Outcome.{Outcome}
use Rattle.grid_event.specs.declared.store_events.EraseEvent.{EraseEvent}
use Rattle.grid_event.specs.declared.store_events.WriteEvent.{WriteEvent}
use Rattle.segment_hash.specs.Segments.{segment_number}
use Rattle.grid_event.specs.declared.request.Request.{Request}
use Rattle.cluster_model.specs.State.{State, is_walk}
use Rattle.cluster_model.specs.Step.{after, allowed, changed}
use Rattle.cluster_model.specs.Commands.{chosen}
use Rattle.cluster_model.specs.Evidence.{evidence, request_of, scanned_by, taken_in}
use Rattle.cluster_model.specs.Causes.{IsCaused, named_cause}

-- the event that a command chooses may happen
abbrev pub ChosenEventsMayHappen : Type 0
ChosenEventsMayHappen = (st : State) (command : Command) (event : Event) → chosen st command ≡ Some event → allowed st event ≡ true

-- an event has at most one state after it, and has one exactly where it may happen
pub record StepsAreFunctional : Type 0 where
  pub one : (st a b : State) (event : Event) → after st event ≡ Some a → after st event ≡ Some b → a ≡ b
  pub where_allowed : (st : State) (event : Event) → allowed st event ≡ true → after st event ≡ Some (changed st event)
  pub nowhere_else : (st : State) (event : Event) → allowed st event ≡ false → after st event ≡ None

-- which events change what the coordinator knows
abbrev pub moves_members : Event → Bool
moves_members (Join node) = true
moves_members (Depart node) = true
moves_members (Announce topology) = true
moves_members (Install node id) = true
moves_members _ = false

-- which events change copies and transfers
abbrev pub moves_copies : Event → Bool
moves_copies (Write w) = true
moves_copies (Erase e) = true
moves_copies (Tick ticks) = true
moves_copies (Depart node) = true
moves_copies (Announce topology) = true
moves_copies (Install node id) = true
moves_copies (Copy c) = true
moves_copies (Land receiver segment) = true
moves_copies _ = false

-- which events change units
abbrev pub moves_units : Event → Bool
moves_units (Depart node) = true
moves_units (Install node id) = true
moves_units (Round r) = true
moves_units (Begin unit runs) = true
moves_units (Scan s) = true
moves_units (Fetch f) = true
moves_units (Take t) = true
moves_units (Done unit) = true
moves_units _ = false

-- which events change calls
abbrev pub moves_calls : Event → Bool
moves_calls (Depart node) = true
moves_calls (Invoke i) = true
moves_calls (Round r) = true
moves_calls (Take t) = true
moves_calls (Answer a) = true
moves_calls _ = false

-- each part of the state is changed by its kinds of events alone, and the settings by none
pub record OthersStay : Type 0 where
  pub segments : (st : State) (event : Event) → (changed st event).calling.segments ≡ st.calling.segments
  pub config : (st : State) (event : Event) → (changed st event).holding.config ≡ st.holding.config
  pub coord : (st : State) (event : Event) → moves_members event ≡ false → (changed st event).holding.coord ≡ st.holding.coord
  pub copying : (st : State) (event : Event) → moves_copies event ≡ false → (changed st event).holding.copying ≡ st.holding.copying
  pub units : (st : State) (event : Event) → moves_units event ≡ false → (changed st event).calling.units ≡ st.calling.units
  pub calls : (st : State) (event : Event) → moves_calls event ≡ false → (changed st event).calling.calls ≡ st.calling.calls

-- two keys have the same bytes
abbrev pub same_key : List ℕ → List ℕ → Bool
same_key = eq_by_cmp (slice_cmp nat_cmp)

-- what stands at a key in the cluster's map
abbrev pub stands_at : Config → List Event → List ℕ → Option Stamped
stands_at config past key = map_of.get (entries_of config past) key

-- an event that doesn't write, erase, depart or tick
abbrev pub leaves_map : Event → Bool
leaves_map (Write w) = false
leaves_map (Erase e) = false
leaves_map (Depart node) = false
leaves_map (Tick ticks) = false
leaves_map _ = true

-- the cluster's map, key by key: nothing stands at first; a write sets its key, an erasure removes its key, a departure removes
-- the keys of the segments that it loses, a tick removes what isn't to stay at the clock after it, and nothing else changes it
pub record MapIsKeyByKey : Type 0 where
  pub first : (config : Config) (key : List ℕ) → stands_at config [] key ≡ None
  pub writes : (config : Config) (past : List Event) (w : WriteEvent) (key : List ℕ) →
      stands_at config (Write w ∷ past) key ≡ cond (same_key key w.key) (Some (record { value = w.value; until = w.until })) (stands_at config past key)
  pub erases : (config : Config) (past : List Event) (e : EraseEvent) (key : List ℕ) →
      stands_at config (Erase e ∷ past) key ≡ cond (same_key key e.key) None (stands_at config past key)
  pub departs : (config : Config) (past : List Event) (node : ℕ) (key : List ℕ) →
      stands_at config (Depart node ∷ past) key
      ≡ cond (loses_key config past node (segment_number config.partition config.segments key)) None (stands_at config past key)
  pub ticks : (config : Config) (past : List Event) (ticks : ℕ) (key : List ℕ) →
      stands_at config (Tick ticks ∷ past) key
      ≡ cond (stays (clock_of past + ticks) (stands_at config past key)) (stands_at config past key) None
  pub others : (config : Config) (past : List Event) (event : Event) (key : List ℕ) → leaves_map event ≡ true →
      stands_at config (event ∷ past) key ≡ stands_at config past key

-- what passes of all entries that the call's own units scanned passes of the evidence of a reduction: it has no others; and
-- the evidence of a walk is what the takes of its own units took
pub record EvidenceIsItsOwn : Type 0 where
  pub reductions : (config : Config) (past : List Event) (call : ℕ) (request : Request) (test : Entry → Bool) →
      request_of past call ≡ Some request → is_walk request ≡ false
      → list_all (λ (ask : Ask). list_all test (scanned_by past ask.unit)) (asks_of_call past call) ≡ true
      → list_all test (evidence config past call) ≡ true
  pub walks : (config : Config) (past : List Event) (call : ℕ) (request : Request) →
      request_of past call ≡ Some request → is_walk request ≡ true → evidence config past call ≡ taken_in past call

-- an outcome has at most one cause, and so two outcomes that are caused name the same one
abbrev pub CausesExcludeOneAnother : Type 0
CausesExcludeOneAnother =
    (config : Config) (past : List Event) (call : ℕ) (invoke : InvokeEvent) (a b : Outcome) →
    IsCaused config past call invoke a → IsCaused config past call invoke b → named_cause a ≡ named_cause b
