-- The evidence of a call, and the entries that stood or were there during it, as the events alone tell them. A past lists
-- events, the newest first.
use Rattle.std.specs.Prelude.{◌≡◌, ℕ, ◌+◌, ◌==◌, Bool, ◌&&◌, ◌||◌, if◌then◌else◌, List, [], ◌∷◌, ◌++◌, Option, None, Some}
use Rattle.std.specs.Bool.{⊤}
use Rattle.std.specs.Option.{option_map}
use Rattle.std.specs.Prelude.{◌⊎◌, cond}
use Rattle.std.specs.List.{AllByRecursion, filter, flat_map, list_any, range_with_len}
use Rattle.delivery_mode.specs.Guarantee.{keeps_lost}
use Rattle.grid_base.specs.Datum.{same_bytes, same_entry}
use Rattle.grid_base.specs.declared.datum.Datum.{Datum}
use Rattle.grid_base.specs.declared.entry.Entry.{Entry}
use Rattle.grid_base.specs.declared.item.Item.{Item}
use Rattle.grid_event.specs.Maps.{value_at}
use Rattle.grid_event.specs.Spans.{invoke_of, invokes, span_end}
use Rattle.grid_event.specs.UnitHistories.{asks_of_call, has_ended}
use Rattle.grid_event.specs.declared.call_events.Ask.{Ask}
use Rattle.grid_event.specs.declared.call_events.InvokeEvent.{InvokeEvent}
use Rattle.grid_event.specs.declared.config.Config.{Config}
use Rattle.grid_event.specs.declared.event.Event.{Event}
use Rattle.grid_event.specs.declared.event.Event.TheVariants.{Scan, Take}
use Rattle.grid_event.specs.declared.request.Request.{Request}
use Rattle.cluster_model.specs.State.{is_walk}

-- what a call asks for
abbrev pub request_of : List Event → ℕ → Option Request
request_of past call = option_map (λ (invoke : InvokeEvent). invoke.request) (invoke_of past call)

-- a round of the call asked for the unit
abbrev pub is_unit_of : List Event → ℕ → ℕ → Bool
is_unit_of past call unit = list_any (λ (ask : Ask). ask.unit == unit) (asks_of_call past call)

-- the entries that a unit scanned, in order
abbrev pub scanned_by : List Event → ℕ → List Entry
scanned_by [] unit = []
scanned_by (Scan scan ∷ past) unit =
    if scan.unit == unit then scanned_by past unit ++ scan.batch.entries else scanned_by past unit
scanned_by (_ ∷ past) unit = scanned_by past unit

-- the entries that a call took, and the items that it gave, in order
abbrev pub taken_in : List Event → ℕ → List Entry
taken_in [] call = []
taken_in (Take take ∷ past) call =
    if is_unit_of past call take.unit then taken_in past call ++ take.entries else taken_in past call
taken_in (_ ∷ past) call = taken_in past call

abbrev pub given_in : List Event → ℕ → List Item
given_in [] call = []
given_in (Take take ∷ past) call =
    if is_unit_of past call take.unit then given_in past call ++ take.given else given_in past call
given_in (_ ∷ past) call = given_in past call

-- a unit's entries count: with exactly once those of a unit that ended, else all
abbrev pub is_counted : List Event → Request → Ask → Bool
is_counted past request ask = keeps_lost request.guarantee || has_ended past ask.unit

-- the evidence of a reduction: segments ascending, of each the entries that its counted units scanned, in the order of asking
abbrev pub scanned_evidence : Config → List Event → ℕ → Request → List Entry
scanned_evidence config past call request =
    flat_map
    (λ segment.
    flat_map (λ (ask : Ask). scanned_by past ask.unit)
    (filter (λ (ask : Ask). (ask.segment == segment) && is_counted past request ask) (asks_of_call past call)))
    (range_with_len 0 config.segments)

-- the evidence of a call: for a walk the entries that it took, in order
abbrev pub evidence_by : Config → List Event → ℕ → Option Request → List Entry
evidence_by config past call None = []
evidence_by config past call (Some request) =
    if is_walk request then taken_in past call else scanned_evidence config past call request

unfoldable pub evidence : Config → List Event → ℕ → List Entry
evidence config past call = evidence_by config past call (request_of past call)

-- the value stood at the key at each place from the call's start to the end of the past
abbrev pub StoodThroughout : Config → List Event → ℕ → List ℕ → Datum → Type 0
StoodThroughout config [] call key datum = ⊥
StoodThroughout config (event ∷ past) call key datum =
    (value_at config (event ∷ past) key ≡ Some datum)
    × cond (invokes call event) ⊤ (StoodThroughout config past call key datum)

-- an entry is stable for a call: it stood throughout its span
abbrev pub Stable : Config → List Event → ℕ → List ℕ → Datum → Type 0
Stable config past call key datum = StoodThroughout config (span_end past call) call key datum

-- the value stood at the key at some place from the call's start to the end of the past
abbrev pub StoodOnce : Config → List Event → ℕ → List ℕ → Datum → Type 0
StoodOnce config [] call key datum = ⊥
StoodOnce config (event ∷ past) call key datum =
    (value_at config (event ∷ past) key ≡ Some datum)
    ⊎ cond (invokes call event) ⊥ (StoodOnce config past call key datum)

-- an entry is held in a call: it stood at some place of its span
abbrev pub Held : Config → List Event → ℕ → List ℕ → Datum → Type 0
Held config past call key datum = StoodOnce config (span_end past call) call key datum

-- each of the entries is held in the call
abbrev pub EachHeld : Config → List Event → ℕ → List Entry → Type 0
EachHeld config past call entries = AllByRecursion (λ (e : Entry). Held config past call e.key e.value) entries

-- how many of the elements pass the test
abbrev pub how_many : {A : Type 0} → (A → Bool) → List A → ℕ
how_many test [] = 0
how_many test (x ∷ xs) = cond {A = ℕ} (test x) 1 0 + how_many test xs

-- how often a key is among the entries, and how often an entry
abbrev pub times : List ℕ → List Entry → ℕ
times key entries = how_many (λ (e : Entry). same_bytes e.key key) entries

abbrev pub entry_times : List ℕ → Datum → List Entry → ℕ
entry_times key datum entries = how_many (same_entry (record { key = key; value = datum })) entries
