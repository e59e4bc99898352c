-- Which units are open at a node and on a segment, and which are to be lost.
use Rattle.std.specs.Prelude.{◌≡◌, ◌≤◌, ℕ, zero, suc, ◌+◌, ◌==◌, Bool, true, not, ◌&&◌, cond, List, [], ◌∷◌, length, Option, None, Some, slice_get}
use Rattle.std.specs.FinMap as map_of
use Rattle.std.specs.FinSet as set_of
use Rattle.std.specs.List.Sorted.{IsStrictlySortedBy}
use Rattle.std.specs.Ordering.{nat_cmp}
use Rattle.grid_event.specs.declared.call_events.Ask.{Ask}
use Rattle.loss_listener.specs.Registered.{Registered}
use Rattle.loss_listener.specs.declared.place.Place.{Place}
use Rattle.pipeline_split.specs.declared.piece.Piece.{Piece}
use Rattle.topology_phase.specs.Owners.{among}
use Rattle.cluster_model.specs.State.{Unit, is_open_unit}

-- the node and the segment of a unit that is open
abbrev pub open_place : Unit → Option Place
open_place unit = cond (is_open_unit unit) (Some (record { node = unit.work.node; segment = unit.work.segment })) None

abbrev pub place_by : Option Unit → Option Place
place_by None = None
place_by (Some unit) = open_place unit

-- the node and the segment of the unit of the number, where there is one and it is open; numbers count from 1
abbrev pub place_at : List Unit → ℕ → Option Place
place_at units zero = None
place_at units (suc i) = place_by (slice_get units i)

-- the open units are registered, each at its node and its segment, and no other is
abbrev pub AreRegistered : List Unit → Registered → Type 0
AreRegistered units registered = (number : ℕ) → map_of.get registered number ≡ place_at units number

-- the unit is open at the node, on one of these segments
abbrev pub is_open_at : ℕ → set_of.FinSet nat_cmp → Unit → Bool
is_open_at node segments unit =
    is_open_unit unit && ((unit.work.node == node) && set_of.contains segments unit.work.segment)

-- the unit is lost where the node departs
abbrev pub leaves : ℕ → Unit → Bool
leaves node unit = is_open_unit unit && (unit.work.node == node)

-- there is a unit of each of these numbers
abbrev pub AreThere : List Unit → List ℕ → Type 0
AreThere units numbers = (j number : ℕ) → slice_get numbers j ≡ Some number → (1 ≤ number) × (number ≤ length units)

-- the numbers are those of units, they ascend, and each unit that passes the test is among them
pub record AreListed (passes : Unit → Bool) (units : List Unit) (numbers : List ℕ) : Type 0 where
  pub there : AreThere units numbers
  pub ascending : IsStrictlySortedBy nat_cmp numbers
  pub all : (i : ℕ) (u : Unit) → slice_get units i ≡ Some u → passes u ≡ true → among (i + 1) numbers ≡ true

-- what is to be booked of a unit, where there is one
abbrev pub booking_of : (Unit → Option Piece) → Option Unit → Option Piece
booking_of book None = None
booking_of book (Some unit) = book unit

-- the node and the segment of a unit that is asked
abbrev pub asked_place : Ask → Place
asked_place ask = record { node = ask.node; segment = ask.segment }

-- the asked units are registered too
abbrev pub with_asked : Registered → List Ask → Registered
with_asked registered [] = registered
with_asked registered (ask ∷ asks) = with_asked (map_of.insert registered ask.unit (asked_place ask)) asks

-- none of the asked units is registered
abbrev pub without_asked : Registered → List Ask → Registered
without_asked registered [] = registered
without_asked registered (ask ∷ asks) = without_asked (map_of.remove registered ask.unit) asks

-- each of the asked units is new where those before it are registered
abbrev pub are_new : Registered → List Ask → Bool
are_new registered [] = true
are_new registered (ask ∷ asks) =
    not (map_of.contains_key registered ask.unit) && are_new (map_of.insert registered ask.unit (asked_place ask)) asks
