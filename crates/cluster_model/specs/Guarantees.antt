-- The three guarantees of a call: what they say of its evidence. A past lists events, the newest first.
use Rattle.std.specs.Prelude.{◌≡◌, ℕ, ◌+◌, ◌==◌, ◌≤◌, Bool, true, false, if◌then◌else◌, List, [], ◌∷◌, Some}
use Rattle.delivery_mode.specs.declared.guarantee.Guarantee.{Guarantee}
use Rattle.delivery_mode.specs.declared.guarantee.Guarantee.TheVariants.{Exact, AtLeast, AtMost}
use Rattle.grid_base.specs.declared.datum.Datum.{Datum}
use Rattle.grid_event.specs.Spans.{since_invoke, span_end}
use Rattle.grid_event.specs.UnitHistories.{has_ended_on}
use Rattle.grid_event.specs.declared.config.Config.{Config}
use Rattle.grid_event.specs.declared.event.Event.{Event}
use Rattle.grid_event.specs.declared.event.Event.TheVariants.{Depart, Install, Round}
use Rattle.segment_hash.specs.Segments.{segment_number}
use Rattle.cluster_model.specs.Evidence.{EachHeld, Stable, entry_times, evidence, times}

-- how many rounds a call made
abbrev pub rounds_in : List Event → ℕ → ℕ
rounds_in [] call = 0
rounds_in (Round round ∷ past) call = (if round.call == call then 1 else 0) + rounds_in past call
rounds_in (_ ∷ past) call = rounds_in past call

-- the event is an installation or a departure
abbrev pub is_move : Event → Bool
is_move (Install node id) = true
is_move (Depart node) = true
is_move _ = false

-- how many installations and departures there are in the span of a call
abbrev pub moves_in : List Event → ℕ → ℕ
moves_in past call = since_invoke is_move (span_end past call) call

-- exactly once: each stable entry is in the evidence once, no key is in it twice, and each entry of it is held
pub record IsExact (config : Config) (past : List Event) (call : ℕ) : Type 0 where
  pub stable : (key : List ℕ) (datum : Datum) → Stable config past call key datum → entry_times key datum (evidence config past call) ≡ 1
  pub once : (key : List ℕ) → times key (evidence config past call) ≤ 1
  pub held : EachHeld config past call (evidence config past call)

-- at least once: each stable entry is in the evidence, each entry of it is held, and no key is in it more often than there are
-- rounds, nor more often than one plus the installations and departures of the span
pub record IsAtLeast (config : Config) (past : List Event) (call : ℕ) : Type 0 where
  pub stable : (key : List ℕ) (datum : Datum) → Stable config past call key datum → 1 ≤ entry_times key datum (evidence config past call)
  pub held : EachHeld config past call (evidence config past call)
  pub by_rounds : (key : List ℕ) → times key (evidence config past call) ≤ rounds_in past call
  pub by_moves : (key : List ℕ) → times key (evidence config past call) ≤ 1 + moves_in past call

-- at most once: no key is in the evidence twice, each entry of it is held, and each stable entry of a segment that ended is in it
pub record IsAtMost (config : Config) (past : List Event) (call : ℕ) : Type 0 where
  pub once : (key : List ℕ) → times key (evidence config past call) ≤ 1
  pub held : EachHeld config past call (evidence config past call)
  pub ended : (key : List ℕ) (datum : Datum) (segment : ℕ) → segment_number config.partition config.segments key ≡ Some segment
      → has_ended_on past call segment ≡ true → Stable config past call key datum → 1 ≤ entry_times key datum (evidence config past call)

-- what a guarantee says of the evidence of a call
abbrev pub Keeps : Guarantee → Config → List Event → ℕ → Type 0
Keeps Exact config past call = IsExact config past call
Keeps AtLeast config past call = IsAtLeast config past call
Keeps AtMost config past call = IsAtMost config past call
