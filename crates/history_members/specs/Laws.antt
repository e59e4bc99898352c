-- What the definitions are held to. Each of these is proved.
use Rattle.std.specs.Prelude.{◌≡◌, ℕ, ◌+◌, List}
use Rattle.grid_event.specs.Spans.{span_end}
use Rattle.grid_event.specs.declared.event.Event.{Event}
use Rattle.cluster_model.specs.Guarantees.{moves_in}
use Rattle.history_members.specs.Dates.{moves_before, moves_of}

-- the installations and departures of the span of a call that isn't answered are all of them but for those before it was made
abbrev pub MovesAreTold : Type 0
MovesAreTold = (past : List Event) (call : ℕ) → span_end past call ≡ past → moves_in past call + moves_before past call ≡ moves_of past
