-- The weight of several events.
use Rattle.std.proofs.Common.{◌≡◌, ◌+◌, List, [], ◌∷◌, ◌++◌, length, arith}
use Rattle.std.proofs.Common.{◌≤◌, ◌<◌, false}
use Rattle.std.proofs.lemmas.Bool.Decides.{nat_tests}
use Rattle.grid_base.specs.declared.limits.TheConstants.{MOST_EVENTS, MOST_WEIGHT}
use Rattle.grid_event.specs.declared.event.Event.{Event}
use Rattle.grid_event.specs.Histories.{History, passes_limit}
use Rattle.grid_event.specs.Weights.{total_weight, weight_of}

-- an event behind the others adds its weight
pub total_weight-push : (events : List Event) (event : Event) →
    total_weight (events ++ event ∷ []) ≡ total_weight events + weight_of event
total_weight-push [] event = omega arith
total_weight-push (first ∷ events) event = omega (arith, total_weight-push events event)

-- the room that is left for an event
pub record HasRoom (history : History) (event : Event) : Type 0 where
  pub one_more : length history.events < MOST_EVENTS
  pub fits : total_weight history.events + weight_of event ≤ MOST_WEIGHT

-- an event that passes no limit has room
pub room-passes_limit : (history : History) (event : Event) → false ≡ passes_limit history event → HasRoom history event
room-passes_limit history event fits = record { one_more = grind (arith, nat_tests); fits = grind (arith, nat_tests) }
