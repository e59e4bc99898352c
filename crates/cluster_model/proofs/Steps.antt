-- The state after an event is one.
use Rattle.std.proofs.Common.{◌≡◌, None, Some, sym, ap, ◌∙◌, if◌then◌else◌, unwrap_or}
use Rattle.grid_event.specs.declared.event.Event.{Event}
use Rattle.cluster_model.specs.State.{State}
use Rattle.cluster_model.specs.Step.{after, changed}
use Rattle.cluster_model.specs.Laws.{StepsAreFunctional}

-- two states after an event are equal
one : (st a b : State) (event : Event) → after st event ≡ Some a → after st event ≡ Some b → a ≡ b
one st a b event first second = ap (λ found. unwrap_or found a) (sym first ∙ second)

-- so an event has at most one state after it
pub functional : StepsAreFunctional
functional = record {
  one = one;
  where_allowed = λ st event may. ap (λ test. if test then Some (changed st event) else None) may;
  nowhere_else = λ st event may_not. ap (λ test. if test then Some (changed st event) else None) may_not;
}
