-- What each event keeps that may happen, a run keeps.
use Rattle.std.proofs.Common.{◌≡◌, true, List, [], ◌∷◌}
use mathlib.Core.List.{reverse_aux}
use Rattle.std.proofs.lemmas.Bool.{and_parts}
use Rattle.grid_event.specs.declared.event.Event.{Event}
use Rattle.cluster_model.specs.State.{State}
use Rattle.cluster_model.specs.Step.{allowed, changed, runs, state}

-- what is kept of a state and the past that led to it
abbrev pub Kept : Type 1
Kept = List Event → State → Type 0

-- each event that may happen keeps it
abbrev pub EachKeeps : Kept → Type 0
EachKeeps P = (past : List Event) (st : State) (event : Event) → allowed st event ≡ true → P past st → P (event ∷ past) (changed st event)

-- and so does a run
pub along : (P : Kept) → EachKeeps P → (past : List Event) (st : State) (events : List Event) → runs st events ≡ true → P past st → P (reverse_aux events past) (state st events)
along P each past st [] is h = h
along P each past st (event ∷ events) is h =
    let parts = and_parts (allowed st event) (runs (changed st event) events) is in
    along P each (event ∷ past) (changed st event) events parts.1 (each past st event parts.0 h)
