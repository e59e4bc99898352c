-- The installations and departures of the span of a call.
use Rattle.std.proofs.Common.{◌≡◌, ℕ, ◌+◌, ◌==◌, ◌≤◌, Bool, true, false, if◌then◌else◌, List, [], ◌∷◌, length, refl, ap, ◌∙◌, arith}
use Rattle.grid_event.specs.Spans.{since_invoke, span_end}
use Rattle.grid_event.specs.declared.event.Event.{Event}
use Rattle.grid_event.specs.declared.event.Event.TheVariants.{Depart, Install, Invoke}
use Rattle.cluster_model.specs.Guarantees.{is_move, moves_in}
use Rattle.history_members.specs.Dates.{moves_before, moves_of}

-- those since the call was made, and those before that
since_before : (past : List Event) (call : ℕ) → since_invoke is_move past call + moves_before past call ≡ moves_of past
since_before [] call = refl
since_before (Depart node ∷ past) call = let h = since_before past call in omega (arith, h)
since_before (Install node id ∷ past) call = let h = since_before past call in omega (arith, h)
since_before (Invoke invoke ∷ past) call = by_test (invoke.call == call) (since_before past call)
  where
    by_test : (makes : Bool) → since_invoke is_move past call + moves_before past call ≡ moves_of past
        → (if makes then 0 else 0 + since_invoke is_move past call) + (if makes then moves_of past else moves_before past call) ≡ moves_of past
    by_test true h = omega arith
    by_test false h = omega (arith, h)
since_before (_ ∷ past) call = let h = since_before past call in omega (arith, h)

pub moves_told : (past : List Event) (call : ℕ) → span_end past call ≡ past → moves_in past call + moves_before past call ≡ moves_of past
moves_told past call going = ap (λ p. since_invoke is_move p call + moves_before past call) going ∙ since_before past call

-- at most all events are moves
pub moves_within : (past : List Event) → moves_of past ≤ length past
moves_within [] = omega arith
moves_within (Depart node ∷ past) = let h = moves_within past in omega (arith, h)
moves_within (Install node id ∷ past) = let h = moves_within past in omega (arith, h)
moves_within (_ ∷ past) = let h = moves_within past in omega (arith, h)
