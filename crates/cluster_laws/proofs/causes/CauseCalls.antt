-- Which call is found after each event, and what it was before.
use Rattle.std.proofs.Common.{◌≡◌, ℕ, ◌+◌, ◌==◌, Bool, true, false, cond, map, Option, None, Some, refl, sym, ap, ◌∙◌, unwrap_or}
use Rattle.std.proofs.lemmas.Bool.{eqb-true}
use Rattle.std.specs.FinMap as map_of
use Rattle.grid_event.specs.Taking.{Taking}
use Rattle.grid_event.specs.declared.call_events.AnswerEvent.{AnswerEvent}
use Rattle.grid_event.specs.declared.call_events.Ask.{Ask}
use Rattle.grid_event.specs.declared.call_events.InvokeEvent.{InvokeEvent}
use Rattle.grid_event.specs.declared.call_events.RoundEvent.{RoundEvent}
use Rattle.grid_event.specs.declared.event.Event.{Event}
use Rattle.topology_coord.specs.Coordination.{lost_segments}
use Rattle.cluster_model.proofs.Frames.{others_stay}
use Rattle.cluster_model.specs.Answers.{answered, with_outcome}
use Rattle.cluster_model.specs.Calls.{new_call, invoked, rounded, with_round}
use Rattle.cluster_model.specs.Laws.{moves_calls}
use Rattle.grid_event.specs.declared.event.Event.TheVariants.{Depart}
use Rattle.cluster_model.specs.State.{Call, State, Unit, call_of, unit_of}
use Rattle.cluster_model.specs.Step.{changed}
use Rattle.cluster_model.specs.Topologies.{departed, lost_by_departure, notes_losses}
use Rattle.cluster_model.specs.Units.{call_of_unit, taken_by, with_taking}
use Rattle.cluster_laws.proofs.units.CallLinks.{call_each, call_put}
use Rattle.cluster_laws.proofs.copies.Facts.{changed_some}

-- a call was found before
pub record WasFound (st : State) (number : ℕ) (call : Call) : Type 0 where
  pub before : Call
  pub there : call_of st.calling number ≡ Some before
  pub originator : call.originator ≡ before.originator
  pub request : call.request ≡ before.request
  pub rounds : call.rounds ≡ before.rounds
  pub last_round : call.last_round ≡ before.last_round
  pub lost : call.lost ≡ before.lost
  pub outcome : call.outcome ≡ before.outcome

-- a call that is found now as before
was_itself : (st : State) (number : ℕ) (call : Call) → call_of st.calling number ≡ Some call → WasFound st number call
was_itself st number call e = record { before = call; there = e; originator = refl; request = refl; rounds = refl; last_round = refl; lost = refl; outcome = refl }

-- after an event that changes no call
pub found_aside : (st : State) (event : Event) → moves_calls event ≡ false → (number : ℕ) (call : Call) → call_of (changed st event).calling number ≡ Some call → call_of st.calling number ≡ Some call
found_aside st event other number call e = ap (λ calls. map_of.get calls number) (sym (others_stay.calls st event other)) ∙ e

-- after a departure
pub found_departed : (st : State) (node number : ℕ) (call : Call) → call_of (changed st (Depart node)).calling number ≡ Some call →
    (before : Call) × ((call_of st.calling number ≡ Some before) × (notes_losses st.calling.units (lost_segments st.holding.coord node) number before ≡ call))
unfolding departed lost_by_departure
found_departed st node number call e =
    let was = changed_some (notes_losses st.calling.units (lost_segments st.holding.coord node) number) (call_of st.calling number) call (sym (call_each (notes_losses st.calling.units (lost_segments st.holding.coord node)) st.calling.calls number) ∙ e) in
    (was.0, (was.1, was.2))

-- what is there of two equal options
pub same_some : {A : Type 0} (a b : A) → Some a ≡ Some b → a ≡ b
same_some a b e = ap (λ o. unwrap_or o a) e

-- after a call is made: it is the one, or was found before
pub found_invoked : (st : State) (i : InvokeEvent) (number : ℕ) (call : Call) → call_of (invoked st.calling i) number ≡ Some call → cond (i.call == number) (new_call i.node i.request ≡ call) (call_of st.calling number ≡ Some call)
unfolding invoked
found_invoked st i number call e = by_test (i.call == number) (sym (call_put st.calling.calls i.call (new_call i.node i.request) number) ∙ e)
  where
    by_test : (b : Bool) → cond b (Some (new_call i.node i.request)) (call_of st.calling number) ≡ Some call → cond b (new_call i.node i.request ≡ call) (call_of st.calling number ≡ Some call)
    by_test true e = same_some (new_call i.node i.request) call e
    by_test false e = e

-- after a round: its call has made one more, and another was found before
pub found_rounded : (st : State) (r : RoundEvent) (number : ℕ) (call : Call) → call_of (rounded st.calling r) number ≡ Some call →
    (before : Call) × ((call_of st.calling number ≡ Some before)
    × cond (r.call == number) (record before { rounds = before.rounds + 1; last_round = map (λ (ask : Ask). ask.unit) r.asks } ≡ call) (before ≡ call))
unfolding rounded
found_rounded st r number call e = by_found (call_of st.calling r.call) refl e
  where
    more : Call → Call
    more before = record before { rounds = before.rounds + 1; last_round = map (λ (ask : Ask). ask.unit) r.asks }

    by_test : (found : Call) → call_of st.calling r.call ≡ Some found → (b : Bool) → (r.call == number) ≡ b → cond b (Some (more found)) (call_of st.calling number) ≡ Some call →
        (before : Call) × ((call_of st.calling number ≡ Some before) × cond b (more before ≡ call) (before ≡ call))
    by_test found f true t e = (found, (ap (call_of st.calling) (sym (eqb-true r.call number t)) ∙ f, same_some (more found) call e))
    by_test found f false t e = (call, (e, refl))

    by_none : (b : Bool) → (r.call == number) ≡ b → call_of st.calling r.call ≡ None → call_of st.calling number ≡ Some call →
        (before : Call) × ((call_of st.calling number ≡ Some before) × cond b (more before ≡ call) (before ≡ call))
    by_none true t f e = let same = ap (call_of st.calling) (eqb-true r.call number t) in absurd (cc)
    by_none false t f e = (call, (e, refl))

    by_found : (found : Option Call) → call_of st.calling r.call ≡ found → map_of.get (with_round st.calling r found) number ≡ Some call →
        (before : Call) × ((call_of st.calling number ≡ Some before) × cond (r.call == number) (more before ≡ call) (before ≡ call))
    by_found None f e = by_none (r.call == number) refl f e
    by_found (Some found) f e = by_test found f (r.call == number) refl (sym (call_put st.calling.calls r.call (more found) number) ∙ e)

-- after a taking the call has more entries, and is else as it was
pub found_taken : (st : State) (t : Taking) (number : ℕ) (call : Call) → call_of (taken_by st.calling t) number ≡ Some call → WasFound st number call
unfolding taken_by
found_taken st t number call e = by_found (unit_of st.calling t.unit) (call_of_unit st.calling (unit_of st.calling t.unit)) refl e
  where
    by_test : (unit : Unit) (found after : Call) → call_of st.calling unit.work.call ≡ Some found → after.originator ≡ found.originator → after.request ≡ found.request → after.rounds ≡ found.rounds →
        after.last_round ≡ found.last_round → after.lost ≡ found.lost → after.outcome ≡ found.outcome → (b : Bool) → (unit.work.call == number) ≡ b → cond b (Some after) (call_of st.calling number) ≡ Some call → WasFound st number call
    by_test unit found after f originator request rounds last lost outcome true t e =
        let same : after ≡ call = same_some after call e in
        record {
          before = found;
          there = ap (call_of st.calling) (sym (eqb-true unit.work.call number t)) ∙ f;
          originator = ap (λ (c : Call). c.originator) (sym same) ∙ originator;
          request = ap (λ (c : Call). c.request) (sym same) ∙ request;
          rounds = ap (λ (c : Call). c.rounds) (sym same) ∙ rounds;
          last_round = ap (λ (c : Call). c.last_round) (sym same) ∙ last;
          lost = ap (λ (c : Call). c.lost) (sym same) ∙ lost;
          outcome = ap (λ (c : Call). c.outcome) (sym same) ∙ outcome;
        }
    by_test unit found after f originator request rounds last lost outcome false t e = was_itself st number call e

    by_found : (unit : Option Unit) (found : Option Call) → call_of_unit st.calling unit ≡ found → map_of.get (with_taking st.calling t unit found) number ≡ Some call → WasFound st number call
    by_found None found f e = was_itself st number call e
    by_found (Some unit) None f e = was_itself st number call e
    by_found (Some unit) (Some found) f e =
        by_test unit found _ f refl refl refl refl refl refl (unit.work.call == number) refl (sym (call_put st.calling.calls unit.work.call _ number) ∙ e)

-- after an answer its call has the outcome, and another was found before
pub found_answered : (st : State) (a : AnswerEvent) (number : ℕ) (call : Call) → call_of (answered st.calling a) number ≡ Some call →
    (before : Call) × ((call_of st.calling number ≡ Some before) × cond (a.call == number) (record before { outcome = Some a.outcome } ≡ call) (before ≡ call))
unfolding answered
found_answered st a number call e = by_found (call_of st.calling a.call) refl e
  where
    more : Call → Call
    more before = record before { outcome = Some a.outcome }

    by_test : (found : Call) → call_of st.calling a.call ≡ Some found → (b : Bool) → (a.call == number) ≡ b → cond b (Some (more found)) (call_of st.calling number) ≡ Some call →
        (before : Call) × ((call_of st.calling number ≡ Some before) × cond b (more before ≡ call) (before ≡ call))
    by_test found f true t e = (found, (ap (call_of st.calling) (sym (eqb-true a.call number t)) ∙ f, same_some (more found) call e))
    by_test found f false t e = (call, (e, refl))

    by_none : (b : Bool) → (a.call == number) ≡ b → call_of st.calling a.call ≡ None → call_of st.calling number ≡ Some call →
        (before : Call) × ((call_of st.calling number ≡ Some before) × cond b (more before ≡ call) (before ≡ call))
    by_none true t f e = let same = ap (call_of st.calling) (eqb-true a.call number t) in absurd (cc)
    by_none false t f e = (call, (e, refl))

    by_found : (found : Option Call) → call_of st.calling a.call ≡ found → map_of.get (with_outcome st.calling a found) number ≡ Some call →
        (before : Call) × ((call_of st.calling number ≡ Some before) × cond (a.call == number) (more before ≡ call) (before ≡ call))
    by_found None f e = by_none (a.call == number) refl f e
    by_found (Some found) f e = by_test found f (a.call == number) refl (sym (call_put st.calling.calls a.call (more found) number) ∙ e)
