-- What the events tell of calls and of their units is kept by every event: calls and asks are told, and the calls of units were made.
use Rattle.std.proofs.Common.{◌≡◌, ℕ, ◌==◌, Bool, true, false, if◌then◌else◌, List, [], ◌∷◌, map, None, Some, is_none, refl, sym, ap, subst, ◌∙◌}
use Rattle.std.specs.FinMap as map_of
use Rattle.std.specs.List.{AllByRecursion}
use Rattle.std.specs.Ordering.{nat_cmp}
use Rattle.grid_event.specs.Spans.{invoke_of}
use Rattle.grid_event.specs.declared.call_events.Ask.{Ask}
use Rattle.grid_event.specs.declared.call_events.RoundEvent.{RoundEvent}
use Rattle.grid_event.specs.declared.config.Config.{Config}
use Rattle.grid_event.specs.declared.event.Event.{Event}
use Rattle.grid_event.specs.declared.event.Event.TheVariants.{Invoke, Round}
use Rattle.cluster_model.specs.Calls.{unit_made}
use Rattle.cluster_model.specs.State.{Call, State, Unit, call_of, start}
use Rattle.cluster_model.specs.Step.{allowed, changed}
use Rattle.cluster_laws.proofs.units.CallLinks.{AsksTold, CallTold, CallsTold, IsKnown, none_told}
use Rattle.cluster_laws.proofs.units.CallSteps.{asks_told, calls_told}
use Rattle.cluster_laws.proofs.Lists.{each-append, each_changed}
use Rattle.cluster_laws.proofs.Numbers.{NumberedFrom}
use Rattle.cluster_laws.proofs.units.UnitEffects.{HasEffect, effects, same_call, unit_after, units_are, units_made}
use Rattle.cluster_laws.proofs.units.UnitFacts.{CanRound, round_facts}

-- what is told of calls and units
pub record LinksKept (past : List Event) (st : State) : Type 0 where
  pub calls : CallsTold past st
  pub asks : AsksTold past st.calling.units
  pub known : AllByRecursion (IsKnown past) st.calling.units

-- a call that was made stays made
known_later : (past : List Event) (event : Event) (call : ℕ) → is_none (invoke_of past call) ≡ false → is_none (invoke_of (event ∷ past) call) ≡ false
known_later past (Invoke i) call h = by_test (i.call == call)
  where
    by_test : (b : Bool) → is_none (if b then Some i else invoke_of past call) ≡ false
    by_test true = refl
    by_test false = h
known_later past _ call h = h

-- the call of a unit was made, after an event too
known_after : (past : List Event) (st : State) (event : Event) (unit : Unit) → IsKnown past unit → HasEffect st event unit → IsKnown (event ∷ past) (unit_after st event unit)
known_after past st event unit known effect =
    ap (λ n. is_none (invoke_of (event ∷ past) n)) (same_call st event unit (unit_after st event unit) effect) ∙ known_later past event unit.work.call known

-- the units of a round are of a call that was made
known_asked : (past : List Event) (r : RoundEvent) → is_none (invoke_of past r.call) ≡ false → (asks : List Ask) → AllByRecursion (IsKnown (Round r ∷ past)) (map (unit_made r.call r.id) asks)
known_asked past r h [] = tt
known_asked past r h (ask ∷ asks) = (h, known_asked past r h asks)

-- and so are the units that an event makes
known_made : (past : List Event) (st : State) (event : Event) → allowed st event ≡ true → CallsTold past st → AllByRecursion (IsKnown (event ∷ past)) (units_made event)
known_made past st (Round r) may told =
    let found : (call : Call) × CanRound st r call = round_facts st r may in
    known_asked past r (none_told past r.call (call_of st.calling r.call) (told r.call) ∙ ap is_none found.1.there) r.asks
known_made past st _ may told = tt

-- every event that may happen keeps the links
pub links_kept : (past : List Event) (st : State) (event : Event) → allowed st event ≡ true → NumberedFrom 1 st.calling.units → LinksKept past st → LinksKept (event ∷ past) (changed st event)
links_kept past st event may numbered h = record {
  calls = calls_told past st event may numbered h.asks h.calls;
  asks = asks_told past st event h.asks;
  known = subst (AllByRecursion (IsKnown (event ∷ past))) (sym (units_are st event))
      (each-append (IsKnown (event ∷ past)) (map (unit_after st event) st.calling.units) (units_made event)
      (each_changed (IsKnown past) (HasEffect st event) (IsKnown (event ∷ past)) (unit_after st event) (known_after past st event) st.calling.units h.known (effects st event may numbered))
      (known_made past st event may h.calls));
}

-- at the start there are no calls and no units
pub links_first : (config : Config) → LinksKept [] (start config)
links_first config = record { calls = λ call. subst (CallTold [] call) (sym (map_of.get-empty nat_cmp call)) nothing; asks = λ call. refl; known = tt }
  where
    nothing : CallTold [] 0 None
    nothing = record { request = refl; originator = refl; rounds = refl; outcome = refl; taken = refl; given = refl }
