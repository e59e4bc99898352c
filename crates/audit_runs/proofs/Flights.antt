-- A batch flies only for a unit that runs.
use Rattle.std.proofs.Common.{◌≡◌, true, false, List, [], ◌∷◌, map, Option, None, is_none, sym, ap, subst, ◌∙◌}
use Rattle.std.specs.List.{AllByRecursion}
use Rattle.grid_event.specs.declared.call_events.Ask.{Ask}
use Rattle.grid_event.specs.declared.call_events.RoundEvent.{RoundEvent}
use Rattle.grid_event.specs.declared.event.Event.{Event}
use Rattle.grid_event.specs.declared.event.Event.TheVariants.{Round}
use Rattle.local_publisher.specs.declared.unit_state.UnitState.{UnitState}
use Rattle.local_publisher.specs.declared.unit_state.UnitState.TheVariants.{Asked, Running, Refused, Lost, Ended}
use Rattle.cluster_model.specs.Calls.{unit_made}
use Rattle.cluster_model.specs.State.{State, Unit, is_asked, is_running}
use Rattle.cluster_model.specs.Step.{allowed, changed}
use Rattle.cluster_laws.proofs.Lists.{each-append, each_changed}
use Rattle.cluster_laws.proofs.Numbers.{NumberedFrom}
use Rattle.cluster_laws.proofs.units.UnitEffects.{Effect, HasEffect, Stays, Loses, Begins, Scans, Fetches, Takes, Ends, effects, unit_after, units_are, units_made}

-- a batch flies only for a unit that runs
abbrev pub Flies : Unit → Type 0
Flies unit = is_none unit.flying ≡ false → is_running unit.work.state ≡ true

-- a unit that is asked doesn't run
asked_rests : (stage : UnitState) → is_asked stage ≡ true → is_running stage ≡ true → ⊥
asked_rests Asked a r = absurd (cc)
asked_rests Running a r = absurd (cc)
asked_rests (Refused at) a r = absurd (cc)
asked_rests (Lost at) a r = absurd (cc)
asked_rests Ended a r = absurd (cc)

-- what is None doesn't fly
landed : {A : Type 0} (o : Option A) → o ≡ None → is_none o ≡ false → ⊥
landed o e f = let h : true ≡ false = sym (ap is_none e) ∙ f in absurd (cc)

-- each effect of an event on a unit keeps it
flies_after : (st : State) (event : Event) (before later : Unit) → Effect st event before later → Flies before → Flies later
flies_after st event before later (Stays e n) h = subst Flies (sym e) h
flies_after st event before later (Loses at e o m) h = subst Flies (sym e) (λ f. absurd (cc))
flies_after st event before later (Begins runs is e may) h = subst Flies (sym e) (λ f. absurd (asked_rests before.work.state may.asked (h f)))
flies_after st event before later (Scans s is u e may) h = subst Flies (sym e) (λ f. h f)
flies_after st event before later (Fetches v is u e may) h = subst Flies (sym e) (λ f. may.running)
flies_after st event before later (Takes t is u e) h = subst Flies (sym e) (λ f. absurd (cc))
flies_after st event before later (Ends is e may) h = subst Flies (sym e) (λ f. absurd (landed before.flying may.landed f))

-- of a unit that is asked nothing flies
flies_asked : (r : RoundEvent) (asks : List Ask) → AllByRecursion Flies (map (unit_made r.call r.id) asks)
flies_asked r [] = tt
flies_asked r (ask ∷ asks) = ((λ f. absurd (cc)), flies_asked r asks)

flies_made : (event : Event) → AllByRecursion Flies (units_made event)
flies_made (Round r) = flies_asked r r.asks
flies_made _ = tt

-- every event that may happen keeps it of all units
pub flies_kept : (st : State) (event : Event) → allowed st event ≡ true → NumberedFrom 1 st.calling.units
    → AllByRecursion Flies st.calling.units
    → AllByRecursion Flies (changed st event).calling.units
flies_kept st event may numbered h =
    subst (AllByRecursion Flies) (sym (units_are st event))
    (each-append Flies (map (unit_after st event) st.calling.units) (units_made event)
    (each_changed Flies (HasEffect st event) Flies (unit_after st event)
    (λ unit f e. flies_after st event unit (unit_after st event unit) e f) st.calling.units h (effects st event may numbered))
    (flies_made event))
